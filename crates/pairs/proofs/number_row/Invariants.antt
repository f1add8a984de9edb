-- `pairs::number_row` meets its contract: before place p, the entries from a on are numbered. Assumes nothing.
use Rattle.pairs.proofs.Numbering.{RowSeen}
use Rattle.pairs.proofs.number_row.Given as goal

abbrev pub invariant-loop-p : goal.invariant-loop-p
invariant-loop-p l = RowSeen l.nodes l.a l.p l.table.beside l.table.marks l.initial.w32 l.w32
