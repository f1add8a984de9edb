-- `pairs::number_pairs` meets its contract: before the row of v, the rows of the nodes below it are numbered. Assumes nothing.
use Rattle.pairs.proofs.Numbering.{RowsSeen}
use Rattle.pairs.proofs.number_pairs.Given as goal

abbrev pub invariant-loop-v : goal.invariant-loop-v
invariant-loop-v l = RowsSeen l.nodes l.v l.table.beside l.table.marks l.initial.w32 l.w32
