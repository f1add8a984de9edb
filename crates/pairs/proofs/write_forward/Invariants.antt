-- `pairs::write_forward` meets its contract: the edges from e on have moved their cursors and have their totals. Assumes nothing.
use mathlib.Core.Bool.{false}
use lib.ListN.{length}
use Rattle.pairs.specs.Writes.{total_of}
use Rattle.pairs.proofs.Walking.{Results, Moved}
use Rattle.pairs.proofs.write_forward.Given as goal

abbrev pub invariant-loop-e : goal.invariant-loop-e
invariant-loop-e l = Moved l.fn.nodes false l.from l.from l.table.marks l.e l.initial.w32 l.w32 × Results (total_of false l.from l.from l.initial.w32 l.table.marks l.table.beside l.table.totals l.wf) (length l.from) l.e l.initial.forward l.forward
