-- `pairs::write_back` meets its contract: the edges from e on have moved their cursors and have their totals. Assumes nothing.
use mathlib.Core.Bool.{true}
use lib.ListN.{length}
use Rattle.pairs.specs.Writes.{back_of}
use Rattle.pairs.proofs.Walking.{Results, Moved}
use Rattle.pairs.proofs.write_back.Given as goal

abbrev pub invariant-loop-e : goal.invariant-loop-e
invariant-loop-e l = Moved l.fn.nodes true l.to l.from l.table.marks l.e l.initial.w32 l.w32 × Results (back_of l.from l.to l.initial.w32 l.table.marks l.table.beside l.table.totals l.wf l.forward) (length l.from) l.e l.initial.back l.back
