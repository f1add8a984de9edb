-- `lists::out_weight` meets its contract: the weights of the entries so far are added. Assumes nothing.
use mathlib.Core.Path.{◌≡◌}
use lib.ListN.{length}
use Rattle.lists.proofs.Reading.{summed}
use Rattle.lists.proofs.out_weight.Given as goal

abbrev pub invariant-loop-at : goal.invariant-loop-at
invariant-loop-at l = l.sum ≡ summed l.nodes (length l.graph.weight.now) l.weight l.w l.v l.at-index
