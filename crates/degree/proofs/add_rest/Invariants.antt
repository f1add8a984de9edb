-- `degree::add_rest` meets its contract: at i both ends of the edges before it have added one. Assumes nothing.
use mathlib.Core.Path.{◌≡◌}
use Rattle.degree.specs.Tally.{pairs_from}
use Rattle.degree.proofs.add_rest.Given as goal

abbrev pub invariant-loop-i : goal.invariant-loop-i
invariant-loop-i l = l.scores ≡ pairs_from l.from l.to l.fn.first l.i l.initial.scores
