-- `degree::add_ends` meets its contract: the ends before the index have each added one. Assumes nothing.
use mathlib.Core.Path.{◌≡◌}
use Rattle.degree.specs.Tally.{tally}
use Rattle.degree.proofs.add_ends.Given as goal

abbrev pub invariant-loop-end : goal.invariant-loop-end
invariant-loop-end l = l.scores ≡ tally l.ends l.end-index l.initial.scores
