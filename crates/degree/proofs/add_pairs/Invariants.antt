-- `degree::add_pairs` meets its contract: after k turns both ends of the first 4 * k edges have added one. Assumes nothing.
use mathlib.Core.Path.{◌≡◌}
use Prim.Native.Nat.{◌*◌}
use Rattle.degree.specs.Tally.{pair_tally}
use Rattle.degree.proofs.add_pairs.Given as goal

abbrev pub invariant-loop-k : goal.invariant-loop-k
invariant-loop-k l = l.scores ≡ pair_tally l.from l.to (4 * l.k) l.initial.scores
