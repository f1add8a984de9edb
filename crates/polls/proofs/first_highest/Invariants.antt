-- `polls::first_highest` meets its contract: of the nodes before v the first highest is known. Assumes nothing.
use mathlib.Core.Path.{◌≡◌}
use Prim.Native.Nat.{◌+◌, ◌<◌, ◌-◌}
use lib.ListN.{get_or}
use lib.Ieee.{nan}
use Rattle.polls.specs.Votes.{first_highest}
use Rattle.polls.proofs.first_highest.Given as goal

abbrev pub invariant-loop-v : goal.invariant-loop-v
invariant-loop-v l = (l.best < l.v) × (l.best ≡ first_highest (λ u. get_or l.w (l.nodes + u) nan) (l.v - 1))
