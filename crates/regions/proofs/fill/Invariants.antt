-- `regions::fill` meets its contract: after i turns the first i places of the region are filled. Assumes nothing.
use mathlib.Core.Path.{◌≡◌}
use Rattle.regions.specs.Region.{cleared}
use Rattle.regions.proofs.fill.Given as goal

abbrev pub invariant-loop-place : goal.invariant-loop-place
invariant-loop-place g l = l.place-items ≡ cleared l.v l.place-index l.initial.place-items
