-- `regions::wipe` meets its contract: after i turns the first i places are cleared. Assumes nothing.
use mathlib.Core.Path.{◌≡◌}
use Rattle.regions.specs.Region.{cleared}
use Rattle.regions.proofs.wipe.Given as goal

abbrev pub invariant-loop-place : goal.invariant-loop-place
invariant-loop-place g l = l.place-items ≡ cleared g.T.Blank.ZERO l.place-index l.initial.place-items
