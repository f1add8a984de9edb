-- `regions::copy_out` meets its contract: after i turns the first i places of the region are written. Assumes nothing.
use mathlib.Core.Path.{◌≡◌}
use Rattle.regions.specs.Region.{over, part}
use Rattle.regions.proofs.copy_out.Given as goal

abbrev pub invariant-loop-i : goal.invariant-loop-i
invariant-loop-i g l = l.out ≡ over (part l.w l.base l.i) l.initial.out
