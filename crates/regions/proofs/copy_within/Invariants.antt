-- `regions::copy_within` meets its contract: after i turns the first i places of the region are copied. Assumes nothing.
use Rattle.regions.specs.Region.{Copied}
use Rattle.regions.proofs.copy_within.Given as goal

abbrev pub invariant-loop-i : goal.invariant-loop-i
invariant-loop-i g l = Copied l.initial.w l.from l.initial.w l.to l.i l.w
