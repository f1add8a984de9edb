-- `regions::wipe` meets its contract: after i turns the first i places are cleared. Assumes nothing.
use native.Mathlib.Omega.{arith}
use lib.ListN.{length-take}
use Rattle.regions.proofs.Fronts.{cleared_none, cleared_more}
use Rattle.regions.proofs.Written.{front_cleared}
use Rattle.regions.proofs.wipe.Goals as goal

pub loop-place-init : goal.loop-place-init
loop-place-init g c = cleared_none _ _

pub loop-place-preserved : goal.loop-place-preserved
loop-place-preserved g c = rw c.ZERO.ensures (cleared_more _ _ _ _ (omega arith) c.loop-place.invariant)

pub returns : goal.returns
returns g c = front_cleared _ _ _ c.loop-place.place-index _ (omega arith) (omega (arith, length-take c.args.len c.args.w.now)) c.loop-place.invariant
