-- `regions::fill` meets its contract: after i turns the first i places of the region are filled. Assumes nothing.
use native.Mathlib.Omega.{arith}
use Prim.Native.Nat.{◌+◌, ◌-◌}
use lib.ListN.{drop, length-take, length-drop}
use Rattle.regions.proofs.Fronts.{cleared_none, cleared_more}
use Rattle.regions.proofs.Written.{part_filled}
use Rattle.regions.proofs.fill.Goals as goal

pub loop-place-init : goal.loop-place-init
loop-place-init g c = cleared_none _ _

pub loop-place-preserved : goal.loop-place-preserved
loop-place-preserved g c = cleared_more _ _ _ _ (omega arith) c.loop-place.invariant

pub returns : goal.returns
returns g c = part_filled _ _ _ _ _ _ c.loop-place.place-index c.requires (omega arith) (omega (arith, length-take (c.args.base + c.args.len - c.args.base) (drop c.args.base c.args.w.now), length-drop c.args.base c.args.w.now)) c.loop-place.invariant
