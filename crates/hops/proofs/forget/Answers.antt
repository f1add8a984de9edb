-- `hops::forget` meets its contract: after i turns the first i nodes of the queue are forgotten. Assumes nothing.
use native.Mathlib.Omega.{arith}
use Rattle.hops.proofs.Forgetting.{forgotten_none, forgotten_more}
use Rattle.hops.proofs.forget.Goals as goal

pub loop-i-init : goal.loop-i-init
loop-i-init c = forgotten_none _ _ _ _

pub loop-i-preserved : goal.loop-i-preserved
loop-i-preserved c = forgotten_more c.requires c.loop-i.invariant (omega arith)
