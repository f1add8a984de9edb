-- `rows::sum_counts` meets its contract: after v counts their sums stand in their places. Assumes nothing.
use native.Mathlib.Omega.{arith}
use Rattle.rows.proofs.Summing.{none, sum_fits, step}
use Rattle.rows.proofs.sum_counts.Goals as goal

pub loop-v-init : goal.loop-v-init
loop-v-init c = none _ _

pub overflow_add-sum : goal.overflow_add-sum
overflow_add-sum c = omega (arith, sum_fits _ _ _ _ _ c.requires c.loop-v.invariant c.loop-v-test.true)

pub loop-v-preserved : goal.loop-v-preserved
loop-v-preserved c = step _ _ _ _ _ c.requires c.loop-v.invariant c.loop-v-test.true
