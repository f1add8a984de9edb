-- `betweenness::write_scaled` meets its contract: after v nodes their scores are written. Assumes nothing.
use Rattle.std.proofs.Common.{get_or, refl, arith}
use lib.Ieee.{nan, binary64, mul}
use Rattle.regions.proofs.Fronts.{results_none, results_more}
use Rattle.betweenness.proofs.write_scaled.Goals as goal

pub loop-v-init : goal.loop-v-init
loop-v-init c = results_none _ _

pub loop-v-preserved : goal.loop-v-preserved
loop-v-preserved c = results_more (λ i. mul binary64 (get_or c.args.wf.now i nan) c.args.factor) c.args.scores.now c.loop-v.scores c.loop-v.v _ (omega (arith, c.requires.room)) refl c.loop-v.invariant
