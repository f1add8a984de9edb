-- `laplacian::score_nodes` meets its contract: after v nodes their scores are written. Assumes nothing.
use Rattle.std.proofs.Common.{arith}
use Rattle.regions.proofs.Fronts.{results_none, results_more}
use Rattle.rows.specs.Rows.{row_at}
use Rattle.laplacian.specs.Laplacian.{laplacian_score}
use Rattle.laplacian.proofs.score_nodes.Goals as goal

pub loop-v-init : goal.loop-v-init
loop-v-init c = results_none _ _

pub loop-v-preserved : goal.loop-v-preserved
loop-v-preserved c =
    results_more (laplacian_score (row_at c.args.rows.nodes c.args.rows.cells.now)) c.args.scores.now c.loop-v.scores c.loop-v.v _ (omega (arith, c.requires)) c.score.ensures c.loop-v.invariant
