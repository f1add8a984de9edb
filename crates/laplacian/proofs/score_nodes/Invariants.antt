-- `laplacian::score_nodes` meets its contract: after v nodes their scores are written. Assumes nothing.
use Rattle.std.proofs.Common.{◌≡◌}
use Rattle.regions.specs.Region.{over, list_of}
use Rattle.rows.specs.Rows.{row_at}
use Rattle.laplacian.specs.Laplacian.{laplacian_score}
use Rattle.laplacian.proofs.score_nodes.Given as goal

abbrev pub invariant-loop-v : goal.invariant-loop-v
invariant-loop-v l = l.scores ≡ over (list_of (laplacian_score (row_at l.rows.nodes l.rows.cells.now)) l.v) l.initial.scores
