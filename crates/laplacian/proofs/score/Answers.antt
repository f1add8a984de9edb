-- `laplacian::score` meets its contract: after k entries the sum has k neighbours. Assumes nothing.
use Rattle.std.proofs.Common.{length, ap, ◌∙◌, arith}
use Rattle.rows.specs.Rows.{row_at}
use Rattle.laplacian.proofs.Sums.{sum_all}
use Rattle.laplacian.proofs.score.Goals as goal

pub returns : goal.returns
returns c =
    c.loop-u.invariant ∙ sum_all (row_at c.args.rows.nodes c.args.rows.cells.now) c.args.v c.loop-u.u-index (omega (arith, ap length c.row-u-items.ensures))
