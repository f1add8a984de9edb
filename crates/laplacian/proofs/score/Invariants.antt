-- `laplacian::score` meets its contract: after k entries the sum has k neighbours. Assumes nothing.
use Rattle.std.proofs.Common.{◌≡◌}
use Rattle.rows.specs.Rows.{row_at}
use Rattle.laplacian.proofs.Sums.{sum_after}
use Rattle.laplacian.proofs.score.Given as goal

abbrev pub invariant-loop-u : goal.invariant-loop-u
invariant-loop-u l = l.sum ≡ sum_after (row_at l.rows.nodes l.rows.cells.now) l.v l.u-index
