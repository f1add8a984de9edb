-- `rows::sum_counts` meets its contract: after v counts their sums stand in their places. Assumes nothing.
use Rattle.rows.proofs.Summing.{Summing}
use Rattle.rows.proofs.sum_counts.Given as goal

abbrev pub invariant-loop-v : goal.invariant-loop-v
invariant-loop-v l = Summing l.nodes l.initial.w l.sum l.v l.w
