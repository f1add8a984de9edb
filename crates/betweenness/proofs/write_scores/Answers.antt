-- `betweenness::write_scores` meets its contract, case by case. Assumes nothing.
use Rattle.std.proofs.Common.{arith}
use lib.Ieee.{of_bits}
use Rattle.betweenness.proofs.Scaling.{times_pairs, times_half, as_few, as_directed}
use Rattle.betweenness.proofs.write_scores.Goals as goal

pub returns-then-scales : goal.returns-then-scales
returns-then-scales c =
    times_pairs c.args.nodes c.args.directed c.args.normalized c.args.wf.now c.args.scores.now c.if-normalized.true c.if-scales.true c.nearest_usize_to_f64-factor.ensures c.write_scaled.ensures

pub returns-else-scales : goal.returns-else-scales
returns-else-scales c =
    as_few c.args.nodes c.args.directed c.args.normalized c.args.wf.now c.args.scores.now c.requires.held c.if-normalized.true (omega (arith, c.if-scales.false)) c.copy_out.ensures

pub returns-then-directed : goal.returns-then-directed
returns-then-directed c =
    as_directed c.args.nodes c.args.directed c.args.normalized c.args.wf.now c.args.scores.now c.requires.held c.if-normalized.false c.if-directed.true c.copy_out-then-directed.ensures

pub returns-else-directed : goal.returns-else-directed
unfolding of_bits
returns-else-directed c =
    times_half c.args.nodes c.args.directed c.args.normalized c.args.wf.now c.args.scores.now c.if-normalized.false c.if-directed.false c.write_scaled-else-directed.ensures
