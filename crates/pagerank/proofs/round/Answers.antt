-- `pagerank::round` meets its contract: the next vector is filled, grown, and becomes the current one. Assumes nothing.
use Rattle.std.proofs.Common.{ap, arith}
use lib.Ieee.{binary64, mul, of_bits}
use Rattle.pagerank.proofs.Nodes.{spread_pre, round_done, base_is}
use Rattle.pagerank.proofs.round.Goals as goal

pub dangling_sum-dangling-requires : goal.dangling_sum-dangling-requires
dangling_sum-dangling-requires c = (c.requires.0.room, c.requires.1)

pub fill-requires : goal.fill-requires
fill-requires c = omega (arith, c.requires.0.room)

pub spread-requires : goal.spread-requires
unfolding of_bits
spread-requires c = spread_pre _ _ c.args.settings.damping _ c.requires.0 c.dangling_sum-dangling.ensures (base_is _ _ _ c.nearest_u64_to_f64-n.ensures) c.fill.ensures

pub advance-requires : goal.advance-requires
advance-requires c = omega (arith, c.requires.0.room, c.fill.ensures.frame.long, c.spread.ensures.front.long)

pub returns : goal.returns
unfolding of_bits
returns c = round_done c.args.nodes c.args.w.now c.args.settings.damping c.args.wf.now c.requires.0 c.dangling_sum-dangling.ensures (base_is _ _ _ c.nearest_u64_to_f64-n.ensures) c.fill.ensures c.args.settings.tolerance c.spread.ensures c.advance.ensures (ap (mul binary64 c.args.settings.tolerance) c.nearest_u64_to_f64-n.ensures)
