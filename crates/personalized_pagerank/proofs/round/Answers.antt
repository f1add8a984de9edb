-- `personalized_pagerank::round` meets its contract: the next vector is grown and becomes the current one, and another is begun. Assumes nothing.
use Rattle.std.proofs.Common.{ap, arith}
use lib.Ieee.{binary64, mul}
use Rattle.personalized_pagerank.proofs.Personal.{personal_round_done}
use Rattle.personalized_pagerank.proofs.round.Goals as goal

pub spread-requires : goal.spread-requires
spread-requires c = c.requires.links

pub advance-requires : goal.advance-requires
advance-requires c = omega (arith, c.requires.links.room, c.spread.ensures.front.long)

pub returns : goal.returns
returns c =
    personal_round_done c.args.nodes c.args.w.now c.args.settings.damping c.args.wf.now c.requires c.args.settings.tolerance c.spread.ensures c.advance.ensures (ap (mul binary64 c.args.settings.tolerance) c.nearest_u64_to_f64-n.ensures)
