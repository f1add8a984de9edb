-- `reply::put_scores` meets its contract. Assumes nothing.
use native.Mathlib.Omega.{arith}
use lib.Ieee.{nan}
use Rattle.reply.specs.Reply.{score_text}
use Rattle.reply.proofs.Sequences.{begun, one_more_line, all_lines}
use Rattle.reply.proofs.put_scores.Goals as goal

pub loop-k-init : goal.loop-k-init
loop-k-init c = (omega arith, begun score_text nan _ _ _)

pub put_score-at-requires : goal.put_score-at-requires
put_score-at-requires c = omega (arith, c.loop-k.invariant)

pub loop-k-preserved : goal.loop-k-preserved
loop-k-preserved c =
    let w = c.put_score-at in
    (omega (arith, c.loop-k.invariant.0, w.ensures.1, w.auto.output, c.loop-k-test.true), one_more_line score_text nan _ _ _ _ _ _ _ _ c.loop-k-test.true w.ensures.0 c.loop-k.invariant.1)

pub returns : goal.returns
returns c = all_lines score_text nan _ _ _ _ _ _ c.loop-k-test.false c.loop-k.invariant.1
