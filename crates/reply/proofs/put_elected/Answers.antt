-- `reply::put_elected` meets its contract. Assumes nothing.
use native.Mathlib.Omega.{arith}
use Rattle.reply.specs.Reply.{elected_text}
use Rattle.reply.proofs.Sequences.{begun, one_more_line, all_lines}
use Rattle.reply.proofs.put_elected.Goals as goal

pub loop-node-init : goal.loop-node-init
loop-node-init c = (omega arith, begun elected_text 0 _ _ _)

pub put_number-at-requires : goal.put_number-at-requires
put_number-at-requires c = omega (arith, c.loop-node.invariant)

pub loop-node-preserved : goal.loop-node-preserved
loop-node-preserved c =
    let w = c.put_number-at in
    (omega (arith, c.loop-node.invariant.0, w.ensures.1, w.auto.output, c.loop-node-test.true), one_more_line elected_text 0 _ _ _ _ _ _ _ _ c.loop-node-test.true (rw c.from.ensures at w.ensures.0) c.loop-node.invariant.1)

pub returns : goal.returns
returns c = all_lines elected_text 0 _ _ _ _ _ _ c.loop-node-test.false c.loop-node.invariant.1
