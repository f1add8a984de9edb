-- `pairs::write_back` meets its contract: the edges from e on have moved their cursors and have their totals. Assumes nothing.
use native.Mathlib.Omega.{arith}
use Rattle.pairs.proofs.Walking.{back_pre, back_moved, back_more, back_done}
use Rattle.pairs.proofs.write_back.Goals as goal

pub back_total-requires : goal.back_total-requires
back_total-requires c = back_pre c.requires.0 c.loop-e.invariant.0 c.loop-e-test.true (omega arith)

pub loop-e-preserved : goal.loop-e-preserved
loop-e-preserved c =
    let at = c.loop-e in
    let some = c.loop-e-test.true in
    let B = c.back_total.ensures in
    (back_moved c.requires.0 at.invariant.0 some (omega arith) c.args.forward.now B, back_more c.requires.0 at.invariant.0 some (omega arith) c.args.forward.now B at.invariant.1)

pub returns : goal.returns
returns c = back_done c.args.forward.now c.requires.0 c.loop-e.invariant.0 c.loop-e.invariant.1 (omega arith)
