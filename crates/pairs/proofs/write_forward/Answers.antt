-- `pairs::write_forward` meets its contract: the edges from e on have moved their cursors and have their totals. Assumes nothing.
use native.Mathlib.Omega.{arith}
use Rattle.pairs.proofs.Walking.{forward_next, forward_moved, forward_more, forward_done}
use Rattle.pairs.proofs.write_forward.Goals as goal

pub next_total-requires : goal.next_total-requires
next_total-requires c = forward_next c.requires c.loop-e.invariant.0 c.loop-e-test.true (omega arith)

pub loop-e-preserved : goal.loop-e-preserved
loop-e-preserved c =
    let at = c.loop-e in
    let some = c.loop-e-test.true in
    let T = c.next_total.ensures in
    (forward_moved c.requires at.invariant.0 some (omega arith) T, forward_more c.requires at.invariant.0 some (omega arith) T at.invariant.1)

pub returns : goal.returns
returns c = forward_done c.requires c.loop-e.invariant.0 c.loop-e.invariant.1 (omega arith)
