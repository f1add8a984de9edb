-- `graph::first_fault` meets its contract: the first fault of the edges from the ith on is the first of all. Assumes nothing.
use native.Mathlib.Omega.{arith}
use Rattle.graph.proofs.Checks.{from_fault, to_fault, no_fault, all_passed}
use Rattle.graph.proofs.first_fault.Goals as goal

pub returns-then-graph-i : goal.returns-then-graph-i
returns-then-graph-i c =
    from_fault _ _ _ _ c.requires _ c.loop-i.i c.loop-i-test.true c.if-graph-i.true c.loop-i.invariant

pub returns-then-graph-i-2 : goal.returns-then-graph-i-2
returns-then-graph-i-2 c =
    to_fault _ _ _ _ c.requires _ c.loop-i.i c.loop-i-test.true c.if-graph-i.false c.if-graph-i-2.true c.loop-i.invariant

pub loop-i-preserved : goal.loop-i-preserved
loop-i-preserved c =
    no_fault _ _ _ _ c.requires _ c.loop-i.i c.loop-i-test.true c.if-graph-i.false c.if-graph-i-2.false c.loop-i.invariant

pub returns : goal.returns
returns c =
    all_passed _ _ _ _ c.requires _ c.loop-i.i (omega arith) c.loop-i.invariant
