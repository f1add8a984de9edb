-- `lists::place_entries` meets its contract: with i edges left, the entries of the others stand at the ends of their lists. Assumes nothing.
use native.Mathlib.Omega.{arith}
use Rattle.lists.proofs.Placing.{none, turn, step_one, turn_two, step_two, once_directed, once_loop, twice, done}
use Rattle.lists.proofs.place_entries.Goals as goal
use Rattle.lists.proofs.place_entries.Goals.{else-not-directed-via-then-not-directed+else-from-i, else-not-directed-via-else-not-directed}

pub loop-i-init : goal.loop-i-init
loop-i-init c = none _ _ _ _ _ _ c.requires

pub put-requires : goal.put-requires
put-requires c = turn _ _ _ _ _ _ c.requires _ _ _ (omega arith) (omega arith) c.loop-i.invariant

pub put-requires-then-from-i : goal.put-requires-then-from-i
put-requires-then-from-i c =
    turn_two _ _ _ _ _ _ c.requires _ _ _ (omega arith) (omega arith) c.loop-i.invariant c.put.ensures (twice _ _ c.if-not-directed.true c.if-from-i.true)

pub loop-i-preserved-then-from-i : goal.loop-i-preserved-then-from-i
loop-i-preserved-then-from-i c =
    step_two _ _ _ _ _ _ c.requires _ _ _ (omega arith) (omega arith) c.loop-i.invariant c.put.ensures (twice _ _ c.if-not-directed.true c.if-from-i.true) c.put-then-from-i.ensures

pub loop-i-preserved : goal.loop-i-preserved
loop-i-preserved c =
    step_one _ _ _ _ _ _ c.requires _ _ _ (omega arith) (omega arith) c.loop-i.invariant c.put.ensures
    (elim c.else-not-directed.branch [
      | else-not-directed-via-then-not-directed+else-from-i w ↦ once_loop _ _ w.if-not-directed.true w.if-from-i.false
      | else-not-directed-via-else-not-directed w ↦ once_directed _ _ w.if-not-directed.false
    ])

pub returns : goal.returns
returns c = done _ _ _ _ _ _ c.requires c.loop-i.i _ (omega arith) c.loop-i.invariant
