-- `rows::count_entries` meets its contract: after i edges their entries are counted. Assumes nothing.
use mathlib.Core.List.{List}
use Prim.Native.Nat.{ℕ}
use lib.ListN.{get_or}
use native.Mathlib.Omega.{arith}
use Rattle.rows.proofs.Counting.{EdgeCounted, none, turn, step, counted_directed, counted_loop, counted_both, second_end}
use Rattle.rows.proofs.count_entries.Goals as goal
use Rattle.rows.proofs.count_entries.Goals.{In-loop-i, then-not-directed+then-f-t, else-not-directed, else-not-directed-via-then-not-directed+else-f-t, else-not-directed-via-else-not-directed}

pub loop-i-init : goal.loop-i-init
loop-i-init c = none _ _ _ _ _ c.requires

pub overflow_add-w : goal.overflow_add-w
overflow_add-w c = let e = turn _ _ _ _ _ _ _ c.requires c.loop-i-test.true c.loop-i.invariant in omega (arith, e.small _ e.from)

pub overflow_add-w-then-f-t : goal.overflow_add-w-then-f-t
overflow_add-w-then-f-t c =
    let e = turn _ _ _ _ _ _ _ c.requires c.loop-i-test.true c.loop-i.invariant in
    omega (arith, second_end _ c.args.graph.directed _ _ _ e c.if-f-t.true, e.small _ e.to)

pub loop-i-preserved : goal.loop-i-preserved
loop-i-preserved c =
    let e = turn _ _ _ _ _ _ _ c.requires c.loop-i-test.true c.loop-i.invariant in
    let more = λ (w' : List ℕ) (k : EdgeCounted c.args.graph.directed (get_or c.args.graph.from.now c.loop-i.i 0) (get_or c.args.graph.to.now c.loop-i.i 0) c.loop-i.w w'). step _ _ _ _ _ _ _ c.requires c.loop-i-test.true c.loop-i.invariant k in
    elim c.if-not-directed.branch [
      | then-not-directed+then-f-t w ↦ rw w.w-is (more _ (counted_both _ _ _ _ _ e w.if-not-directed.true w.if-f-t.true))
      | else-not-directed w ↦
          rw w.w-is
          (elim w.else-not-directed.branch [
            | else-not-directed-via-then-not-directed+else-f-t w' ↦ more _ (counted_loop _ _ _ _ _ e w'.if-not-directed.true w'.if-f-t.false)
            | else-not-directed-via-else-not-directed w' ↦ more _ (counted_directed _ _ _ _ _ e w'.if-not-directed.false)
          ])
    ]
