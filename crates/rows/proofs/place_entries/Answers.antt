-- `rows::place_entries` meets its contract: after i edges their entries stand at the ends of their rows. Assumes nothing.
use mathlib.Core.Path.{◌≡◌, sym, ◌∙◌}
use mathlib.Core.Bool.{◌&&◌}
use lib.Dec.{eqb}
use lib.ListN.{get_or}
use Rattle.rows.proofs.Placing.{none, turn, step_skip, step_one}
use Rattle.rows.proofs.place_entries.Goals as goal
use Rattle.rows.proofs.place_entries.Goals.{then-skip, else-skip, then-not-own-i, else-not-own-i, Joined-skip}

pub loop-i-init : goal.loop-i-init
loop-i-init c = none _ _ _ _ _ _ _

-- whether this edge is skipped, as the code tests it
skipped : (c : goal.Joined-skip) → c.if-skip.value ≡ (c.args.skip && eqb (get_or c.args.own.now c.loop-i.i 0) (get_or c.args.other.now c.loop-i.i 0))
skipped c = elim c.if-skip.branch [ then-skip w ↦ rw w.if-skip.true w.value-is | else-skip w ↦ rw w.if-skip.false (w.value-is ∙ w.if-skip.false) ]

pub put-requires : goal.put-requires
put-requires c =
    turn _ _ _ _ _ _ _ _ _ c.requires c.loop-i-test.true c.loop-i.invariant (sym (skipped (goal.at.put-requires c).Joined-skip) ∙ c.if-not-own-i.true)

pub loop-i-preserved : goal.loop-i-preserved
loop-i-preserved c =
    let e = skipped (goal.at.loop-i-preserved c).Joined-skip in
    elim c.if-not-own-i.branch [
      | then-not-own-i w ↦ rw w.w-is (step_one _ _ _ _ _ _ _ _ _ c.requires c.loop-i-test.true c.loop-i.invariant (sym e ∙ w.if-not-own-i.true) w.put.ensures.placed)
      | else-not-own-i w ↦ rw w.w-is (step_skip _ _ _ _ _ _ _ _ _ c.requires c.loop-i-test.true c.loop-i.invariant (sym e ∙ w.if-not-own-i.false))
    ]
