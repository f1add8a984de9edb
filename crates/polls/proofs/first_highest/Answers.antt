-- `polls::first_highest` meets its contract: of the nodes before v the first highest is known. Assumes nothing.
use mathlib.Core.Path.{sym, ap, ◌∙◌}
use mathlib.Core.Bool.{Bool, cond}
use Prim.Native.Nat.{ℕ, ◌+◌}
use native.Mathlib.Omega.{arith}
use lib.ListN.{get_or}
use lib.Ieee.{Float, nan}
use Rattle.polls.proofs.Voting.{highest_none, highest_more}
use Rattle.polls.proofs.first_highest.Goals as goal
use Rattle.polls.proofs.first_highest.Goals.{Start, then-w-nodes, else-w-nodes}

abbrev score : goal.Start → ℕ → Float
score c u = get_or c.args.w.now (c.args.nodes + u) nan

pub loop-v-init : goal.loop-v-init
loop-v-init c = (omega arith, highest_none (score (goal.at.loop-v-init c).Start))

pub loop-v-preserved : goal.loop-v-preserved
loop-v-preserved c =
    let l = c.loop-v in
    let more = highest_more (score (goal.at.loop-v-preserved c).Start) l.v l.best _ l.auto.v l.invariant.1 in
    elim c.if-w-nodes.branch [
      | then-w-nodes w ↦ (omega arith, more (w.best-is ∙ sym (ap (λ (t : Bool). cond t l.v l.best) w.if-w-nodes.true)))
      | else-w-nodes w ↦ (omega arith, more (w.best-is ∙ sym (ap (λ (t : Bool). cond t l.v l.best) w.if-w-nodes.false)))
    ]
