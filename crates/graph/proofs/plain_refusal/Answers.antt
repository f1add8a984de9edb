-- `graph::plain_refusal` meets its contract: what `graph_refusal` finds comes first, then ROOM. Assumes nothing.
use mathlib.Core.Path.{◌≡◌, sym, ap, ◌∙◌}
use mathlib.Core.Bool.{Bool}
use Prim.Native.Nat.{ℕ}
use lib.ListN.{length}
use Rattle.graph.specs.declared.Fronts.{Fronts}
use Rattle.graph.specs.Checks.{work_wrong}
use Rattle.graph.specs.Refusals.{Tests, first_of, first_refusal, ends_tests, room_wrong}
use Rattle.graph.proofs.Checks.{size_limits}
use Rattle.std.specs.Prelude.{Err}
use borrow.Author.Rules.{rules}
use Rattle.answers.proofs.Said.{refused_by}
use Rattle.graph.proofs.Refusals.{early_err, late_ok}
use Rattle.graph.proofs.plain_refusal.Goals as goal
use Rattle.graph.proofs.plain_refusal.Goals.{Start}

-- the rows that can hold of this call
abbrev tests : goal.Start → Tests
tests s =
    let a = s.args in
    let g = a.graph in
    let l = a.lengths in
    ends_tests g.nodes g.from.now g.to.now g.weight.now a.empties a.stray (room_wrong g.nodes (length g.from.now) a.short l.narrow l.wide l.floats)

pub returns-in_err-graph_refusal : goal.returns-in_err-graph_refusal
returns-in_err-graph_refusal c =
    let r : c.from_residual.result ≡ Err c.in_err-graph_refusal.field-0.0 = search rules in
    r ∙ early_err (tests (goal.at.returns-in_err-graph_refusal c).Start) c.in_err-graph_refusal.ensures

pub usual_fronts-requires : goal.usual_fronts-requires
usual_fronts-requires c = size_limits _ _ _ _ (late_ok (tests (goal.at.usual_fronts-requires c).Start) c.in_ok-graph_refusal.ensures).0

pub returns-then-short : goal.returns-then-short
unfolding first_refusal first_of
returns-then-short c =
    let p = late_ok (tests (goal.at.returns-then-short c).Start) c.in_ok-graph_refusal.ensures in
    rw (p.0, p.1, p.2, c.if-short.true) (refused_by c.from.ensures)

-- what the test of the workspace showed
work : {f g : Fronts} {b : Bool} {v : Bool} (x y z : ℕ) → f ≡ g → b ≡ work_wrong f x y z → b ≡ v → work_wrong g x y z ≡ v
work x y z ef eb ev = ap (λ (h : Fronts). work_wrong h x y z) (sym ef) ∙ sym eb ∙ ev

pub returns-then-work_wrong : goal.returns-then-work_wrong
unfolding first_refusal first_of
returns-then-work_wrong c =
    let p = late_ok (tests (goal.at.returns-then-work_wrong c).Start) c.in_ok-graph_refusal.ensures in
    rw (p.0, p.1, p.2, c.if-short.false, work _ _ _ c.usual_fronts.ensures c.work_wrong.ensures c.if-work_wrong.true) (refused_by c.from-then-work_wrong.ensures)

pub returns : goal.returns
unfolding first_refusal first_of
returns c =
    let p = late_ok (tests (goal.at.returns c).Start) c.in_ok-graph_refusal.ensures in
    rw (p.0, p.1, p.2, c.if-short.false, work _ _ _ c.usual_fronts.ensures c.work_wrong.ensures c.if-work_wrong.false)
