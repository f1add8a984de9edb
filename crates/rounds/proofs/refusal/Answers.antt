-- `rounds::refusal` meets its contract: what `graph_refusal` finds comes first, then the measure's own rows, then ROOM. Assumes nothing.
use mathlib.Core.Path.{◌≡◌, sym, ap, ◌∙◌}
use mathlib.Core.Bool.{Bool, true}
use Prim.Native.Nat.{ℕ}
use lib.ListN.{length}
use Rattle.std.specs.Prelude.{Err}
use borrow.Author.Rules.{rules}
use Rattle.answers.proofs.Said.{refused_by}
use Rattle.graph.specs.declared.Fronts.{Fronts}
use Rattle.graph.specs.Checks.{work_wrong}
use Rattle.graph.specs.Refusals.{Tests, first_of, first_refusal, room_wrong}
use Rattle.graph.proofs.Checks.{size_limits}
use Rattle.graph.proofs.Refusals.{early_err, late_ok}
use Rattle.rounds.specs.Tests.{own_tests}
use Rattle.rounds.proofs.Tests.{without_stray}
use Rattle.rounds.proofs.refusal.Goals as goal
use Rattle.rounds.proofs.refusal.Goals.{Start, then-short-via-then-short, then-short-via-else-short+then-work_wrong}

-- the rows that can hold of this call
abbrev tests : goal.Start → Tests
tests s =
    let a = s.args in
    let g = a.graph in
    let l = a.lengths in
    own_tests g.nodes g.from.now g.to.now g.weight.now a.empties a.own a.short l.narrow l.wide l.floats

pub returns-in_err-graph_refusal : goal.returns-in_err-graph_refusal
returns-in_err-graph_refusal c =
    let r : c.from_residual.result ≡ Err c.in_err-graph_refusal.field-0.0 = search rules in
    let t = tests (goal.at.returns-in_err-graph_refusal c).Start in
    r ∙ early_err t (without_stray t c.in_err-graph_refusal.ensures)

pub returns-then-own : goal.returns-then-own
unfolding first_refusal first_of
returns-then-own c =
    let t = tests (goal.at.returns-then-own c).Start in
    let p = late_ok t (without_stray t c.in_ok-graph_refusal.ensures) in
    rw (p.0, p.1, p.2, c.if-own.true) (refused_by c.from.ensures)

pub returns-then-own-2 : goal.returns-then-own-2
unfolding first_refusal first_of
returns-then-own-2 c =
    let t = tests (goal.at.returns-then-own-2 c).Start in
    let p = late_ok t (without_stray t c.in_ok-graph_refusal.ensures) in
    rw (p.0, p.1, p.2, c.if-own.false, c.if-own-2.true) (refused_by c.from-then-own-2.ensures)

pub returns-then-own-3 : goal.returns-then-own-3
unfolding first_refusal first_of
returns-then-own-3 c =
    let t = tests (goal.at.returns-then-own-3 c).Start in
    let p = late_ok t (without_stray t c.in_ok-graph_refusal.ensures) in
    rw (p.0, p.1, p.2, c.if-own.false, c.if-own-2.false, c.if-own-3.true) (refused_by c.from-then-own-3.ensures)

pub returns-then-own-4 : goal.returns-then-own-4
unfolding first_refusal first_of
returns-then-own-4 c =
    let t = tests (goal.at.returns-then-own-4 c).Start in
    let p = late_ok t (without_stray t c.in_ok-graph_refusal.ensures) in
    rw (p.0, p.1, p.2, c.if-own.false, c.if-own-2.false, c.if-own-3.false, c.if-own-4.true) (refused_by c.from-then-own-4.ensures)

pub returns-then-own-5 : goal.returns-then-own-5
unfolding first_refusal first_of
returns-then-own-5 c =
    let t = tests (goal.at.returns-then-own-5 c).Start in
    let p = late_ok t (without_stray t c.in_ok-graph_refusal.ensures) in
    rw (p.0, p.1, p.2, c.if-own.false, c.if-own-2.false, c.if-own-3.false, c.if-own-4.false, c.if-own-5.true) (refused_by c.from-then-own-5.ensures)

pub usual_fronts-requires : goal.usual_fronts-requires
usual_fronts-requires c = let t = tests (goal.at.usual_fronts-requires c).Start in size_limits _ _ _ _ (late_ok t (without_stray t c.in_ok-graph_refusal.ensures)).0

-- what the test of the workspace showed
work : {f g : Fronts} {b : Bool} {v : Bool} (x y z : ℕ) → f ≡ g → b ≡ work_wrong f x y z → b ≡ v → work_wrong g x y z ≡ v
work x y z ef eb ev = ap (λ (h : Fronts). work_wrong h x y z) (sym ef) ∙ sym eb ∙ ev

-- a result slice is too short, or the workspace is
roomless : (c : goal.After-from-then-short) → let a = c.args in room_wrong a.graph.nodes (length a.graph.from.now) a.short a.lengths.narrow a.lengths.wide a.lengths.floats ≡ true
roomless c =
    elim c.then-short.branch [
      | then-short-via-then-short w ↦ rw w.if-short.true
      | then-short-via-else-short+then-work_wrong w ↦ rw (w.if-short.false, work _ _ _ w.usual_fronts.ensures w.work_wrong.ensures w.if-work_wrong.true)
    ]

pub returns-then-short : goal.returns-then-short
unfolding first_refusal first_of
returns-then-short c =
    let t = tests (goal.at.returns-then-short c).Start in
    let p = late_ok t (without_stray t c.in_ok-graph_refusal.ensures) in
    let q = roomless c in
    rw (p.0, p.1, p.2, c.if-own.false, c.if-own-2.false, c.if-own-3.false, c.if-own-4.false, c.if-own-5.false, q) (refused_by c.from-then-short.ensures)

pub returns : goal.returns
unfolding first_refusal first_of
returns c =
    let t = tests (goal.at.returns c).Start in
    let p = late_ok t (without_stray t c.in_ok-graph_refusal.ensures) in
    rw (p.0, p.1, p.2, c.if-own.false, c.if-own-2.false, c.if-own-3.false, c.if-own-4.false, c.if-own-5.false, c.if-short.false, work _ _ _ c.usual_fronts.ensures c.work_wrong.ensures c.if-work_wrong.false)
