-- `degree::refusal` meets its contract: what `graph_refusal` finds comes first, then ROOM. Assumes nothing.
use mathlib.Core.Path.{◌≡◌, ◌∙◌}
use mathlib.Core.Bool.{false}
use lib.Dec.{ltb}
use Rattle.std.specs.Prelude.{Err}
use borrow.Author.Tests.{lt-ltb, le-ltb}
use borrow.Author.Rules.{rules}
use Rattle.answers.proofs.Said.{refused_by}
use Rattle.graph.specs.Refusals.{Tests, first_of, first_refusal, ends_tests}
use Rattle.graph.proofs.Refusals.{early_err, late_ok}
use Rattle.degree.proofs.refusal.Goals as goal
use Rattle.degree.proofs.refusal.Goals.{Start}

-- the rows that can hold of this call
abbrev tests : goal.Start → Tests
tests s =
    let g = s.args.graph in
    ends_tests g.nodes g.from.now g.to.now g.weight.now false false (ltb s.args.room g.nodes)

pub returns-in_err-graph_refusal : goal.returns-in_err-graph_refusal
returns-in_err-graph_refusal c =
    let r : c.from_residual.result ≡ Err c.in_err-graph_refusal.field-0.0 = search rules in
    r ∙ early_err (tests (goal.at.returns-in_err-graph_refusal c).Start) c.in_err-graph_refusal.ensures

pub returns-then-room-graph : goal.returns-then-room-graph
unfolding first_refusal first_of
returns-then-room-graph c =
    let p = late_ok (tests (goal.at.returns-then-room-graph c).Start) c.in_ok-graph_refusal.ensures in
    rw (p.0, p.1, p.2, lt-ltb _ _ c.if-room-graph.true) (refused_by c.from.ensures)

pub returns : goal.returns
unfolding first_refusal first_of
returns c =
    let p = late_ok (tests (goal.at.returns c).Start) c.in_ok-graph_refusal.ensures in
    rw (p.0, p.1, p.2, le-ltb _ _ c.if-room-graph.false)
