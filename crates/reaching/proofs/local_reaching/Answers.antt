-- `reaching::local_reaching` meets its contract: a refusal by its test, the scores by what the steps leave. Assumes nothing.
use Rattle.std.proofs.Common.{◌≡◌, List, length, rules}
use Rattle.std.specs.Prelude.{Err}
use lib.Ieee.{Float}
use Rattle.graph.specs.Given.{Given, lent}
use Rattle.graph.specs.Pres.{Passed, Limits}
use Rattle.laplacian.proofs.Steps.{score_tests, score_passed, ready, build_pre}
use Rattle.reaching.proofs.Reached.{turned_away, fill_room, all_pre, roomy, ended}
use Rattle.reaching.proofs.local_reaching.Goals as goal
use Rattle.reaching.proofs.local_reaching.Goals.{Start, In_ok-plain_refusal}

-- what the call is given
abbrev here : goal.Start → Given (List Float)
here c =
    let s = c.args in
    lent s.graph s.scores.now s.w32.now s.w64.now s.wf.now

-- nothing was refused
ok : (c : goal.In_ok-plain_refusal) → let a = c.args in Passed (score_tests (lent a.graph a.scores.now a.w32.now a.w64.now a.wf.now))
ok c = let a = c.args in score_passed (lent a.graph a.scores.now a.w32.now a.w64.now a.wf.now) c.lengths.ensures c.in_ok-plain_refusal.ensures

limits : (c : goal.In_ok-plain_refusal) → Limits c.args.graph.nodes (length c.args.graph.from.now)
limits c = let a = c.args in (ready (lent a.graph a.scores.now a.w32.now a.w64.now a.wf.now) (ok c)).sound.limits

pub returns-in_err-plain_refusal : goal.returns-in_err-plain_refusal
returns-in_err-plain_refusal c =
    let r : c.from_residual.result ≡ Err c.in_err-plain_refusal.field-0.0 = search rules in
    turned_away c.args.limit (here (goal.at.returns-in_err-plain_refusal c).Start) c.lengths.ensures r c.in_err-plain_refusal.ensures

pub build_rows-requires : goal.build_rows-requires
build_rows-requires c = let g = here (goal.at.build_rows-requires c).Start in build_pre g (ready g (ok (goal.at.build_rows-requires c).In_ok-plain_refusal))

pub of-bounded-requires : goal.of-bounded-requires
of-bounded-requires c = limits (goal.at.of-bounded-requires c).In_ok-plain_refusal

pub fill-requires : goal.fill-requires
fill-requires c =
    rw c.of-bounded.ensures (fill_room c.args.limit (here (goal.at.fill-requires c).Start) (ok (goal.at.fill-requires c).In_ok-plain_refusal) _ c.build_rows.ensures)

pub reach_all-requires : goal.reach_all-requires
reach_all-requires c =
    let e = c.of-bounded.ensures in
    rw e (all_pre c.args.limit (here (goal.at.reach_all-requires c).Start) (ok (goal.at.reach_all-requires c).In_ok-plain_refusal) _ c.build_rows.ensures _ (rw e at c.fill.ensures))

pub usual_fronts-requires : goal.usual_fronts-requires
usual_fronts-requires c = limits (goal.at.usual_fronts-requires c).In_ok-plain_refusal

pub wipe-requires : goal.wipe-requires
wipe-requires c =
    let e = c.of-bounded.ensures in
    roomy c.args.limit (here (goal.at.wipe-requires c).Start) (ok (goal.at.wipe-requires c).In_ok-plain_refusal) _ c.build_rows.ensures _ (rw e at c.fill.ensures) _ _ (rw e at c.reach_all.ensures) c.usual_fronts.ensures

pub returns : goal.returns
returns c =
    let e = c.of-bounded.ensures in
    ended c.args.limit (here (goal.at.returns c).Start) (ok (goal.at.returns c).In_ok-plain_refusal) _ c.build_rows.ensures _ (rw e at c.fill.ensures) _ _ (rw e at c.reach_all.ensures) c.usual_fronts.ensures c.wipe.ensures
