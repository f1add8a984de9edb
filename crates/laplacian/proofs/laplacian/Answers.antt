-- `laplacian::laplacian` meets its contract: a refusal by its test, the scores by what the steps leave. Assumes nothing.
use Rattle.std.proofs.Common.{◌≡◌, List, rules}
use Rattle.std.specs.Prelude.{Err}
use lib.Ieee.{Float}
use Rattle.graph.specs.Given.{Given, lent}
use Rattle.graph.specs.Pres.{Passed}
use Rattle.laplacian.specs.Laplacian.{laplacian_outcome}
use Rattle.laplacian.proofs.Steps.{score_tests, score_passed, score_refused, ready, fits, build_pre}
use Rattle.laplacian.proofs.Ending.{roomy, ended}
use Rattle.laplacian.proofs.laplacian.Goals as goal
use Rattle.laplacian.proofs.laplacian.Goals.{Start, In_ok-plain_refusal}

-- what the call is given
abbrev here : goal.Start → Given (List Float)
here c =
    let s = c.args in
    lent s.graph s.scores.now s.w32.now s.w64.now s.wf.now

-- nothing was refused
ok : (c : goal.In_ok-plain_refusal) → let a = c.args in Passed (score_tests (lent a.graph a.scores.now a.w32.now a.w64.now a.wf.now))
ok c = let a = c.args in score_passed (lent a.graph a.scores.now a.w32.now a.w64.now a.wf.now) c.lengths.ensures c.in_ok-plain_refusal.ensures

pub returns-in_err-plain_refusal : goal.returns-in_err-plain_refusal
unfolding laplacian_outcome
returns-in_err-plain_refusal c =
    let r : c.from_residual.result ≡ Err c.in_err-plain_refusal.field-0.0 = search rules in
    score_refused (here (goal.at.returns-in_err-plain_refusal c).Start) _ c.lengths.ensures r c.in_err-plain_refusal.ensures

pub build_rows-requires : goal.build_rows-requires
build_rows-requires c = let g = here (goal.at.build_rows-requires c).Start in build_pre g (ready g (ok (goal.at.build_rows-requires c).In_ok-plain_refusal))

pub score_nodes-requires : goal.score_nodes-requires
score_nodes-requires c = fits (here (goal.at.score_nodes-requires c).Start) (ok (goal.at.score_nodes-requires c).In_ok-plain_refusal)

pub usual_fronts-requires : goal.usual_fronts-requires
usual_fronts-requires c = (ready (here (goal.at.usual_fronts-requires c).Start) (ok (goal.at.usual_fronts-requires c).In_ok-plain_refusal)).sound.limits

pub wipe-requires : goal.wipe-requires
wipe-requires c = roomy (here (goal.at.wipe-requires c).Start) (ok (goal.at.wipe-requires c).In_ok-plain_refusal) _ c.build_rows.ensures c.usual_fronts.ensures

pub returns : goal.returns
returns c =
    ended (here (goal.at.returns c).Start) (ok (goal.at.returns c).In_ok-plain_refusal) _ c.build_rows.ensures c.score_nodes.ensures c.usual_fronts.ensures c.wipe.ensures
