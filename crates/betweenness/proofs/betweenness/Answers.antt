-- `betweenness::betweenness` meets its contract: a refusal by its test, PATHS and the scores by what the steps leave. Assumes nothing.
use mathlib.Core.Path.{◌≡◌}
use borrow.Author.Rules.{rules}
use Rattle.std.proofs.Common.{List}
use Rattle.std.specs.Prelude.{Err}
use Rattle.std.proofs.lemmas.Result.{err_from_is_err_and}
use lib.Ieee.{Float}
use Rattle.graph.specs.Given.{Given, lent}
use Rattle.graph.specs.Pres.{Passed}
use Rattle.betweenness.proofs.Ending.{score_tests, refused_scores, passed_scores, ready, score_asks, wipe_pre, ended_paths, ended_done}
use Rattle.betweenness.proofs.betweenness.Goals as goal
use Rattle.betweenness.proofs.betweenness.Goals.{In_ok-plain_refusal, Start}

-- what the call is given
abbrev here : goal.Start → Given (List Float)
here c = let s = c.args in lent s.graph s.scores.now s.w32.now s.w64.now s.wf.now

-- nothing refused
ok : (c : goal.In_ok-plain_refusal) → let s = c.args in Passed (score_tests (lent s.graph s.scores.now s.w32.now s.w64.now s.wf.now))
ok c = let s = c.args in passed_scores s.normalized (lent s.graph s.scores.now s.w32.now s.w64.now s.wf.now) c.lengths-lengths.ensures c.in_ok-plain_refusal.ensures

pub returns-in_err-plain_refusal : goal.returns-in_err-plain_refusal
returns-in_err-plain_refusal c =
    let r : c.from_residual.result ≡ Err c.in_err-plain_refusal.field-0.0 = search rules in
    refused_scores c.args.normalized (here (goal.at.returns-in_err-plain_refusal c).Start) c.lengths-lengths.ensures r c.in_err-plain_refusal.ensures

pub score_nodes-scored-requires : goal.score_nodes-scored-requires
score_nodes-scored-requires c = score_asks (here (goal.at.score_nodes-scored-requires c).Start) (ok (goal.at.score_nodes-scored-requires c).In_ok-plain_refusal)

pub usual_fronts-requires : goal.usual_fronts-requires
usual_fronts-requires c = (ready (here (goal.at.usual_fronts-requires c).Start) (ok (goal.at.usual_fronts-requires c).In_ok-plain_refusal)).sound.limits

pub wipe-requires : goal.wipe-requires
wipe-requires c = wipe_pre (here (goal.at.wipe-requires c).Start) (ok (goal.at.wipe-requires c).In_ok-plain_refusal) c.score_nodes-scored.ensures c.usual_fronts.ensures

pub returns-in_err-scored : goal.returns-in_err-scored
returns-in_err-scored c =
    let p = err_from_is_err_and c.from_residual-in_err-scored.result c.from_residual-in_err-scored.ensures.1 in
    rw (p.1, p.2) (ended_paths (here (goal.at.returns-in_err-scored c).Start) (ok (goal.at.returns-in_err-scored c).In_ok-plain_refusal) c.score_nodes-scored.ensures c.usual_fronts.ensures c.wipe.ensures (rw c.in_err-scored.was))

pub returns : goal.returns
returns c =
    ended_done (here (goal.at.returns c).Start) (ok (goal.at.returns c).In_ok-plain_refusal) c.score_nodes-scored.ensures c.usual_fronts.ensures c.wipe.ensures (rw c.in_ok-scored.was)
