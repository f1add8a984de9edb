-- `edge_betweenness::edge_betweenness` meets its contract: a refusal by its test, PATHS and the results by what the steps leave. Assumes nothing.
use borrow.Author.Rules.{rules}
use mathlib.Core.Path.{◌≡◌, ap}
use Rattle.std.specs.Prelude.{Err}
use Rattle.std.proofs.lemmas.Result.{err_from_is_err_and}
use Rattle.graph.specs.Given.{Given, lent}
use Rattle.graph.specs.Pres.{Passed}
use Rattle.starts.specs.Starts.{stopped}
use Rattle.edge_betweenness.specs.Edges.{EdgeScores, edge_scores}
use Rattle.edge_betweenness.proofs.EdgesEnding.{edge_tests, refused_edges, passed_edges, ready, score_asks, wipe_pre, ended_paths, ended_done}
use Rattle.edge_betweenness.proofs.edge_betweenness.Goals as goal
use Rattle.edge_betweenness.proofs.edge_betweenness.Goals.{In_ok-plain_refusal, Start}

-- what the call is given
abbrev here : goal.Start → Given EdgeScores
here c = let s = c.args in lent s.graph (edge_scores s.forward.now s.back.now) s.w32.now s.w64.now s.wf.now

-- nothing refused
ok : (c : goal.In_ok-plain_refusal)
    → let s = c.args in
    Passed (edge_tests (lent s.graph (edge_scores s.forward.now s.back.now) s.w32.now s.w64.now s.wf.now))
ok c = passed_edges _ c.edges_short-short.ensures c.lengths-lengths.ensures c.in_ok-plain_refusal.ensures

pub returns-in_err-plain_refusal : goal.returns-in_err-plain_refusal
returns-in_err-plain_refusal c =
    let r : c.from_residual.result ≡ Err c.in_err-plain_refusal.field-0.0 = search rules in
    refused_edges (here (goal.at.returns-in_err-plain_refusal c).Start) c.edges_short-short.ensures c.lengths-lengths.ensures c.args.normalized r c.in_err-plain_refusal.ensures

pub score_edges-scored-requires : goal.score_edges-scored-requires
score_edges-scored-requires c = score_asks (here (goal.at.score_edges-scored-requires c).Start) (ok (goal.at.score_edges-scored-requires c).In_ok-plain_refusal)

pub usual_fronts-requires : goal.usual_fronts-requires
usual_fronts-requires c = (ready (here (goal.at.usual_fronts-requires c).Start) (ok (goal.at.usual_fronts-requires c).In_ok-plain_refusal)).sound.limits

pub wipe-requires : goal.wipe-requires
wipe-requires c = wipe_pre (here (goal.at.wipe-requires c).Start) (ok (goal.at.wipe-requires c).In_ok-plain_refusal) c.score_edges-scored.ensures c.usual_fronts.ensures

pub returns-in_err-scored : goal.returns-in_err-scored
returns-in_err-scored c =
    let p = err_from_is_err_and c.from_residual-in_err-scored.result c.from_residual-in_err-scored.ensures.1 in
    rw p.1
    (ended_paths (here (goal.at.returns-in_err-scored c).Start) (ok (goal.at.returns-in_err-scored c).In_ok-plain_refusal) c.score_edges-scored.ensures c.usual_fronts.ensures c.wipe.ensures {said = p.0} p.2 (ap stopped c.in_err-scored.was))

pub returns : goal.returns
returns c =
    ended_done (here (goal.at.returns c).Start) (ok (goal.at.returns c).In_ok-plain_refusal) c.score_edges-scored.ensures c.usual_fronts.ensures c.wipe.ensures (ap stopped c.in_ok-scored.was)
