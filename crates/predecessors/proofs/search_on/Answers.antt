-- `predecessors::search_on` meets its contract: before each visit the search is as `Run` says. Assumes nothing.
use Rattle.std.proofs.lemmas.Result.{err_from_is_err_and}
use Rattle.hops.specs.Search.{graph_of}
use Rattle.predecessors.proofs.Tours.{Run, run_stays, run_step, run_paths}
use Rattle.predecessors.proofs.search_on.Goals as goal
use Rattle.predecessors.proofs.search_on.Goals.{At-loop-head}

-- where the search stands, for the graph that the caller has
here : (c : goal.At-loop-head) → Run (graph_of c.args.tracks.places.nodes c.requires.directed c.requires.edges) c.args.tracks c.requires.start c.args.w32.now c.args.w64.now c.loop-head.w32 c.loop-head.w64 c.loop-head.head c.loop-head.tail
here c = let s = c.requires in c.loop-head.invariant s.directed s.edges s.start s.tracked

pub returns-in_err-tail : goal.returns-in_err-tail
returns-in_err-tail c =
    let s = c.requires in
    let l = c.loop-head-test.true in
    let p = err_from_is_err_and c.from_residual.result c.from_residual.ensures.1 in
    rw p.1
    (record {
      stays = run_stays s.directed s.edges s.start (here (goal.at.returns-in_err-tail c).At-loop-head) l c.visit.ensures;
      ended = λ directed es s T. run_paths directed es s (c.loop-head.invariant directed es s T) l c.in_err-tail.field-0.0 c.in_err-tail.ensures;
    })

pub loop-head-preserved : goal.loop-head-preserved
loop-head-preserved c =
    let l = c.loop-head-test.true in
    λ directed es s T. run_step directed es s (c.loop-head.invariant directed es s T) l c.in_ok-tail.tail c.in_ok-tail.ensures
