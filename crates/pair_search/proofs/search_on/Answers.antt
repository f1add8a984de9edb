-- `pair_search::search_on` meets its contract: before each visit the search is as `Run` and `RunPairs` say. Assumes nothing.
use Rattle.std.proofs.lemmas.Result.{err_from_is_err_and}
use Rattle.hops.specs.Search.{graph_of}
use Rattle.predecessors.proofs.Tours.{Run, run_stays, run_step, run_paths}
use Rattle.pair_search.proofs.Runs.{run_pairs_step}
use Rattle.pair_search.proofs.search_on.Goals as goal
use Rattle.pair_search.proofs.search_on.Goals.{At-loop-head}

-- where the search stands, for the graph that the caller has
here : (c : goal.At-loop-head) → Run (graph_of c.args.paired.tracks.places.nodes c.requires.visit.directed c.requires.visit.edges) c.args.paired.tracks c.requires.visit.start c.args.w32.now c.args.w64.now c.loop-head.w32 c.loop-head.w64 c.loop-head.head c.loop-head.tail
here c = let s = c.requires.visit in c.loop-head.invariant.0 s.directed s.edges s.start s.tracked

pub returns-in_err-tail : goal.returns-in_err-tail
returns-in_err-tail c =
    let s = c.requires.visit in
    let l = c.loop-head-test.true in
    let p = err_from_is_err_and c.from_residual.result c.from_residual.ensures.1 in
    rw p.1
    (record {
      on =
          record {
            stays = run_stays s.directed s.edges s.start (here (goal.at.returns-in_err-tail c).At-loop-head) l c.visit.ensures.visit;
            ended = λ directed es s T. run_paths directed es s (c.loop-head.invariant.0 directed es s T) l c.in_err-tail.field-0.0 c.in_err-tail.ensures.visit;
          };
      held = λ directed es number s T. tt;
    })

pub loop-head-preserved : goal.loop-head-preserved
loop-head-preserved c =
    let l = c.loop-head-test.true in
    let v = c.in_ok-tail.ensures in
    (λ directed es s T. run_step directed es s (c.loop-head.invariant.0 directed es s T) l c.in_ok-tail.tail v.visit, λ directed es number s T. run_pairs_step directed es number s (c.loop-head.invariant.1 directed es number s T) l v)

pub returns : goal.returns
returns c =
    record {
      on = record { stays = (here (goal.at.returns c).At-loop-head).stays; ended = λ directed es s T. (c.loop-head.invariant.0 directed es s T).over c.loop-head-test.false };
      held = λ directed es number s T. (c.loop-head.invariant.1 directed es number s T).over c.loop-head-test.false;
    }
