-- `search::search_on` meets its contract: before each visit the search is as `Run` says. Assumes nothing.
use mathlib.Core.Path.{◌≡◌}
use native.Mathlib.Omega.{arith}
use borrow.Author.Rules.{rules}
use Rattle.std.specs.Prelude.{Err}
use Rattle.hops.specs.Search.{graph_of}
use Rattle.search.proofs.Runs.{Run, run_kept, run_step, run_paths}
use Rattle.search.proofs.search_on.Goals as goal
use Rattle.search.proofs.search_on.Goals.{At-loop-head}

-- where the search stands, for the graph that the caller has
here : (c : goal.At-loop-head) → Run (graph_of c.args.places.nodes c.requires.directed c.requires.edges) c.args.places.limit c.requires.start c.args.places.distances c.args.places.queue c.args.w.now c.args.counts.now c.loop-head.w c.loop-head.counts c.loop-head.head c.loop-head.tail
here c = let s = c.requires in c.loop-head.invariant s.directed s.edges s.start s.search

pub returns-in_err-tail : goal.returns-in_err-tail
returns-in_err-tail c =
    let s = c.requires in
    let r : c.from_residual.result ≡ Err c.in_err-tail.field-0.0 = search rules in
    rw r
    record {
      kept = run_kept s.directed s.edges s.start (here (goal.at.returns-in_err-tail c).At-loop-head) c.loop-head-test.true c.in_err-tail.ensures;
      ended = λ directed es s S. run_paths directed es s (c.loop-head.invariant directed es s S) c.loop-head-test.true c.in_err-tail.ensures;
    }

pub overflow_add-head : goal.overflow_add-head
overflow_add-head c = omega (arith, c.loop-head-test.true, (here (goal.at.overflow_add-head c).At-loop-head).most, c.requires.search.space.room)

pub loop-head-smaller : goal.loop-head-smaller
loop-head-smaller c = omega (arith, c.loop-head-test.true, (here (goal.at.loop-head-smaller c).At-loop-head).most)

pub loop-head-preserved : goal.loop-head-preserved
loop-head-preserved c = λ directed es s S. run_step directed es s (c.loop-head.invariant directed es s S) c.loop-head-test.true c.in_ok-tail.ensures

pub returns : goal.returns
returns c =
    record { kept = (here (goal.at.returns c).At-loop-head).kept; ended = λ directed es s S. (c.loop-head.invariant directed es s S).over c.loop-head-test.false }
