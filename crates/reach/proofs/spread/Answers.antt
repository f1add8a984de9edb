-- `reach::spread` meets its contract: at each entry the walk is as `Spreading` says. Assumes nothing.
use native.Mathlib.Omega.{arith}
use Rattle.hops.specs.Search.{graph_of}
use Rattle.reach.proofs.Walks.{Spreading, spreading_none, place_in, spreading_done, entry_in, meet_pre, spreading_more, grows_by, starts}
use Rattle.reach.proofs.spread.Goals as goal
use Rattle.reach.proofs.spread.Goals.{At-loop-p}

-- where the walk stands, for the graph that the caller has
here : (c : goal.At-loop-p) → Spreading (graph_of c.args.bounded.nodes c.requires.directed c.requires.edges) c.requires.start c.args.bounded.distances c.args.bounded.queue c.requires.head c.args.w.now c.args.u c.args.further c.loop-p.w c.loop-p.p c.loop-p.place
here c = let s = c.requires in c.loop-p.invariant s.directed s.edges s.start s.head s.walk

pub overflow_add-place : goal.overflow_add-place
overflow_add-place c = omega (arith, starts c.requires.walk)

pub offset_bounds-w-u : goal.offset_bounds-w-u
offset_bounds-w-u c = omega (arith, starts c.requires.walk)

pub bounds-w-u : goal.bounds-w-u
bounds-w-u c = omega (arith, starts c.requires.walk)

pub overflow_add-p-end : goal.overflow_add-p-end
overflow_add-p-end c = omega (arith, starts c.requires.walk)

pub offset_bounds-w-u-2 : goal.offset_bounds-w-u-2
offset_bounds-w-u-2 c = omega (arith, starts c.requires.walk)

pub bounds-w-u-2 : goal.bounds-w-u-2
bounds-w-u-2 c = omega (arith, starts c.requires.walk)

pub bounds-w-p : goal.bounds-w-p
bounds-w-p c = entry_in (here (goal.at.bounds-w-p c).At-loop-p) c.loop-p-test.true

pub overflow_sub-result : goal.overflow_sub-result
overflow_sub-result c = omega (arith, (here (goal.at.overflow_sub-result c).At-loop-p).scan.free)

pub loop-p-init : goal.loop-p-init
loop-p-init c = λ directed es s head w. spreading_none c.requires.far w

pub meet-place-requires : goal.meet-place-requires
meet-place-requires c = meet_pre (here (goal.at.meet-place-requires c).At-loop-p) c.loop-p-test.true

pub overflow_add-place-in-loop-p : goal.overflow_add-place-in-loop-p
overflow_add-place-in-loop-p c =
    let h = here (goal.at.overflow_add-place-in-loop-p c).At-loop-p in
    omega (arith, grows_by h c.loop-p-test.true c.meet-place.ensures, place_in h)

pub loop-p-preserved : goal.loop-p-preserved
loop-p-preserved c =
    λ directed es s head w. spreading_more (c.loop-p.invariant directed es s head w) c.loop-p-test.true c.meet-place.ensures

pub returns : goal.returns
returns c =
    record {
      kept = (here (goal.at.returns c).At-loop-p).scan.kept.narrow;
      near = (here (goal.at.returns c).At-loop-p).near;
      walked = λ directed es s head w. spreading_done (c.loop-p.invariant directed es s head w) c.loop-p-test.false;
    }
