-- `reach::reach_within` meets its contract: before each node of the queue the search is as `Going` says. Assumes nothing.
use mathlib.Core.Path.{refl}
use Prim.Native.Nat.{◌+◌, ◌≤◌}
use native.Mathlib.Omega.{arith}
use lib.ListN.{get_or}
use Rattle.hops.specs.Search.{graph_of}
use Rattle.reach.proofs.Walks.{Starts, starts}
use Rattle.reach.proofs.Within.{Going, spread_pre, going_stop, going_more}
use Rattle.reach.proofs.reach_within.Goals as goal
use Rattle.reach.proofs.reach_within.Goals.{At-loop-head, In-loop-head}

-- where the search stands, for the graph that the caller has
here : (c : goal.At-loop-head) → Going (graph_of c.args.bounded.nodes c.requires.directed c.requires.edges) c.args.bounded.limit c.requires.start c.args.bounded.distances c.args.bounded.queue c.args.w.now c.loop-head.w c.loop-head.head c.loop-head.tail
here c = let s = c.requires in c.loop-head.invariant s.directed s.edges s.start s.walk s.near

-- the node at the head of the queue
node : (c : goal.In-loop-head) → Starts c.args.bounded.nodes c.args.bounded.distances c.args.bounded.queue c.loop-head.tail (get_or c.loop-head.w (c.args.bounded.queue + c.loop-head.head) 0) c.loop-head.w
node c = starts ((here c.before).going c.loop-head-test.true)

pub overflow_add-u : goal.overflow_add-u
overflow_add-u c = omega (arith, node c)

pub offset_bounds-w-queue : goal.offset_bounds-w-queue
offset_bounds-w-queue c = omega (arith, node c)

pub bounds-w-queue : goal.bounds-w-queue
bounds-w-queue c = omega (arith, node (goal.at.bounds-w-queue c).In-loop-head)

pub bounds-w-distances : goal.bounds-w-distances
bounds-w-distances c = omega (arith, node (goal.at.bounds-w-distances c).In-loop-head)

pub overflow_add-far-in-loop-head : goal.overflow_add-far-in-loop-head
overflow_add-far-in-loop-head c = omega (arith, node (goal.at.overflow_add-far-in-loop-head c).In-loop-head)

pub overflow_add-head : goal.overflow_add-head
overflow_add-head c = omega (arith, node (goal.at.overflow_add-head c).In-loop-head)

pub returns-then-limit-far : goal.returns-then-limit-far
returns-then-limit-far c =
    record {
      kept = (here (goal.at.returns-then-limit-far c).At-loop-head).kept;
      reached = λ directed es s w near. going_stop directed es s (c.loop-head.invariant directed es s w near) c.loop-head-test.true c.if-limit-far.true;
    }

pub spread-tail-requires : goal.spread-tail-requires
spread-tail-requires c =
    let s = c.requires in
    spread_pre s.directed s.edges s.start (here (goal.at.spread-tail-requires c).At-loop-head) c.loop-head-test.true _ refl

pub loop-head-smaller : goal.loop-head-smaller
loop-head-smaller c = omega (arith, node (goal.at.loop-head-smaller c).In-loop-head)

pub loop-head-preserved : goal.loop-head-preserved
loop-head-preserved c =
    let near : get_or c.loop-head.w (c.args.bounded.distances + get_or c.loop-head.w (c.args.bounded.queue + c.loop-head.head) 0) 0 + 1 ≤ c.args.bounded.limit = omega (arith, c.if-limit-far.false) in
    λ directed es s w h. going_more directed es s (c.loop-head.invariant directed es s w h) c.loop-head-test.true near c.spread-tail.ensures

pub returns : goal.returns
returns c =
    record { kept = (here (goal.at.returns c).At-loop-head).kept; reached = λ directed es s w near. (c.loop-head.invariant directed es s w near).over c.loop-head-test.false }
