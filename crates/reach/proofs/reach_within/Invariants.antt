-- `reach::reach_within` meets its contract: before each node of the queue the search is as `Going` says. Assumes nothing.
use mathlib.Core.Bool.{Bool}
use mathlib.Core.List.{List}
use Prim.Native.Nat.{ℕ, ◌+◌, ◌-◌}
use lib.ListN.{get_or}
use Rattle.graph.specs.Edges.{Edge}
use Rattle.hops.specs.Search.{graph_of}
use Rattle.reach.specs.Search.{Walk, Near}
use Rattle.reach.proofs.Within.{Going}
use Rattle.reach.proofs.reach_within.Given as goal

abbrev pub invariant-loop-head : goal.invariant-loop-head
invariant-loop-head l = (directed : Bool) (es : List Edge) (s : ℕ) → Walk (graph_of l.bounded.nodes directed es) s l.initial.w l.distances l.queue 0 1 (get_or l.initial.w (l.queue + 0) 0) 0 → Near l.bounded.nodes l.limit l.distances l.initial.w → Going (graph_of l.bounded.nodes directed es) l.limit s l.distances l.queue l.initial.w l.w l.head l.tail

abbrev pub decreases-loop-head : goal.decreases-loop-head
decreases-loop-head l = l.bounded.nodes - l.head
