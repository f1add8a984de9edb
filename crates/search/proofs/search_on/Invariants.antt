-- `search::search_on` meets its contract: before each visit the search is as `Run` says. Assumes nothing.
use mathlib.Core.Bool.{Bool}
use mathlib.Core.List.{List}
use Prim.Native.Nat.{ℕ, ◌+◌, ◌-◌}
use lib.ListN.{get_or}
use Rattle.graph.specs.Edges.{Edge}
use Rattle.hops.specs.Search.{graph_of, Search}
use Rattle.search.proofs.Runs.{Run}
use Rattle.search.proofs.search_on.Given as goal

abbrev pub invariant-loop-head : goal.invariant-loop-head
invariant-loop-head l = (directed : Bool) (es : List Edge) (s : ℕ) → Search (graph_of l.places.nodes directed es) l.places.limit s l.initial.w l.initial.counts l.places.distances l.places.queue 0 1 (get_or l.initial.w (l.places.queue + 0) 0) 0 → Run (graph_of l.places.nodes directed es) l.places.limit s l.places.distances l.places.queue l.initial.w l.initial.counts l.w l.counts l.head l.tail

abbrev pub decreases-loop-head : goal.decreases-loop-head
decreases-loop-head l = l.places.nodes - l.head
