-- `predecessors::search_on` meets its contract: before each visit the search is as `Run` says. Assumes nothing.
use mathlib.Core.Bool.{Bool}
use mathlib.Core.List.{List}
use Prim.Native.Nat.{ℕ, ◌+◌, ◌-◌}
use lib.ListN.{get_or}
use Rattle.graph.specs.Edges.{Edge}
use Rattle.hops.specs.Search.{graph_of}
use Rattle.predecessors.specs.Tracks.{Tracked}
use Rattle.predecessors.proofs.Tours.{Run}
use Rattle.predecessors.proofs.search_on.Given as goal

abbrev pub invariant-loop-head : goal.invariant-loop-head
invariant-loop-head l = (directed : Bool) (es : List Edge) (s : ℕ) → Tracked (graph_of l.tracks.places.nodes directed es) l.tracks s l.initial.w32 l.initial.w64 0 1 (get_or l.initial.w32 (l.tracks.places.queue + 0) 0) 0
    → Run (graph_of l.tracks.places.nodes directed es) l.tracks s l.initial.w32 l.initial.w64 l.w32 l.w64 l.head l.tail

abbrev pub decreases-loop-head : goal.decreases-loop-head
decreases-loop-head l = l.tracks.places.nodes - l.head
