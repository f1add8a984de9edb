-- `pair_search::search_on` meets its contract: before each visit the search is as `Run` and `RunPairs` say. Assumes nothing.
use mathlib.Core.Bool.{Bool}
use mathlib.Core.List.{List}
use Prim.Native.Nat.{ℕ, ◌+◌, ◌-◌}
use lib.ListN.{get_or}
use Rattle.graph.specs.Edges.{Edge}
use Rattle.hops.specs.Search.{graph_of}
use Rattle.predecessors.specs.Tracks.{Tracked}
use Rattle.predecessors.proofs.Tours.{Run}
use Rattle.pair_search.specs.Pairs.{TrackedPairs}
use Rattle.pair_search.proofs.Runs.{RunPairs}
use Rattle.pair_search.proofs.search_on.Given as goal

abbrev pub invariant-loop-head : goal.invariant-loop-head
invariant-loop-head l = ((directed : Bool) (es : List Edge) (s : ℕ) → Tracked (graph_of l.paired.tracks.places.nodes directed es) l.paired.tracks s l.initial.w32 l.initial.w64 0 1 (get_or l.initial.w32 (l.paired.tracks.places.queue + 0) 0) 0
    → Run (graph_of l.paired.tracks.places.nodes directed es) l.paired.tracks s l.initial.w32 l.initial.w64 l.w32 l.w64 l.head l.tail)
    × ((directed : Bool) (es : List Edge) (number : ℕ → ℕ → ℕ) (s : ℕ) → TrackedPairs (graph_of l.paired.tracks.places.nodes directed es) number l.paired s l.initial.w32 l.initial.w64 0 1 (get_or l.initial.w32 (l.paired.tracks.places.queue + 0) 0) 0
    → RunPairs (graph_of l.paired.tracks.places.nodes directed es) number l.paired s l.w32 l.w64 l.head l.tail)

abbrev pub decreases-loop-head : goal.decreases-loop-head
decreases-loop-head l = l.paired.tracks.places.nodes - l.head
