-- `predecessors::visit` meets its contract: at each entry the search is as `Tour` says. Assumes nothing.
use mathlib.Core.Bool.{Bool}
use mathlib.Core.List.{List}
use Prim.Native.Nat.{ℕ}
use Rattle.graph.specs.Edges.{Edge}
use Rattle.hops.specs.Search.{graph_of}
use Rattle.predecessors.specs.Tracks.{Tracked}
use Rattle.predecessors.proofs.Tours.{Tour}
use Rattle.predecessors.proofs.visit.Given as goal

abbrev pub invariant-loop-p : goal.invariant-loop-p
invariant-loop-p l = (directed : Bool) (es : List Edge) (s : ℕ) → Tracked (graph_of l.tracks.places.nodes directed es) l.tracks s l.initial.w32 l.initial.w64 l.head l.tail l.u 0
    → Tour (graph_of l.tracks.places.nodes directed es) l.tracks s l.head l.initial.w32 l.initial.w64 l.u l.further l.ways l.w32 l.w64 l.p l.place
