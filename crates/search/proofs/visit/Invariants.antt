-- `search::visit` meets its contract: at each entry the search is as `Scan` says. Assumes nothing.
use mathlib.Core.Bool.{Bool}
use mathlib.Core.List.{List}
use Prim.Native.Nat.{ℕ}
use Rattle.graph.specs.Edges.{Edge}
use Rattle.hops.specs.Search.{graph_of, Search}
use Rattle.hops.proofs.Scans.{Scan}
use Rattle.search.proofs.visit.Given as goal

abbrev pub invariant-loop-p : goal.invariant-loop-p
invariant-loop-p l = (directed : Bool) (es : List Edge) (s : ℕ) → Search (graph_of l.places.nodes directed es) l.places.limit s l.initial.w l.initial.counts l.places.distances l.places.queue l.head l.tail l.u 0 → Scan (graph_of l.places.nodes directed es) l.places.limit s l.places.distances l.places.queue l.head l.initial.w l.initial.counts l.u l.further l.ways l.w l.counts l.p l.place
