-- `reach::spread` meets its contract: at each entry the walk is as `Spreading` says. Assumes nothing.
use mathlib.Core.Bool.{Bool}
use mathlib.Core.List.{List}
use Prim.Native.Nat.{ℕ}
use Rattle.graph.specs.Edges.{Edge}
use Rattle.hops.specs.Search.{graph_of}
use Rattle.reach.specs.Search.{Walk}
use Rattle.reach.proofs.Walks.{Spreading}
use Rattle.reach.proofs.spread.Given as goal

abbrev pub invariant-loop-p : goal.invariant-loop-p
invariant-loop-p l = (directed : Bool) (es : List Edge) (s head : ℕ) → Walk (graph_of l.nodes directed es) s l.initial.w l.distances l.queue head l.tail l.u 0 → Spreading (graph_of l.nodes directed es) s l.distances l.queue head l.initial.w l.u l.further l.w l.p l.place
