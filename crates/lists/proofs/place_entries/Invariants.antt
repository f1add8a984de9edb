-- `lists::place_entries` meets its contract: with i edges left, the entries of the others stand at the ends of their lists. Assumes nothing.
use Prim.Native.Nat.{◌+◌}
use lib.ListN.{length, drop}
use Rattle.graph.specs.Edges.{edges_of, weighted}
use Rattle.lists.specs.Walks.{start_of}
use Rattle.lists.proofs.Placing.{Holds}
use Rattle.lists.proofs.place_entries.Given as goal

abbrev pub invariant-loop-i : goal.invariant-loop-i
invariant-loop-i l = Holds l.graph.nodes (length l.from) (λ v. start_of l.directed (edges_of l.from l.to l.graph.weight.now) (v + 1)) (weighted l.directed (drop l.i (edges_of l.from l.to l.graph.weight.now))) l.initial.w l.w
