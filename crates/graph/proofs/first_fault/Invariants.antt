-- `graph::first_fault` meets its contract: the first fault of the edges from the ith on is the first of all. Assumes nothing.
use mathlib.Core.Path.{◌≡◌}
use lib.ListN.{drop}
use Rattle.graph.specs.Edges.{edges_of}
use Rattle.graph.specs.Checks.{first_fault}
use Rattle.graph.proofs.first_fault.Given as goal

abbrev pub invariant-loop-i : goal.invariant-loop-i
invariant-loop-i l =
    let g = l.graph in
    first_fault g.nodes (drop l.i (edges_of g.from.now g.to.now g.weight.now)) ≡ first_fault g.nodes (edges_of g.from.now g.to.now g.weight.now)
