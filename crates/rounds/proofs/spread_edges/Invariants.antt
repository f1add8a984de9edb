-- `rounds::spread_edges`: after the first i edges, what the others make of the next vector is what all make of the first.
use Rattle.std.proofs.Common.{◌≡◌}
use lib.Ieee.{Float}
use Rattle.rounds.specs.Steps.{edge_spread}
use Rattle.rounds.proofs.Passes.{Growing}
use Rattle.rounds.proofs.spread_edges.Given as goal

abbrev pub invariant-loop-i : goal.invariant-loop-i
invariant-loop-i g l = (by : Float → Float) → ((x y : Float) → goal.F-post g l.factor x y → y ≡ by x)
    → Growing l.graph.nodes (edge_spread by l.graph.directed) l.graph.from.now l.graph.to.now l.graph.weight.now l.initial.wf l.i l.wf
