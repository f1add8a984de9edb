-- `graph::highest` meets its contract: after i ends none of them is above the highest so far. Assumes nothing.
use Rattle.graph.proofs.Checks.{Top}
use Rattle.graph.proofs.highest.Given as goal

abbrev pub invariant-loop-end : goal.invariant-loop-end
invariant-loop-end l = Top l.ends l.end-index l.top
