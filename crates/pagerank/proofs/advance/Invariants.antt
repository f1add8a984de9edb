-- `pagerank::advance` meets its contract: after i nodes their entries are moved, and their changes added. Assumes nothing.
use Rattle.pagerank.proofs.Nodes.{Advancing}
use Rattle.pagerank.proofs.advance.Given as goal

abbrev pub invariant-loop-i : goal.invariant-loop-i
invariant-loop-i l = Advancing l.nodes l.initial.wf l.i l.change l.wf
