-- `links::copy_weights` meets its contract: at k the entries before it have their weights. Assumes nothing.
use Rattle.std.proofs.Common.{length}
use Rattle.links.proofs.Weights.{Copying}
use Rattle.links.proofs.copy_weights.Given as goal

abbrev pub invariant-loop-k : goal.invariant-loop-k
invariant-loop-k l = Copying l.graph.nodes (length l.graph.from.now) l.graph.weight.now l.w l.initial.wf l.k l.wf
