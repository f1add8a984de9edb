-- `voterank::elect` meets its contract: after k elections the slices hold the poll of the rule. Assumes nothing.
use lib.ListN.{length}
use Rattle.voterank.proofs.Polling.{Polling}
use Rattle.voterank.proofs.elect.Given as goal

abbrev pub invariant-loop-k : goal.invariant-loop-k
invariant-loop-k l = let g = l.fn.graph in Polling g.nodes g.directed g.from.now g.to.now g.weight.now l.decay (length l.initial.elected) l.initial.elected l.initial.w l.k l.elected l.w
