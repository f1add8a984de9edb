-- `polls::count_votes` meets its contract: after i edges their votes are counted. Assumes nothing.
use Rattle.polls.proofs.Voting.{Voting}
use Rattle.polls.proofs.count_votes.Given as goal

abbrev pub invariant-loop-i : goal.invariant-loop-i
invariant-loop-i l = Voting l.fn.graph.nodes l.fn.graph.directed l.from l.to l.fn.graph.weight.now l.initial.w l.i l.w
