-- `polls::count_votes` meets its contract: after i edges their votes are counted. Assumes nothing.
use native.Mathlib.Omega.{arith}
use Rattle.polls.proofs.Voting.{voting_more, voting_all}
use Rattle.polls.proofs.count_votes.Goals as goal

pub loop-i-preserved : goal.loop-i-preserved
loop-i-preserved c = voting_more _ _ _ _ _ _ c.requires _ _ c.loop-i-test.true c.loop-i.invariant _ c.vote.ensures

pub returns : goal.returns
returns c = voting_all _ _ _ _ _ _ c.requires _ _ (omega arith) c.loop-i.invariant
