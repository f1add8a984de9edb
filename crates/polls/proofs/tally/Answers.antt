-- `polls::tally` meets its contract: no votes, then those of all edges. Assumes nothing.
use lib.Ieee.{of_bits}
use Rattle.polls.proofs.Voting.{tally_clear, tally_all}
use Rattle.polls.proofs.tally.Goals as goal

pub count_votes-requires : goal.count_votes-requires
unfolding of_bits
count_votes-requires c = tally_clear _ c.args.graph.directed _ _ _ _ _ c.requires c.fill.ensures

pub returns : goal.returns
unfolding of_bits
returns c = tally_all _ _ _ _ _ _ _ c.requires c.fill.ensures _ c.count_votes.ensures
