-- `polls::silence` meets its contract: the elected before the index score 0. Assumes nothing.
use lib.Ieee.{of_bits}
use Rattle.polls.proofs.Voting.{silenced_none, silenced_more}
use Rattle.polls.proofs.silence.Goals as goal

pub loop-v-init : goal.loop-v-init
loop-v-init c = silenced_none _ _ _

pub loop-v-preserved : goal.loop-v-preserved
unfolding of_bits
loop-v-preserved c = let i = c.loop-v.v-index in silenced_more _ _ _ _ i c.loop-v-test.true (c.requires.nodes i c.loop-v-test.true) c.requires.room c.loop-v.invariant
