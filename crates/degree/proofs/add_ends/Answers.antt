-- `degree::add_ends` meets its contract: the ends before the index have each added one. Assumes nothing.
use lib.Ieee.{of_bits}
use Rattle.degree.proofs.Counting.{tally_none, tally_more}
use Rattle.degree.proofs.add_ends.Goals as goal

pub loop-end-init : goal.loop-end-init
loop-end-init c = tally_none _ _

pub loop-end-preserved : goal.loop-end-preserved
unfolding of_bits
loop-end-preserved c = tally_more _ c.loop-end.end-index _ c.loop-end.scores c.loop-end-test.true c.loop-end.invariant
