-- `scoring::score_job` meets its contract: the weights stored are the doubles of the bits. Assumes nothing.
use lib.Ieee.{of_bits}
use Rattle.scoring.proofs.Fronts.{doubled, on_doubles}
use Rattle.scoring.specs.Scored.{on_zeros}
use Rattle.scoring.proofs.score_job.Goals as goal

pub returns : goal.returns
unfolding on_zeros of_bits
returns c =
    let weights = doubled c.args.bits.now c.weights_of.ensures c.requires.1.edges_few in
    on_doubles c.args.measure c.args.top c.args.from.now c.args.to.now c.args.bits.now weights c.score.ensures
