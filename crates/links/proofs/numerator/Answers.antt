-- `links::numerator` meets its contract. Assumes nothing.
use lib.Ieee.{of_bits}
use Rattle.links.proofs.numerator.Goals as goal

pub returns-else-counts : goal.returns-else-counts
unfolding of_bits
returns-else-counts c = rw c.if-counts.false
