-- `pair_starts::prepare_pairs` meets its contract: the rows and all that the starts need, then the pairs' numbers and totals. Assumes nothing.
use lib.Ieee.{of_bits}
use Rattle.pair_starts.proofs.Pairing.{number_pre, prepared_pairs}
use Rattle.pair_starts.proofs.prepare_pairs.Goals as goal

pub number_pairs-requires : goal.number_pairs-requires
number_pairs-requires c = number_pre c.requires c.prepare.ensures c.of-table.ensures

pub returns : goal.returns
unfolding of_bits
returns c = prepared_pairs c.requires c.prepare.ensures c.of-table.ensures c.number_pairs.ensures c.fill.ensures
