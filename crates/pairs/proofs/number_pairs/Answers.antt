-- `pairs::number_pairs` meets its contract: before the row of v, the rows of the nodes below it are numbered. Assumes nothing.
use native.Mathlib.Omega.{arith}
use Rattle.pairs.proofs.Numbering.{pre_filled, row_pre, rows_more, rows_done}
use Rattle.pairs.proofs.number_pairs.Goals as goal

pub number_row-requires : goal.number_row-requires
number_row-requires c = row_pre (pre_filled c.requires c.fill.ensures) (omega arith) c.loop-v.invariant

pub loop-v-preserved : goal.loop-v-preserved
loop-v-preserved c = rows_more (pre_filled c.requires c.fill.ensures) (omega arith) c.loop-v.invariant c.number_row.ensures

pub returns : goal.returns
returns c = rows_done c.requires c.fill.ensures (omega arith) c.loop-v.invariant
