-- `pairs::number_row` meets its contract: before place p, the entries from a on are numbered. Assumes nothing.
use native.Mathlib.Omega.{arith}
use Rattle.pairs.proofs.Numbering.{row_more}
use Rattle.pairs.proofs.number_row.Goals as goal

pub loop-p-preserved : goal.loop-p-preserved
loop-p-preserved c = row_more c.requires (omega arith) (omega arith) c.loop-p.invariant c.first_place-place.result c.first_place-place.ensures
