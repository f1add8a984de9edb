-- `rows::Rows::row` meets its contract: the part between two offsets is the row. Assumes nothing.
use Rattle.rows.proofs.Reading.{row_slice}
use Rattle.rows.proofs.Rows.row.Goals as goal

pub returns : goal.returns
returns c = row_slice _ _ c.args.v
