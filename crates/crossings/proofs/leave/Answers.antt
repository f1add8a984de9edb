-- `crossings::leave` meets its contract. Assumes nothing.
use Rattle.std.proofs.Common.{arith}
use Rattle.crossings.proofs.Passing.{left_across_lem, pass_asks}
use Rattle.crossings.proofs.leave.Goals as goal

pub pass_back-requires : goal.pass_back-requires
pass_back-requires c = pass_asks c.requires (omega arith) (omega arith)

pub returns : goal.returns
returns c = left_across_lem c.args.paired _ _ _ _ _ _ _ (omega arith) (omega arith) c.nearest_u64_to_f64-ways.ensures c.pass_back.ensures
