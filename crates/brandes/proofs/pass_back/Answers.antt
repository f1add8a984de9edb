-- `brandes::pass_back` meets its contract: the entries before this one have taken their shares. Assumes nothing.
use Rattle.std.proofs.Common.{refl, arith}
use Rattle.brandes.specs.Steps.{passed_back}
use Rattle.brandes.proofs.Passing.{pass_more}
use Rattle.brandes.proofs.pass_back.Goals as goal

pub loop-entry-init : goal.loop-entry-init
unfolding passed_back
loop-entry-init c = refl

pub loop-entry-preserved : goal.loop-entry-preserved
loop-entry-preserved c = pass_more _ _ _ _ _ _ _ _ _ (omega arith) c.nearest_u64_to_f64.ensures c.loop-entry.invariant
