-- `rounds::write_settled` meets its contract. Assumes nothing.
use borrow.Author.Tests.{not-true, not-false}
use Rattle.rounds.proofs.Ending.{wrote, wrote_not}
use Rattle.rounds.proofs.write_settled.Goals as goal

pub returns-then-not-ended : goal.returns-then-not-ended
returns-then-not-ended c = rw c.from.ensures (wrote_not _ _ _ _ _ _ _ (not-true _ c.if-not-ended.true) c.wipe.ensures)

pub returns : goal.returns
returns c = wrote _ _ _ _ _ _ _ (not-false _ c.if-not-ended.false) c.copy_out.ensures c.wipe-2.ensures
