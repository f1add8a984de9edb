-- `job::run` meets its contract. Assumes nothing.
use Rattle.job.proofs.Texts.{no_room, all_written}
use Rattle.job.proofs.run.Goals as goal

pub returns-then-output-lt-OUTPUT : goal.returns-then-output-lt-OUTPUT
returns-then-output-lt-OUTPUT c = rw c.from.ensures (no_room _ _ c.if-output-lt-OUTPUT.true)

pub returns : goal.returns
returns c = all_written _ c.if-output-lt-OUTPUT.false c.answer.ensures
