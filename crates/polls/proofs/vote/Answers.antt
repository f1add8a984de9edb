-- `polls::vote` meets its contract. Assumes nothing.
use Rattle.polls.specs.Steps.{voted}
use Rattle.polls.proofs.vote.Goals as goal

pub returns-then-not-directed : goal.returns-then-not-directed
unfolding voted
returns-then-not-directed c = rw c.if-not-directed.true

pub returns-else-not-directed : goal.returns-else-not-directed
unfolding voted
returns-else-not-directed c = rw c.if-not-directed.false
