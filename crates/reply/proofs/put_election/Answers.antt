-- `reply::put_election` meets its contract. Assumes nothing.
use Rattle.text.proofs.Stores.{and_then}
use Rattle.reply.proofs.put_election.Goals as goal

pub returns : goal.returns
returns c = and_then c.put_head-a.ensures.0 c.put_elected.ensures
