-- `reply::put_refusal` meets its contract. Assumes nothing.
use Rattle.text.proofs.Stores.{and_then}
use Rattle.reply.proofs.put_refusal.Goals as goal

pub returns : goal.returns
returns c = and_then c.put_number-a.ensures.0 c.put_number.ensures.0
