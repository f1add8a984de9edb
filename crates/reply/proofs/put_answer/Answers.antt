-- `reply::put_answer` meets its contract. Assumes nothing.
use Rattle.text.proofs.Stores.{and_then}
use Rattle.reply.proofs.put_answer.Goals as goal

pub returns : goal.returns
returns c = and_then c.put_head-a.ensures.0 c.put_scores.ensures
