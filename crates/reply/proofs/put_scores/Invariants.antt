-- `reply::put_scores` meets its contract. Assumes nothing.
use Prim.Native.Nat.{◌≤◌, ◌-◌, ◌+◌, ◌*◌}
use lib.ListN.{length}
use lib.Ieee.{nan}
use Rattle.reply.specs.Reply.{score_text}
use Rattle.reply.proofs.Sequences.{Leads}
use Rattle.reply.proofs.put_scores.Given as goal

abbrev pub invariant-loop-k : goal.invariant-loop-k
invariant-loop-k l = (l.at + 44 * (length l.scores - l.k) ≤ length l.output) × Leads score_text nan l.scores l.initial.output l.start l.output l.at l.k
