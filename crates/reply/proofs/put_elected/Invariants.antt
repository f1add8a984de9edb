-- `reply::put_elected` meets its contract. Assumes nothing.
use Prim.Native.Nat.{◌≤◌, ◌-◌, ◌+◌, ◌*◌}
use lib.ListN.{length}
use Rattle.reply.specs.Reply.{elected_text}
use Rattle.reply.proofs.Sequences.{Leads}
use Rattle.reply.proofs.put_elected.Given as goal

abbrev pub invariant-loop-node : goal.invariant-loop-node
invariant-loop-node l = (l.at + 29 * (length l.elected - l.node-index) ≤ length l.output) × Leads elected_text 0 l.elected l.initial.output l.start l.output l.at l.node-index
