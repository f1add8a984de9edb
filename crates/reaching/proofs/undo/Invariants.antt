-- `reaching::undo` meets its contract: after i turns the first i nodes of the queue have no distance. Assumes nothing.
use Rattle.reaching.specs.Starts.{Undone}
use Rattle.reaching.proofs.undo.Given as goal

abbrev pub invariant-loop-i : goal.invariant-loop-i
invariant-loop-i l = Undone l.i l.distances l.queue l.initial.w l.w
