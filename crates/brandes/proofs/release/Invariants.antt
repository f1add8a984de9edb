-- `brandes::release` meets its contract: after i turns the first i nodes of the queue are released. Assumes nothing.
use Rattle.brandes.specs.Steps.{Released}
use Rattle.brandes.proofs.release.Given as goal

abbrev pub invariant-loop-i : goal.invariant-loop-i
invariant-loop-i l = Released l.tracks l.i l.initial.w32 l.initial.wf l.w32 l.wf
