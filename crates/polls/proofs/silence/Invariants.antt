-- `polls::silence` meets its contract: the elected before the index score 0. Assumes nothing.
use Rattle.polls.specs.Steps.{Silenced}
use Rattle.polls.proofs.silence.Given as goal

abbrev pub invariant-loop-v : goal.invariant-loop-v
invariant-loop-v l = Silenced l.nodes l.v-index l.elected l.initial.w l.w
