-- `rounds::run`: before the kth round k rounds were done, none of which met a stop rule.
use Rattle.rounds.specs.Runs.{Reached}
use Rattle.rounds.proofs.run.Given as goal

abbrev pub invariant-loop-k : goal.invariant-loop-k
invariant-loop-k g l = Reached (λ p met q. goal.F-post g l.round p met q) l.fn.wf l.k l.wf
