-- `katz::begin` meets its contract. Assumes nothing.
use Rattle.regions.specs.Region.{zero_f}
use Rattle.rounds.proofs.Passes.{Rewritten}
use Rattle.katz.specs.Katz.{beta_at}
use Rattle.katz.proofs.begin.Given as goal

abbrev pub invariant-loop-i : goal.invariant-loop-i
invariant-loop-i l = Rewritten l.nodes (λ _. zero_f) (beta_at l.given l.beta) l.initial.wf l.i l.wf
