-- `katz::advance` meets its contract: after i nodes both vectors are rewritten up to i, and the sum has i changes. Assumes nothing.
use mathlib.Core.Path.{◌≡◌}
use Rattle.regions.specs.Region.{zero_f}
use Rattle.rounds.specs.Rounds.{after}
use Rattle.rounds.specs.Vectors.{entry, with_change, current_in, next_in}
use Rattle.rounds.proofs.Passes.{Rewritten}
use Rattle.katz.specs.Katz.{beta_at}
use Rattle.katz.proofs.advance.Given as goal

abbrev pub invariant-loop-i : goal.invariant-loop-i
invariant-loop-i l = Rewritten l.nodes (entry (next_in l.nodes l.initial.wf)) (beta_at l.given l.beta) l.initial.wf l.i l.wf
    × (l.sum ≡ after (with_change (current_in l.nodes l.initial.wf) (next_in l.nodes l.initial.wf)) l.i zero_f)
