-- `eigenvector::normalize` meets its contract: after i nodes both vectors are rewritten up to i, and the sum has i changes. Assumes nothing.
use Rattle.std.proofs.Common.{◌≡◌}
use Rattle.regions.specs.Region.{zero_f}
use Rattle.rounds.specs.Rounds.{after}
use Rattle.rounds.specs.Vectors.{with_change, current_in, next_in}
use Rattle.rounds.proofs.Passes.{Rewritten}
use Rattle.eigenvector.specs.Eigenvector.{scaled}
use Rattle.eigenvector.proofs.Steps.{scaled_at}
use Rattle.eigenvector.proofs.normalize.Given as goal

abbrev pub invariant-loop-i : goal.invariant-loop-i
invariant-loop-i l = Rewritten l.nodes (scaled_at l.norm (next_in l.nodes l.initial.wf)) (scaled_at l.norm (next_in l.nodes l.initial.wf)) l.initial.wf l.i l.wf
    × (l.sum ≡ after (with_change (current_in l.nodes l.initial.wf) (scaled l.nodes l.norm (next_in l.nodes l.initial.wf))) l.i zero_f)
