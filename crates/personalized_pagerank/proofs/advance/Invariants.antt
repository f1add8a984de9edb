-- `personalized_pagerank::advance` meets its contract: after i nodes both vectors are rewritten up to i, and the sum has i changes. Assumes nothing.
use Rattle.std.proofs.Common.{◌≡◌}
use Rattle.regions.specs.Region.{zero_f}
use Rattle.rounds.specs.Rounds.{after}
use Rattle.rounds.specs.Vectors.{entry, next_in}
use Rattle.rounds.proofs.Passes.{Rewritten}
use Rattle.personalized_pagerank.specs.Personalized.{personal_in, personal_base}
use Rattle.personalized_pagerank.proofs.Personal.{moving}
use Rattle.personalized_pagerank.proofs.advance.Given as goal

abbrev pub invariant-loop-i : goal.invariant-loop-i
invariant-loop-i l = Rewritten l.nodes (entry (next_in l.nodes l.initial.wf)) (personal_base l.damping (personal_in l.nodes l.initial.wf)) l.initial.wf l.i l.wf
    × (l.change ≡ after (moving l.nodes l.damping l.initial.wf) l.i zero_f)
