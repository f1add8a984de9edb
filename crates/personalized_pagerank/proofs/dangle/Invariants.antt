-- `personalized_pagerank::dangle` meets its contract: after j nodes they have gained. Assumes nothing.
use Rattle.rounds.specs.Rounds.{after}
use Rattle.rounds.specs.Vectors.{current_in, next_in, Vectors}
use Rattle.personalized_pagerank.specs.Personalized.{personal_in, gains_part}
use Rattle.personalized_pagerank.proofs.dangle.Given as goal

abbrev pub invariant-loop-j : goal.invariant-loop-j
invariant-loop-j l = Vectors l.nodes l.initial.wf (current_in l.nodes l.initial.wf) (after (gains_part l.dangling (personal_in l.nodes l.initial.wf)) l.j (next_in l.nodes l.initial.wf)) l.wf
