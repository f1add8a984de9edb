-- `personalized_pagerank::bases` meets its contract: after j nodes their entries are begun. Assumes nothing.
use Rattle.personalized_pagerank.specs.Personalized.{personal_in, personal_base}
use Rattle.links.proofs.Turns.{Dividing}
use Rattle.personalized_pagerank.proofs.bases.Given as goal

abbrev pub invariant-loop-j : goal.invariant-loop-j
invariant-loop-j l = Dividing l.nodes l.nodes (personal_base l.damping (personal_in l.nodes l.initial.wf)) l.initial.wf l.j l.wf
