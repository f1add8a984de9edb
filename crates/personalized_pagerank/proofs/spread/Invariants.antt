-- `personalized_pagerank::spread` meets its contract: after v nodes they have given. Assumes nothing.
use Rattle.rounds.specs.Rounds.{after}
use Rattle.rounds.specs.Vectors.{current_in, next_in, Vectors}
use Rattle.links.specs.Links.{links_in}
use Rattle.personalized_pagerank.specs.Personalized.{personal_in, personal_node}
use Rattle.personalized_pagerank.proofs.spread.Given as goal

abbrev pub invariant-loop-v : goal.invariant-loop-v
invariant-loop-v l = Vectors l.nodes l.initial.wf (current_in l.nodes l.initial.wf) (after (personal_node (links_in l.nodes l.w l.initial.wf) l.damping (personal_in l.nodes l.initial.wf) (current_in l.nodes l.initial.wf)) l.v (next_in l.nodes l.initial.wf)) l.wf
