-- `pagerank::spread` meets its contract: after v nodes they have given. Assumes nothing.
use Rattle.rounds.specs.Rounds.{after}
use Rattle.rounds.specs.Vectors.{current_in, next_in, Vectors}
use Rattle.links.specs.Links.{links_in}
use Rattle.pagerank.specs.PageRank.{pagerank_node}
use Rattle.pagerank.proofs.spread.Given as goal

abbrev pub invariant-loop-v : goal.invariant-loop-v
invariant-loop-v l = Vectors l.nodes l.initial.wf (current_in l.nodes l.initial.wf) (after (pagerank_node (links_in l.nodes l.w l.initial.wf) l.damping (current_in l.nodes l.initial.wf)) l.v (next_in l.nodes l.initial.wf)) l.wf
