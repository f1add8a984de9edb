-- `pagerank::spread` meets its contract: after v nodes they have given. Assumes nothing.
use Rattle.std.proofs.Common.{List, refl, ap, ◌∙◌, arith}
use lib.Ieee.{Float}
use Rattle.rounds.specs.Vectors.{current_in, next_in}
use Rattle.links.specs.Links.{Links, links_in}
use Rattle.pagerank.specs.PageRank.{pagerank_node}
use Rattle.links.proofs.Turns.{links_kept, nodes_none, nodes_more, nodes_done}
use Rattle.links.proofs.Rounds.{pre_kept}
use Rattle.pagerank.proofs.spread.Goals as goal

pub loop-v-init : goal.loop-v-init
loop-v-init c = (nodes_none c.args.nodes (pagerank_node (links_in c.args.nodes c.args.w.now c.args.wf.now) c.args.damping (current_in c.args.nodes c.args.wf.now)) c.args.wf.now)

pub spread_node-requires : goal.spread_node-requires
spread_node-requires c = (pre_kept _ _ c.requires c.loop-v.invariant.front, c.loop-v-test.true)

pub loop-v-preserved : goal.loop-v-preserved
loop-v-preserved c = let n = c.args.nodes in
    let d = c.args.damping in
    let wf = c.loop-v.wf in
    let k = c.loop-v.invariant in
    (nodes_more c.args.nodes (pagerank_node (links_in c.args.nodes c.args.w.now c.args.wf.now) c.args.damping (current_in c.args.nodes c.args.wf.now)) c.args.wf.now k c.spread_node.ensures refl
    (ap (λ (l : Links). pagerank_node l d (current_in n wf) c.loop-v.v (next_in n wf)) (links_kept n c.args.w.now c.requires.room k.front)
    ∙ ap (λ (x : List Float). pagerank_node (links_in n c.args.w.now c.args.wf.now) d x c.loop-v.v (next_in n wf)) k.current))

pub returns : goal.returns
returns c = nodes_done c.args.nodes (pagerank_node (links_in c.args.nodes c.args.w.now c.args.wf.now) c.args.damping (current_in c.args.nodes c.args.wf.now)) c.args.wf.now (omega arith) c.loop-v.invariant
