-- `eigenvector::round` meets its contract: the edges, the norm, then the start value or the scaled vector. Assumes nothing.
use Rattle.std.proofs.Common.{arith}
use Rattle.eigenvector.proofs.Steps.{round_tiny, round_scaled}
use Rattle.eigenvector.proofs.round.Goals as goal

pub spread_edges-requires : goal.spread_edges-requires
spread_edges-requires c = c.requires.spreads

pub norm-norm-requires : goal.norm-norm-requires
norm-norm-requires c = omega (arith, c.requires.spreads.room, c.spread_edges.ensures.front.long)

pub overflow_add-nodes : goal.overflow_add-nodes
overflow_add-nodes c = omega (arith, c.requires.spreads.sound.limits.nodes)

pub fill-requires : goal.fill-requires
fill-requires c = omega (arith, c.requires.spreads.room, c.spread_edges.ensures.front.long)

pub returns-then-norm : goal.returns-then-norm
returns-then-norm c =
    let a = c.args in
    let v = c.spread_edges.ensures in
    round_tiny a.graph.nodes a.graph.directed a.graph.from.now a.graph.to.now a.graph.weight.now a.tolerance c.requires.begun v (omega (arith, c.requires.spreads.room, v.front.long)) c.requires.value
    c.norm-norm.ensures c.if-norm.true c.fill.ensures

pub normalize-change-requires : goal.normalize-change-requires
normalize-change-requires c = omega (arith, c.requires.spreads.room, c.spread_edges.ensures.front.long)

pub returns : goal.returns
returns c =
    let a = c.args in
    round_scaled a.graph.nodes a.graph.directed a.graph.from.now a.graph.to.now a.graph.weight.now a.tolerance c.requires.begun c.spread_edges.ensures
    c.norm-norm.ensures c.if-norm.false c.normalize-change.ensures.0 c.normalize-change.ensures.1 c.sqrt.ensures.0
