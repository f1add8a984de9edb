-- `links::copy_weights` meets its contract: at k the entries before it have their weights. Assumes nothing.
use Rattle.std.proofs.Common.{arith}
use Rattle.links.proofs.Weights.{reads as readsAt, copying_none, copying_more, copying_done}
use Rattle.links.proofs.copy_weights.Goals as goal

pub bounds-w-beside : goal.bounds-w-beside
bounds-w-beside c = let r = readsAt _ _ _ c.requires.fit _ c.args.graph.nodes (omega arith) (omega arith) c.loop-k-test.true in omega (arith, c.requires.fit.room, r.place)

pub bounds-graph-w : goal.bounds-graph-w
bounds-graph-w c = let r = readsAt _ _ _ c.requires.fit _ c.args.graph.nodes (omega arith) (omega arith) c.loop-k-test.true in omega (arith, c.requires.weights, r.position)

pub bounds-wf-weights : goal.bounds-wf-weights
bounds-wf-weights c = let r = readsAt _ _ _ c.requires.fit _ c.args.graph.nodes (omega arith) (omega arith) c.loop-k-test.true in omega (arith, c.requires.room, r.place)

pub loop-k-init : goal.loop-k-init
loop-k-init c = copying_none _ _ _ _ _

pub loop-k-preserved : goal.loop-k-preserved
loop-k-preserved c =
    let r = readsAt _ _ _ c.requires.fit _ c.args.graph.nodes (omega arith) (omega arith) c.loop-k-test.true in
    copying_more _ _ _ _ _ c.loop-k.k c.loop-k.wf c.requires.room r.place c.loop-k.invariant

pub returns : goal.returns
returns c = copying_done _ _ _ _ _ c.requires c.loop-k.k c.loop-k.wf c.loop-k-test.false c.loop-k.invariant
