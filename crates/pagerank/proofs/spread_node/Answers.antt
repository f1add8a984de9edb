-- `pagerank::spread_node` meets its contract: above zero it distributes, else nothing changes. Assumes nothing.
use lib.Ieee.{of_bits}
use Rattle.pagerank.proofs.Nodes.{node_gives, node_keeps}
use Rattle.pagerank.proofs.spread_node.Goals as goal

pub give-requires : goal.give-requires
give-requires c = c.requires

pub returns-then-out : goal.returns-then-out
unfolding of_bits
returns-then-out c = node_gives c.args.nodes c.args.w.now c.args.damping c.args.v c.args.wf.now c.requires.1 c.if-out.true c.give.ensures

pub returns-else-out : goal.returns-else-out
unfolding of_bits
returns-else-out c = node_keeps c.args.nodes c.args.w.now c.args.damping c.args.v c.args.wf.now c.requires.1 c.if-out.false
