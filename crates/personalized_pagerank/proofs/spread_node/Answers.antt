-- `personalized_pagerank::spread_node` meets its contract: above zero it distributes, else it dangles. Assumes nothing.
use lib.Ieee.{of_bits}
use Rattle.personalized_pagerank.proofs.Personal.{personal_gives, personal_dangles}
use Rattle.personalized_pagerank.proofs.spread_node.Goals as goal

pub give-requires : goal.give-requires
give-requires c = c.requires

pub returns-then-out : goal.returns-then-out
unfolding of_bits
returns-then-out c = personal_gives c.args.nodes c.args.w.now c.args.damping c.args.v c.args.wf.now c.requires.1 c.if-out.true c.give.ensures

pub dangle-requires : goal.dangle-requires
dangle-requires c = c.requires.0.room

pub returns-else-out : goal.returns-else-out
unfolding of_bits
returns-else-out c = personal_dangles c.args.nodes c.args.w.now c.args.damping c.args.v c.args.wf.now c.requires.1 c.if-out.false c.dangle.ensures
