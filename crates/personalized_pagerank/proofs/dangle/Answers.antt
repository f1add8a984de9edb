-- `personalized_pagerank::dangle` meets its contract: after j nodes they have gained. Assumes nothing.
use Rattle.std.proofs.Common.{arith}
use Rattle.personalized_pagerank.specs.Personalized.{personal_in, gains_part}
use Rattle.links.proofs.Turns.{nodes_none, nodes_done}
use Rattle.personalized_pagerank.proofs.Personal.{dangle_more}
use Rattle.personalized_pagerank.proofs.dangle.Goals as goal

pub loop-j-init : goal.loop-j-init
loop-j-init c = (nodes_none c.args.nodes (gains_part c.args.dangling (personal_in c.args.nodes c.args.wf.now)) c.args.wf.now)

pub loop-j-preserved : goal.loop-j-preserved
loop-j-preserved c = (dangle_more c.args.nodes c.args.dangling c.args.wf.now c.requires c.loop-j.j c.loop-j.wf c.loop-j-test.true c.loop-j.invariant)

pub returns : goal.returns
returns c = nodes_done c.args.nodes (gains_part c.args.dangling (personal_in c.args.nodes c.args.wf.now)) c.args.wf.now (omega arith) c.loop-j.invariant
