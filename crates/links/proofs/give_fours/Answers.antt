-- `links::give_fours` meets its contract: at k the entries before it have given. Assumes nothing.
use Rattle.std.proofs.Common.{◌+◌, arith}
use Rattle.links.proofs.Giving.{give_part, given_none, given_then}
use Rattle.links.proofs.give_fours.Goals as goal

pub loop-k-init : goal.loop-k-init
loop-k-init c = (omega arith, c.requires.order, given_none c.args.nodes c.args.contribution c.args.w.now c.args.first c.args.wf.now)

pub give_four-requires : goal.give_four-requires
give_four-requires c = give_part c.requires c.loop-k.k (c.loop-k.k + 4) c.loop-k.invariant.0 (omega arith) (omega (arith, c.loop-k.invariant.1, c.loop-k-test.true)) c.loop-k.invariant.2.front.long

pub loop-k-preserved : goal.loop-k-preserved
loop-k-preserved c = (omega (arith, c.loop-k.invariant.0), omega (arith, c.loop-k.invariant.1, c.loop-k-test.true), given_then c.args.nodes c.args.contribution c.args.w.now c.loop-k.invariant.0 (omega arith) c.loop-k.invariant.2 c.give_four.ensures)

pub returns : goal.returns
returns c = c.loop-k.invariant
