-- `links::give_rest` meets its contract: at k the entries before it have given. Assumes nothing.
use Rattle.std.proofs.Common.{◌+◌, refl, ap, arith}
use lib.Ieee.{nan, binary64, mul}
use Rattle.links.specs.Links.{weights_at}
use Rattle.links.proofs.Giving.{given_none, given_more, given_all}
use Rattle.links.proofs.give_rest.Goals as goal

pub loop-k-init : goal.loop-k-init
loop-k-init c = (given_none c.args.nodes c.args.contribution c.args.w.now c.args.first c.args.wf.now)

pub loop-k-preserved : goal.loop-k-preserved
loop-k-preserved c = (given_more c.args.nodes c.args.contribution c.args.w.now c.args.first c.loop-k.k c.args.wf.now c.loop-k.wf _ _ (omega (arith, c.requires.weights)) (omega arith) (c.requires.nodes _ (omega arith) c.loop-k-test.true) refl (ap (mul binary64 c.args.contribution) (c.loop-k.invariant.front.rest nan (weights_at c.args.nodes + c.loop-k.k) (omega arith))) c.loop-k.invariant)

pub returns : goal.returns
returns c = given_all c.args.nodes c.args.contribution c.args.w.now c.args.first (omega (arith, c.requires.order)) c.loop-k.invariant
