-- `links::give_four` meets its contract: the targets and products are those of the four entries. Assumes nothing.
use Rattle.std.proofs.Common.{arith, length-set}
use Rattle.links.proofs.Giving.{targets, given_four}
use Rattle.links.proofs.give_four.Goals as goal

pub bounds-wf-second : goal.bounds-wf-second
bounds-wf-second c = simp length-set (omega (arith, c.requires.weights, targets _ _ _ _ c.requires))

pub bounds-wf-second-2 : goal.bounds-wf-second-2
bounds-wf-second-2 c = simp length-set (omega (arith, c.requires.weights, targets _ _ _ _ c.requires))

pub bounds-wf-third : goal.bounds-wf-third
bounds-wf-third c = simp length-set (omega (arith, c.requires.weights, targets _ _ _ _ c.requires))

pub bounds-wf-third-2 : goal.bounds-wf-third-2
bounds-wf-third-2 c = simp length-set (omega (arith, c.requires.weights, targets _ _ _ _ c.requires))

pub bounds-wf-fourth : goal.bounds-wf-fourth
bounds-wf-fourth c = simp length-set (omega (arith, c.requires.weights, targets _ _ _ _ c.requires))

pub bounds-wf-fourth-2 : goal.bounds-wf-fourth-2
bounds-wf-fourth-2 c = simp length-set (omega (arith, c.requires.weights, targets _ _ _ _ c.requires))

pub returns : goal.returns
returns c = given_four c.args.nodes c.args.w.now c.args.k c.args.wf.now c.requires c.args.contribution
