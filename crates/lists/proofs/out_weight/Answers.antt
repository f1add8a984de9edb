-- `lists::out_weight` meets its contract: the weights of the entries so far are added. Assumes nothing.
use mathlib.Core.Path.{◌∙◌}
use native.Mathlib.Omega.{arith}
use lib.Ieee.{of_bits}
use Rattle.lists.proofs.Reading.{summed_none, summed_more, summed_all, position_in}
use Rattle.lists.proofs.out_weight.Goals as goal

pub loop-at-init : goal.loop-at-init
unfolding of_bits
loop-at-init c = summed_none _ _ c.args.graph.weight.now c.args.w.now c.args.v

pub bounds-weight-at : goal.bounds-weight-at
bounds-weight-at c =
    let r = c.requires in
    omega (arith, position_in _ _ c.args.graph.weight.now _ _ r.0 r.1 _ c.loop-at-test.true)

pub loop-at-preserved : goal.loop-at-preserved
loop-at-preserved c = summed_more _ _ _ _ _ c.requires.0 c.requires.1 _ _ c.loop-at-test.true c.loop-at.invariant

pub returns : goal.returns
returns c = c.loop-at.invariant ∙ summed_all _ _ c.args.graph.weight.now _ _ c.requires.0 c.requires.1 c.loop-at.at-index (omega arith)
