-- `degree::add_rest` meets its contract: at i both ends of the edges before it have added one. Assumes nothing.
use mathlib.Core.Path.{refl}
use Prim.Native.Nat.{◌+◌}
use native.Mathlib.Omega.{arith}
use Rattle.degree.proofs.Pairs.{both_at, from_none, from_more}
use Rattle.degree.proofs.add_rest.Goals as goal

pub loop-i-init : goal.loop-i-init
loop-i-init c = from_none c.args.from.now c.args.to.now c.args.first c.args.scores.now

pub loop-i-preserved : goal.loop-i-preserved
loop-i-preserved c =
    let added = both_at c.args.from.now c.args.to.now c.loop-i.i c.end_at.result c.end_at-in-loop-i.result c.loop-i.scores _ c.end_at.ensures c.end_at-in-loop-i.ensures c.add_edge.ensures in
    from_more c.args.from.now c.args.to.now c.args.first c.loop-i.i (c.loop-i.i + 1) c.args.scores.now c.loop-i.scores _ c.loop-i.auto.i refl (omega arith) (omega (arith, c.requires.2.some)) c.loop-i.invariant added
