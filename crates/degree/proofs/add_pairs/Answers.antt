-- `degree::add_pairs` meets its contract: both ends of the edges by fours, then of the last few. Assumes nothing.
use mathlib.Core.Path.{◌≡◌}
use Prim.Native.Nat.{◌+◌, ◌*◌, ◌/◌}
use native.Mathlib.Omega.{arith}
use lib.ListN.{length}
use Rattle.degree.proofs.Pairs.{pairs_none, pairs_then}
use Rattle.degree.proofs.add_pairs.Goals as goal

pub loop-k-init : goal.loop-k-init
loop-k-init c = pairs_none _ _ _

pub loop-k-preserved : goal.loop-k-preserved
loop-k-preserved c =
    let e : 4 * (c.loop-k.k + 1) ≡ 4 * c.loop-k.k + 4 = omega arith in
    rw e (pairs_then c.args.from.now c.args.to.now (4 * c.loop-k.k) (4 * c.loop-k.k + 4) c.args.scores.now c.loop-k.scores _ (omega arith) (omega arith) (omega (arith, c.requires.1.some)) c.loop-k.invariant c.add_four.ensures)

pub returns : goal.returns
returns c =
    let m = length c.args.from.now in
    let e : c.loop-k.k ≡ length c.args.from.now / 4 = omega arith in
    pairs_then c.args.from.now c.args.to.now (4 * (m / 4)) m c.args.scores.now c.loop-k.scores _ (omega arith) (omega arith) c.requires.1.some (rw e at c.loop-k.invariant) c.add_rest.ensures
