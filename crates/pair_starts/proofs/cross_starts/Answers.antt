-- `pair_starts::cross_starts` meets its contract: the starts before this one have been added to the totals. Assumes nothing.
use native.Mathlib.Omega.{arith}
use Rattle.std.proofs.lemmas.Result.{err_from_is_err_and}
use Rattle.starts.proofs.Following.{added_none}
use Rattle.pair_starts.proofs.Totalling.{all_pre, all_more, all_paths, all_done}
use Rattle.pair_starts.proofs.cross_starts.Goals as goal

pub loop-start-init : goal.loop-start-init
loop-start-init c = added_none _ _ _ _ _

pub cross_start-requires : goal.cross_start-requires
cross_start-requires c = all_pre c.requires c.loop-start.invariant c.loop-start-test.true

pub returns-in_err-cross_start : goal.returns-in_err-cross_start
returns-in_err-cross_start c =
    let p = err_from_is_err_and c.from_residual.result c.from_residual.ensures.1 in
    rw p.1 (all_paths c.requires c.loop-start.invariant c.loop-start-test.true c.in_err-cross_start.ensures p.0)

pub loop-start-preserved : goal.loop-start-preserved
loop-start-preserved c = all_more c.requires c.loop-start.invariant c.loop-start-test.true c.in_ok-cross_start.ensures

pub returns : goal.returns
returns c = all_done c.loop-start.invariant (omega (arith, c.loop-start.invariant.upto))
