-- `starts::add_starts` meets its contract: the starts before this one have been added. Assumes nothing.
use Rattle.std.proofs.Common.{refl}
use Rattle.std.proofs.lemmas.Result.{err_from_is_err_and}
use Rattle.starts.proofs.Following.{added_none}
use Rattle.starts.proofs.Adding.{starts_pre, starts_more, starts_paths}
use Rattle.starts.proofs.add_starts.Goals as goal

pub loop-start-init : goal.loop-start-init
loop-start-init c = added_none _ _ _ _ _

pub add_start-requires : goal.add_start-requires
add_start-requires c = starts_pre c.requires c.loop-start.invariant c.loop-start-test.true

pub returns-in_err-add_start : goal.returns-in_err-add_start
returns-in_err-add_start c =
    let p = err_from_is_err_and c.from_residual.result c.from_residual.ensures.1 in
    rw p.1 (starts_paths c.requires c.loop-start.invariant c.loop-start-test.true c.in_err-add_start.ensures refl p.0)

pub loop-start-preserved : goal.loop-start-preserved
loop-start-preserved c = starts_more c.requires c.loop-start.invariant c.loop-start-test.true c.in_ok-add_start.ensures refl
