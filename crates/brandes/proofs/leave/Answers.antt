-- `brandes::leave` meets its contract. Assumes nothing.
use Rattle.brandes.proofs.Passing.{held_slice, held_in, left_start, left_other}
use Rattle.brandes.proofs.leave.Goals as goal

pub pass_back-requires : goal.pass_back-requires
pass_back-requires c = record { counts = c.requires.counts; floats = c.requires.floats; nodes = held_in c.requires (held_slice c.args.tracks _ _) }

pub returns-then-w-start : goal.returns-then-w-start
returns-then-w-start c =
    left_other _ _ c.args.tracks _ _ _ _ _ (held_slice c.args.tracks _ _) c.nearest_u64_to_f64-ways.ensures c.pass_back.ensures c.if-w-start.true

pub returns-else-w-start : goal.returns-else-w-start
returns-else-w-start c =
    left_start _ _ c.args.tracks _ _ _ _ _ (held_slice c.args.tracks _ _) c.nearest_u64_to_f64-ways.ensures c.pass_back.ensures c.if-w-start.false
