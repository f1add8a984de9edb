-- `rounds::spread_edges` meets its contract. Assumes nothing.
use Rattle.std.proofs.Common.{arith}
use Rattle.rounds.proofs.Passes.{growing_none, growing_more, growing_done}
use Rattle.rounds.proofs.spread_edges.Goals as goal

pub loop-i-init : goal.loop-i-init
loop-i-init g c = λ by pure. growing_none _ _ _ _ _ _

pub loop-i-preserved : goal.loop-i-preserved
loop-i-preserved g c = λ by pure.
    growing_more _ _ _ _ _ _ c.requires.fits.sound.sized c.loop-i-test.true (c.loop-i.invariant by pure) (rw (pure _ _ c.factor-by.ensures) at c.spread.ensures)

pub returns : goal.returns
returns g c = λ by pure. growing_done _ _ _ _ _ _ c.requires.fits.sound.sized (omega arith) (c.loop-i.invariant by pure)
