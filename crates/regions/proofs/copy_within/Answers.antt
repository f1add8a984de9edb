-- `regions::copy_within` meets its contract: after i turns the first i places of the region are copied. Assumes nothing.
use borrow.Author.Rules.{rules}
use Rattle.regions.proofs.Frames.{copied_next}
use Rattle.regions.proofs.copy_within.Goals as goal

pub loop-i-preserved : goal.loop-i-preserved
loop-i-preserved g c = copied_next c.requires c.loop-i-test.true c.loop-i.invariant (search rules)
