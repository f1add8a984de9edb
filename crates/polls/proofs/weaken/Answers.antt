-- `polls::weaken` meets its contract: the entries before the index have each lost the decay. Assumes nothing.
use mathlib.Core.Path.{refl, ap, ◌∙◌}
use mathlib.Core.List.{foldl}
use native.Mathlib.Omega.{arith}
use lib.ListN.{set}
use lib.Seq.{take_all}
use lib.Ieee.{of_bits}
use Rattle.regions.specs.Region.{zero_f}
use Rattle.polls.specs.Votes.{weaker}
use Rattle.polls.specs.Steps.{weakened}
use Rattle.polls.proofs.Voting.{weaker_more}
use Rattle.polls.proofs.weaken.Goals as goal

pub loop-entry-init : goal.loop-entry-init
loop-entry-init c = refl

pub loop-entry-preserved : goal.loop-entry-preserved
unfolding of_bits
loop-entry-preserved c =
    weaker_more c.args.decay c.row-entry-items.result.now _ c.loop-entry.w c.loop-entry.entry-index _ _ c.loop-entry-test.true c.loop-entry.invariant refl c.max.ensures

pub returns : goal.returns
unfolding weakened of_bits
returns c =
    let whole = foldl (weaker c.args.decay) (set c.args.w.now c.args.v zero_f) in
    c.loop-entry.invariant ∙ ap whole (take_all c.loop-entry.entry-index c.row-entry-items.result.now (omega arith)) ∙ ap whole c.row-entry-items.ensures
