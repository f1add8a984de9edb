-- `voterank::elect` meets its contract: after k elections the slices hold the poll of the rule. Assumes nothing.
use Rattle.std.proofs.Common.{◌≡◌, [], length, arith}
use lib.Ieee.{of_bits}
use Rattle.voterank.proofs.Polling.{silence_front, polling_none, tally_pre, silence_pre, highest_pre, weaken_pre, polling_more, polling_stop, polling_all}
use Rattle.voterank.proofs.elect.Goals as goal

pub loop-k-init : goal.loop-k-init
loop-k-init c = polling_none _ _ _ _ _ _ _ _ _ _ c.requires

pub tally-requires : goal.tally-requires
tally-requires c = tally_pre _ _ _ _ _ _ _ _ _ _ c.requires _ _ _ [] [] c.loop-k-test.true c.loop-k.invariant

pub silence-requires : goal.silence-requires
silence-requires c =
    silence_front (silence_pre _ _ _ _ _ _ _ _ _ _ c.requires _ _ _ _ [] c.loop-k-test.true c.loop-k.invariant c.tally.ensures)

pub first_highest-v-requires : goal.first_highest-v-requires
first_highest-v-requires c =
    highest_pre _ _ _ _ _ _ _ _ _ _ c.requires _ _ _ _ _ c.loop-k-test.true c.loop-k.invariant c.tally.ensures c.silence.ensures

pub weaken-requires : goal.weaken-requires
weaken-requires c =
    weaken_pre _ _ _ _ _ _ _ _ _ _ c.requires _ _ _ _ _ c.loop-k-test.true c.loop-k.invariant c.tally.ensures c.silence.ensures _ c.first_highest-v.ensures.0 c.first_highest-v.ensures.1

pub loop-k-preserved : goal.loop-k-preserved
unfolding of_bits
loop-k-preserved c =
    polling_more _ _ _ _ _ _ _ _ _ _ c.requires _ _ _ _ _ c.loop-k-test.true c.loop-k.invariant c.tally.ensures c.silence.ensures _ c.first_highest-v.ensures.0 c.first_highest-v.ensures.1 _ c.if-w-nodes.true c.weaken.ensures

pub returns-else-w-nodes : goal.returns-else-w-nodes
unfolding of_bits
returns-else-w-nodes c =
    polling_stop _ _ _ _ _ _ _ _ _ _ c.requires _ _ _ _ _ c.loop-k-test.true c.loop-k.invariant c.tally.ensures c.silence.ensures _ c.first_highest-v.ensures.0 c.first_highest-v.ensures.1 c.if-w-nodes.false

pub returns : goal.returns
returns c =
    let e : c.loop-k.k ≡ length c.args.elected.now = omega arith in
    polling_all _ _ _ _ _ _ _ _ _ _ c.requires _ _ _ e c.loop-k.invariant
