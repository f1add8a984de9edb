-- `crossings::pass_back` meets its contract: the entries from k on and their pairs have yet to take their shares. Assumes nothing.
use Rattle.std.proofs.Common.{◌≡◌, length, drop}
use Rattle.crossings.specs.Crossings.{crossed_all}
use Rattle.crossings.proofs.pass_back.Given as goal

abbrev pub invariant-loop-k : goal.invariant-loop-k
invariant-loop-k l = (length l.wf ≡ length l.initial.wf)
    × (crossed_all l.nodes l.totals l.w64 l.ways l.grown l.initial.wf l.entries l.pairs ≡ crossed_all l.nodes l.totals l.w64 l.ways l.grown l.wf (drop l.k l.entries) (drop l.k l.pairs))
