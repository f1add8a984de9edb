-- `pair_starts::cross_starts` meets its contract: the starts before this one have been added to the totals. Assumes nothing.
use Rattle.pair_starts.proofs.Totalling.{AddedTotals}
use Rattle.pair_starts.proofs.cross_starts.Given as goal

abbrev pub invariant-loop-start : goal.invariant-loop-start
invariant-loop-start l = AddedTotals l.nodes l.edges l.initial.w32 l.initial.w64 l.initial.wf l.start l.w32 l.w64 l.wf
