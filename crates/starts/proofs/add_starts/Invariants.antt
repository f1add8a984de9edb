-- `starts::add_starts` meets its contract: the starts before this one have been added. Assumes nothing.
use Rattle.starts.proofs.Adding.{AddedScores}
use Rattle.starts.proofs.add_starts.Given as goal

abbrev pub invariant-loop-start : goal.invariant-loop-start
invariant-loop-start l = AddedScores l.nodes l.edges l.initial.w32 l.initial.w64 l.initial.wf l.start l.w32 l.w64 l.wf
