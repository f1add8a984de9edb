-- `brandes::pass_back` meets its contract: the entries before this one have taken their shares. Assumes nothing.
use Rattle.std.proofs.Common.{◌≡◌, take}
use Rattle.brandes.specs.Steps.{passed_back}
use Rattle.brandes.proofs.pass_back.Given as goal

abbrev pub invariant-loop-entry : goal.invariant-loop-entry
invariant-loop-entry l = l.wf ≡ passed_back l.nodes l.w64 l.ways l.grown l.initial.wf (take l.entry-index l.entries)
