-- `polls::weaken` meets its contract: the entries before the index have each lost the decay. Assumes nothing.
use mathlib.Core.Path.{◌≡◌}
use mathlib.Core.List.{foldl}
use lib.ListN.{take}
use Rattle.polls.specs.Votes.{weaker}
use Rattle.polls.proofs.weaken.Given as goal

abbrev pub invariant-loop-entry : goal.invariant-loop-entry
invariant-loop-entry l = l.w ≡ foldl (weaker l.decay) l.initial.w (take l.entry-index l.entry-items)
