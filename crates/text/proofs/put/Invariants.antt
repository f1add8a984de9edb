-- `text::put` meets its contract: after i turns the rest of the word is left to write. Assumes nothing.
use mathlib.Core.Path.{◌≡◌}
use Prim.Native.Nat.{◌+◌}
use lib.ListN.{length, drop}
use lib.Seq.{sets}
use Rattle.text.proofs.put.Given as goal

abbrev pub invariant-loop-i : goal.invariant-loop-i
invariant-loop-i l = (length l.output ≡ length l.initial.output) × (sets l.output (l.at + l.i) (drop l.i l.word) ≡ sets l.initial.output l.at l.word)
