-- `text::put_digits` meets its contract. Assumes nothing.
use mathlib.Core.Path.{◌≡◌}
use lib.Seq.{sets}
use Rattle.text.specs.Written.{digits_text}
use Rattle.text.proofs.put_digits.Given as goal

abbrev pub invariant-loop-i : goal.invariant-loop-i
invariant-loop-i l = sets l.output l.at (digits_text l.base l.i l.rest) ≡ sets l.initial.output l.at (digits_text l.base l.n l.v)
