-- `text::count_digits` meets its contract. Assumes nothing.
use mathlib.Core.Path.{◌≡◌}
use Prim.Native.Nat.{◌-◌, ◌+◌}
use Rattle.text.specs.Written.{count_in}
use Rattle.text.proofs.count_digits.Given as goal

abbrev pub invariant-loop-n : goal.invariant-loop-n
invariant-loop-n l = count_in 19 l.v + 1 ≡ l.n + count_in (20 - l.n) l.rest
