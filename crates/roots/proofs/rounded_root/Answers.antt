-- `roots::rounded_root` meets its contract. Assumes nothing.
use Prim.Native.Nat.{ℕ, ◌+◌, ◌/◌}
use mathlib.Core.Path.{ap}
use native.Mathlib.Omega.{arith}
use Rattle.roots.specs.Root.{round_root}
use Rattle.roots.proofs.Squares.{long_lt}
use Rattle.roots.proofs.rounded_root.Goals as goal

pub overflow_add-result : goal.overflow_add-result
overflow_add-result c = omega (arith, c.long_root.ensures, long_lt c.args.a c.requires.1)

pub returns : goal.returns
unfolding round_root
returns c = ap (λ (q : ℕ). (q + 1) / 2) c.long_root.ensures
