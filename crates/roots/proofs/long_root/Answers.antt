-- `roots::long_root` meets its contract. After i turns i digits of the root are in q. Assumes nothing.
use Prim.Native.Nat.{ℕ, ◌<◌, ◌-◌, ◌*◌, ◌%◌, ◌^◌}
use mathlib.Core.Path.{◌≡◌}
use native.Mathlib.Omega.{arith}
use lib.Bits.{bit_and, and_mask}
use Rattle.roots.proofs.Squares.{is_isqrt}
use Rattle.roots.proofs.Digits.{one, zero, all, below}
use Rattle.roots.proofs.long_root.Goals as goal
use Rattle.roots.proofs.long_root.Goals.{In-loop, then-odd-four, else-odd-four}

-- q in a turn
small : (c : goal.In-loop) → c.loop.q < 2 ^ 54
small c = below c.loop.invariant.0 c.loop.invariant.1

-- the two digits taken from the front of what is left
shifted : (l : ℕ) → bit_and l (2 ^ 52 - 1) * 2 ^ 2 % 2 ^ 64 ≡ 4 * (l % 2 ^ 52)
shifted l = omega (arith, and_mask l 52)

pub overflow_mul-four : goal.overflow_mul-four
overflow_mul-four c = omega (arith, small (goal.at.overflow_mul-four c).In-loop, c.loop.invariant.1.short)

pub overflow_add-four : goal.overflow_add-four
overflow_add-four c = omega (arith, small (goal.at.overflow_add-four c).In-loop, c.loop.invariant.1.short, c.loop.invariant.1.fraction)

pub overflow_mul-odd : goal.overflow_mul-odd
overflow_mul-odd c = omega (arith, small (goal.at.overflow_mul-odd c).In-loop)

pub overflow_add-odd : goal.overflow_add-odd
overflow_add-odd c = omega (arith, small (goal.at.overflow_add-odd c).In-loop)

pub loop-preserved : goal.loop-preserved
loop-preserved c =
    let l = c.loop in
    elim c.if-odd-four.branch [
      | then-odd-four w ↦ rw (w.q-is, w.rest-is) (omega arith, one _ l.invariant.1 (shifted l.left) w.if-odd-four.true)
      | else-odd-four w ↦ rw (w.q-is, w.rest-is) (omega arith, zero _ l.invariant.1 (shifted l.left) w.if-odd-four.false)
    ]

pub returns : goal.returns
returns c =
    let l = c.loop in
    let e : l.counter ≡ 54 = omega arith in
    is_isqrt c.args.a l.q c.requires (all l.counter e l.invariant.1)
