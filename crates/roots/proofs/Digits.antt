-- A root worked out digit by digit: what holds after i digits. Assumes nothing.
use Prim.Native.Nat.{ℕ, ◌+◌, ◌-◌, ◌*◌, ◌/◌, ◌%◌, ◌^◌, ◌≤◌, ◌<◌}
use mathlib.Core.Path.{◌≡◌, subst}
use native.Mathlib.Omega.{arith}
use lib.Pow.{pow_mono}
use Rattle.roots.proofs.Squares.{Floor, sq_even, sq_odd, sq_suc, four_more, two_more}

-- i digits of the root of a are in q
pub record Taken (a i q rest left : ℕ) : Type 0 where
  -- q's square, rest and what is left make up a, i times shifted by two digits
  pub whole : (q * q + rest) * 2 ^ 54 + left ≡ a * 4 ^ i
  -- what is left is the fraction
  pub fraction : left < 2 ^ 54
  -- one more in q would be too much
  pub short : rest ≤ 2 * q
  pub digits : q < 2 ^ i

pub none : (a : ℕ) → a < 2 ^ 54 → Taken a 0 0 0 a
none a h = record { whole = omega arith; fraction = h; short = omega arith; digits = omega arith }

-- the next digit is 1
pub one : {a i q rest left : ℕ} (left' : ℕ) → Taken a i q rest left → left' ≡ 4 * (left % 2 ^ 52) → 4 * q + 1 ≤ 4 * rest + left / 2 ^ 52 → Taken a (i + 1) (2 * q + 1) (4 * rest + left / 2 ^ 52 - (4 * q + 1)) left'
one {a} {i} {q} {rest} {left} left' t e h =
    record {
      whole = omega (arith, t.whole, four_more a i, sq_odd q);
      fraction = omega arith;
      short = omega (arith, t.short, t.fraction);
      digits = omega (arith, t.digits, two_more i);
    }

-- the next digit is 0
pub zero : {a i q rest left : ℕ} (left' : ℕ) → Taken a i q rest left → left' ≡ 4 * (left % 2 ^ 52) → 4 * rest + left / 2 ^ 52 < 4 * q + 1 → Taken a (i + 1) (2 * q) (4 * rest + left / 2 ^ 52) left'
zero {a} {i} {q} {rest} {left} left' t e h =
    record {
      whole = omega (arith, t.whole, four_more a i, sq_even q);
      fraction = omega arith;
      short = omega arith;
      digits = omega (arith, t.digits, two_more i);
    }

-- all 54 digits
pub all : {a q rest left : ℕ} (i : ℕ) → i ≡ 54 → Taken a i q rest left → Floor (a * 4 ^ 27) q
all {a} {q} {rest} {left} i e t =
    let w : (q * q + rest) * 2 ^ 54 + left ≡ a * 4 ^ 54 = subst (λ (k : ℕ). (q * q + rest) * 2 ^ 54 + left ≡ a * 4 ^ k) e t.whole in
    record { from = omega (arith, t.fraction); to = omega (arith, t.fraction, t.short, sq_suc q) }

pub below : {a i q rest left : ℕ} → i ≤ 54 → Taken a i q rest left → q < 2 ^ 54
below h t = omega (arith, t.digits, pow_mono h)
