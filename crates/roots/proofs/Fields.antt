-- The exponent and the fraction of a number above zero. Assumes nothing.
use Prim.Native.Nat.{ℕ, suc, ◌+◌, ◌-◌, ◌*◌, ◌/◌, ◌^◌, ◌≤◌, ◌<◌}
use mathlib.Core.Path.{◌≡◌, refl, sym, ap, ◌∙◌, subst}
use mathlib.Core.Logic.{◌⊎◌, inl, inr}
use mathlib.Core.Bool.{Bool, true, false}
use native.Mathlib.Nat.{le_trans, le_of_eq, lt_of_lt_of_le, le_of_mul-le-mul_right, eq-zero-or-pos, zero-lt-suc, mul-one, mul-pos, mul-div_cancel}
use native.Mathlib.Omega.{arith}
use borrow.Author.Tests.{ltb-true, ltb-false}
use lib.IntN.{ℤ}
use lib.Dec.{T, ltb}
use lib.Pow.{pow-add, pow_pos, pow_mono}
use lib.Ieee.{fin, binary64, size, fits, to_bits}
use lib.Ieee.Digits.{size-lt, size-le, size_reaches}
use lib.Ieee.Fits.{kept-lt}
use Rattle.roots.specs.Fields.{exponent_of, fraction_of}
use Rattle.roots.specs.Root.{parts}
use Rattle.roots.proofs.Doubles.{Shape, shape, grid}
use Rattle.roots.proofs.Lifted.{parts_of}

-- the bits b of a number above zero, and its parts u
pub record Bits (b u : ℕ) : Type 0 where
  pub some : 0 < b
  pub under : b < 2047 * 2 ^ 52
  pub is : parts_of (exponent_of b) (fraction_of b) ≡ u

-- the two fields that b has
with_fields : (b e t u : ℕ) → exponent_of b ≡ e → fraction_of b ≡ t → parts_of e t ≡ u → parts_of (exponent_of b) (fraction_of b) ≡ u
with_fields b e t u p q h = ap (λ (x : ℕ). parts_of x (fraction_of b)) p ∙ ap (λ (x : ℕ). parts_of e x) q ∙ h

subnormal : (u : ℕ) → 0 < u → u < 2 ^ 52 → Bits u u
unfolding parts_of
subnormal u p h = record { some = p; under = omega arith; is = with_fields u 0 u u (omega arith) (omega arith) refl }

-- w of 53 binary digits, and k dropped
normal : (k w b : ℕ) → 2 ^ 52 ≤ w → w < 2 ^ 53 → k ≤ 2045 → b ≡ k * 2 ^ 52 + w → Bits b (w * 2 ^ k)
unfolding parts_of
normal k w b lo hi K e =
    let d : 2 ^ 52 + (w - 2 ^ 52) ≡ w = omega arith in
    record {
      some = omega arith;
      under = omega arith;
      is = with_fields b (suc k) (w - 2 ^ 52) (w * 2 ^ k) (omega arith) (omega arith) (ap (λ (x : ℕ). x * 2 ^ k) d);
    }

by_parts : (d u : ℕ) → 0 < u → Shape d u → Bits (0 + (size u - 53) * 2 ^ 52 + u / 2 ^ (size u - 53)) u
by_parts d u p s = go (size u - 53) refl (eq-zero-or-pos (size u - 53))
  where
    high : (k : ℕ) → size u - 53 ≡ k → 0 < k → Bits (0 + k * 2 ^ 52 + u / 2 ^ k) u
    high k e h =
        let j : 52 + k < size u = omega arith in
        let l : 2 ^ 52 * 2 ^ k ≤ u = le_trans (le_of_eq (sym (pow-add 2 52 k))) (size_reaches u (52 + k) j) in
        let w = grid k s l in
        let q : u / 2 ^ k ≡ w.0 = ap (λ (x : ℕ). x / 2 ^ k) w.1 ∙ mul-div_cancel w.0 (pow_pos k) in
        let lo : 2 ^ 52 ≤ w.0 = le_of_mul-le-mul_right (le_trans l (le_of_eq w.1)) (pow_pos k) in
        let hi : w.0 < 2 ^ 53 = subst (λ (x : ℕ). x < 2 ^ 53) (ap (λ (x : ℕ). u / 2 ^ x) e ∙ q) (kept-lt 53 u) in
        let K : k ≤ 2045 = omega (arith, size-le u 2098 s.under) in
        subst (λ (x : ℕ). Bits (0 + k * 2 ^ 52 + u / 2 ^ k) x) (sym w.1) (normal k w.0 (0 + k * 2 ^ 52 + u / 2 ^ k) lo hi K (omega arith))

    low : (k : ℕ) → size u - 53 ≡ k → k ≡ 0 → Bits (0 + k * 2 ^ 52 + u / 2 ^ k) u
    low k e z =
        let t : size u ≤ 53 = omega arith in
        let hi : u < 2 ^ 53 = lt_of_lt_of_le (size-lt u) (pow_mono t) in
        let f : 0 + 0 * 2 ^ 52 + u / 2 ^ 0 ≡ u = omega arith in
        subst (λ (x : ℕ). Bits (0 + x * 2 ^ 52 + u / 2 ^ x) u) (sym z) (subst (λ (x : ℕ). Bits x u) (sym f) (either hi (ltb u (2 ^ 52)) refl))
      where
        either : u < 2 ^ 53 → (b : Bool) → ltb u (2 ^ 52) ≡ b → Bits u u
        either hi true e = subnormal u p (ltb-true u (2 ^ 52) e)
        either hi false e = subst (λ (x : ℕ). Bits u x) (mul-one u) (normal 0 u u (ltb-false u (2 ^ 52) e) hi (omega arith) (omega arith))

    go : (k : ℕ) → size u - 53 ≡ k → (k ≡ 0) ⊎ (0 < k) → Bits (0 + k * 2 ^ 52 + u / 2 ^ k) u
    go k e (inl z) = low k e z
    go k e (inr h) = high k e h

pub to_bits_is : (m : ℕ) (e : ℤ) → to_bits binary64 (fin false m e) ≡ 0 + (size (parts (fin false m e)) - 53) * 2 ^ 52 + parts (fin false m e) / 2 ^ (size (parts (fin false m e)) - 53)
unfolding to_bits
to_bits_is m e = refl

pub bits_of : (m : ℕ) (e : ℤ) → T (fits binary64 (fin false (suc m) e)) → Bits (to_bits binary64 (fin false (suc m) e)) (parts (fin false (suc m) e))
bits_of m e f =
    let s = shape (fin false (suc m) e) f tt in
    subst (λ (b : ℕ). Bits b (parts (fin false (suc m) e))) (sym (to_bits_is (suc m) e))
    (by_parts (suc m) (parts (fin false (suc m) e)) (subst (λ (v : ℕ). 0 < v) (sym s.is) (mul-pos (zero-lt-suc m) (pow_pos s.j))) s)
