-- Which sort of double has which sign, exponent and fraction, and what its root is: `sqrt_of` is right. Assumes nothing.
use Prim.Native.Nat.{ℕ, zero, suc, ◌+◌, ◌-◌, ◌*◌, ◌/◌, ◌%◌, ◌^◌, ◌<◌}
use mathlib.Core.Path.{◌≡◌, refl, sym, ap, ◌∙◌, subst}
use mathlib.Core.Logic.{◌⊎◌, inl, inr}
use mathlib.Core.Bool.{Bool, true, false, not}
use native.Mathlib.Omega.{arith}
use lib.IntN.{ℤ, pos}
use lib.Dec.{T}
use lib.Ieee.{Float, nan, inf, fin, binary64, size, fits, is_nan, of_bits, to_bits}
use lib.Ieee.Bits.{of_bits-to_bits, to_bits-lt}
use Rattle.roots.specs.Fields.{sign_of, exponent_of, fraction_of}
use Rattle.roots.specs.Root.{SquareRoot, IsRoot, parts, sqrt_of, root_of}
use Rattle.roots.proofs.Doubles.{none}
use Rattle.roots.proofs.Lifted.{root_of_is}
use Rattle.roots.proofs.Absolute.{sign_bit, rest_bits}
use Rattle.roots.proofs.Fields.{Bits, to_bits_is, bits_of}

-- ---- the cases, in order
pub nan_root : (x : Float) → x ≡ nan → x ≡ sqrt_of x
unfolding sqrt_of
nan_root x e = subst (λ (y : Float). y ≡ sqrt_of y) (sym e) refl

-- a zero: neither exponent nor fraction
abbrev pub Zero : Float → Type 0
Zero x = exponent_of (to_bits binary64 x) + fraction_of (to_bits binary64 x) ≡ 0

plus_zero : of_bits binary64 0 ≡ fin false 0 (pos 0)
unfolding of_bits
plus_zero = refl

minus_zero : of_bits binary64 (2 ^ 63) ≡ fin true 0 (pos 0)
unfolding of_bits
minus_zero = refl

sign_alone : (q : ℕ) → q < 2 ^ 12 → q % 2 ^ 11 ≡ 0 → (q ≡ 0) ⊎ (q ≡ 2 ^ 11)
sign_alone q h z = go (q / 2 ^ 11) refl
  where
    go : (s : ℕ) → q / 2 ^ 11 ≡ s → (q ≡ 0) ⊎ (q ≡ 2 ^ 11)
    go zero e = inl (omega arith)
    go (suc s) e = inr (omega arith)

two_zeros : (b : ℕ) → b < 2 * 2 ^ 63 → exponent_of b + fraction_of b ≡ 0 → (b ≡ 0) ⊎ (b ≡ 2 ^ 63)
two_zeros b h z = go (sign_alone (b / 2 ^ 52) (omega arith) (omega arith))
  where
    go : (b / 2 ^ 52 ≡ 0) ⊎ (b / 2 ^ 52 ≡ 2 ^ 11) → (b ≡ 0) ⊎ (b ≡ 2 ^ 63)
    go (inl e) = inl (omega arith)
    go (inr e) = inr (omega arith)

pub zero_root : (x : Float) → T (fits binary64 x) → Zero x → x ≡ sqrt_of x
unfolding sqrt_of
zero_root x f z = go (two_zeros (to_bits binary64 x) (to_bits-lt binary64 x f) z)
  where
    same : (b : ℕ) (y : Float) → to_bits binary64 x ≡ b → of_bits binary64 b ≡ y → y ≡ sqrt_of y → x ≡ sqrt_of x
    same b y e p = subst (λ (w : Float). w ≡ sqrt_of w) (sym (sym (of_bits-to_bits binary64 x f) ∙ ap (of_bits binary64) e ∙ p))

    go : (to_bits binary64 x ≡ 0) ⊎ (to_bits binary64 x ≡ 2 ^ 63) → x ≡ sqrt_of x
    go (inl e) = same 0 (fin false 0 (pos 0)) e plus_zero refl
    go (inr e) = same (2 ^ 63) (fin true 0 (pos 0)) e minus_zero refl

zero_bits : (s : Bool) (e : ℤ) → T (fits binary64 (fin s zero e)) → Zero (fin s zero e)
unfolding size
zero_bits s e f =
    let z : to_bits binary64 (fin s zero e) % 2 ^ 63 ≡ 0 =
    rest_bits zero e s f ∙ to_bits_is zero e ∙ ap (λ (u : ℕ). 0 + (size u - 53) * 2 ^ 52 + u / 2 ^ (size u - 53)) (none e) in
    omega arith

inf_bits : to_bits binary64 (inf false) ≡ 2047 * 2 ^ 52
unfolding to_bits
inf_bits = refl

minus_inf_bits : sign_of (to_bits binary64 (inf true)) ≡ 1
unfolding to_bits
minus_inf_bits = refl

-- below zero: the sign is 1
pub less_root : (x : Float) → T (fits binary64 x) → T (not (is_nan x)) → (Zero x → ⊥) → sign_of (to_bits binary64 x) ≡ 1 → nan ≡ sqrt_of x
unfolding sqrt_of is_nan
less_root nan f n z l = absurd n
less_root (inf true) f n z l = refl
less_root (inf false) f n z l = absurd (omega (arith, inf_bits))
less_root (fin s zero e) f n z l = absurd (z (zero_bits s e f))
less_root (fin true (suc m) e) f n z l = refl
less_root (fin false (suc m) e) f n z l = absurd (omega (arith, sign_bit (suc m) e false f))

-- +infinity: the exponent is 2047
top_is : of_bits binary64 (2047 * 2 ^ 52) ≡ inf false
unfolding of_bits
top_is = refl

pub inf_root : (x : Float) → T (fits binary64 x) → to_bits binary64 x ≡ 2047 * 2 ^ 52 → x ≡ sqrt_of x
unfolding sqrt_of
inf_root x f e = subst (λ (y : Float). y ≡ sqrt_of y) (sym (sym (of_bits-to_bits binary64 x f) ∙ ap (of_bits binary64) e ∙ top_is)) refl

-- what is left is a number above zero
pub Above : Float → Type 0
Above x = (m : ℕ) × (e : ℤ) × (x ≡ fin false (suc m) e)

pub left_over : (x : Float) → T (fits binary64 x) → T (not (is_nan x)) → (Zero x → ⊥) → (sign_of (to_bits binary64 x) ≡ 1 → ⊥) → (to_bits binary64 x ≡ 2047 * 2 ^ 52 → ⊥) → Above x
unfolding is_nan Above
left_over nan f n z l t = absurd n
left_over (inf true) f n z l t = absurd (l minus_inf_bits)
left_over (inf false) f n z l t = absurd (t inf_bits)
left_over (fin s zero e) f n z l t = absurd (z (zero_bits s e f))
left_over (fin true (suc m) e) f n z l t = absurd (l (sign_bit (suc m) e true f))
left_over (fin false (suc m) e) f n z l t = (m, e, refl)

pub above_root : (x : Float) → Above x → root_of (exponent_of (to_bits binary64 x)) (fraction_of (to_bits binary64 x)) ≡ sqrt_of x
unfolding Above sqrt_of
above_root x (m, e, p) = subst (λ (y : Float). root_of (exponent_of (to_bits binary64 y)) (fraction_of (to_bits binary64 y)) ≡ sqrt_of y) (sym p) refl

-- ---- the root as worked out is the root as defined
bits_root : (b u : ℕ) → Bits b u → IsRoot (u * 2 ^ 1074) (root_of (exponent_of b) (fraction_of b))
bits_root b u h =
    let e : exponent_of b < 2047 = omega (arith, h.under) in
    let t : fraction_of b < 2 ^ 52 = omega arith in
    let p : 0 < exponent_of b + fraction_of b = omega (arith, h.some, h.under) in
    subst (λ (n : ℕ). IsRoot (n * 2 ^ 1074) (root_of (exponent_of b) (fraction_of b))) h.is (root_of_is (exponent_of b) (fraction_of b) e t p)

pub sqrt_of_is : (x : Float) → T (fits binary64 x) → SquareRoot x (sqrt_of x)
unfolding SquareRoot sqrt_of
sqrt_of_is nan f = refl
sqrt_of_is (inf true) f = refl
sqrt_of_is (inf false) f = refl
sqrt_of_is (fin s zero e) f = refl
sqrt_of_is (fin true (suc m) e) f = refl
sqrt_of_is (fin false (suc m) e) f = bits_root (to_bits binary64 (fin false (suc m) e)) (parts (fin false (suc m) e)) (bits_of m e f)
