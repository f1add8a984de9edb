-- Absolute values by bits, and what the sign's bit is. Assumes nothing.
use Prim.Native.Nat.{ℕ, zero, suc, ◌+◌, ◌*◌, ◌%◌, ◌^◌, ◌≤◌, ◌<◌}
use mathlib.Core.Path.{◌≡◌, refl, sym, ap, ◌∙◌, subst}
use mathlib.Core.Bool.{Bool, true, false, not, cond, true≢false}
use native.Mathlib.Omega.{arith}
use borrow.Author.Tests.{ltb-false}
use lib.IntN.{ℤ}
use lib.Dec.{T, ltb}
use lib.Ieee.{Float, nan, inf, fin, binary64, ne, fits, is_nan, of_bits, to_bits}
use lib.Ieee.Fits.{inf-fits}
use lib.Ieee.Bits.{of_bits-to_bits, to_bits-lt, nan_bits_above, nan_bits_is, is_false}
use lib.Ieee.Compare.{differs_from_itself}
use Rattle.roots.specs.Absolute.{abs_of}
use Rattle.roots.specs.Fields.{sign_of}

-- ---- the test `x != x`
pub is_nan_lem : (x : Float) → ne x x ≡ true → x ≡ nan
is_nan_lem x e = differs_from_itself x (subst T (sym e) tt)

pub not_nan : (x : Float) → ne x x ≡ false → T (not (is_nan x))
unfolding ne is_nan
not_nan nan e = absurd (true≢false e)
not_nan (inf s) e = tt
not_nan (fin s m e) p = tt

-- ---- the test `x.is_nan()`
pub nan_of : (x : Float) → true ≡ is_nan x → x ≡ nan
unfolding is_nan
nan_of nan e = refl
nan_of (inf s) e = absurd (true≢false e)
nan_of (fin s m d) e = absurd (true≢false e)

-- ---- the sign's bit
fits_sign : (s t : Bool) (m : ℕ) (e : ℤ) → T (fits binary64 (fin s m e)) → T (fits binary64 (fin t m e))
unfolding fits
fits_sign s t zero e h = h
fits_sign s t (suc m) e h = h

abs_fits : (x : Float) → T (fits binary64 x) → T (fits binary64 (abs_of x))
abs_fits nan h = h
abs_fits (inf s) h = inf-fits binary64 false
abs_fits (fin s m e) h = fits_sign s false m e h

-- the bits of a finite double are its magnitude's, with the sign's bit on top
module _ (m : ℕ) (e : ℤ) where
  magnitude : ℕ
  magnitude = to_bits binary64 (fin false m e)

  negated : to_bits binary64 (fin true m e) ≡ 2 ^ 63 + magnitude
  unfolding to_bits magnitude
  negated = omega arith

  -- so it is below the sign's weight
  below_sign : (s : Bool) → T (fits binary64 (fin s m e)) → magnitude < 2 ^ 63
  below_sign s f = omega (arith, negated, to_bits-lt binary64 (fin true m e) (fits_sign s true m e f))

  pub sign_bit : (s : Bool) → T (fits binary64 (fin s m e)) → sign_of (to_bits binary64 (fin s m e)) ≡ cond s 1 0
  unfolding magnitude
  sign_bit true f = omega (arith, negated, below_sign true f)
  sign_bit false f = omega (arith, below_sign false f)

  pub rest_bits : (s : Bool) → T (fits binary64 (fin s m e)) → to_bits binary64 (fin s m e) % 2 ^ 63 ≡ to_bits binary64 (fin false m e)
  unfolding magnitude
  rest_bits true f = omega (arith, negated, below_sign true f)
  rest_bits false f = omega (arith, below_sign false f)

abs_bits : (x : Float) → T (fits binary64 x) → T (not (is_nan x)) → to_bits binary64 x % 2 ^ 63 ≡ to_bits binary64 (abs_of x)
unfolding to_bits is_nan
abs_bits nan f n = absurd n
abs_bits (inf true) f n = refl
abs_bits (inf false) f n = refl
abs_bits (fin s m e) f n = rest_bits m e s f

-- a number's bits without the sign are at most the infinity's
pub small_bits : (x : Float) → T (fits binary64 x) → T (not (is_nan x)) → to_bits binary64 x % 2 ^ 63 ≤ 2047 * 2 ^ 52
small_bits x f n =
    let b = to_bits binary64 x in
    let e : ltb (2047 * 2 ^ 52) (b % 2 ^ 63) ≡ false =
    sym (nan_bits_above binary64 b) ∙ nan_bits_is binary64 b ∙ ap is_nan (of_bits-to_bits binary64 x f) ∙ is_false (is_nan x) n in
    ltb-false (2047 * 2 ^ 52) (b % 2 ^ 63) e

pub abs_of_lem : (x : Float) (b : ℕ) → T (fits binary64 x) → T (not (is_nan x)) → b ≡ to_bits binary64 x % 2 ^ 63 → of_bits binary64 b ≡ abs_of x
abs_of_lem x b f n e = ap (of_bits binary64) (e ∙ abs_bits x f n) ∙ of_bits-to_bits binary64 (abs_of x) (abs_fits x f)

pub abs_nan : (x : Float) → x ≡ nan → x ≡ abs_of x
abs_nan x e = subst (λ (y : Float). y ≡ abs_of y) (sym e) refl
