-- Doubles by their parts: what a finite one is, and what the bits of one above zero stand for. Assumes nothing.
use Prim.Native.Nat.{ℕ, zero, suc, ◌+◌, ◌-◌, ◌*◌, ◌/◌, ◌%◌, ◌^◌, ◌≤◌, ◌<◌}
use mathlib.Core.Path.{◌≡◌, refl, sym, ap, ◌∙◌, subst}
use mathlib.Core.Logic.{◌⊎◌, inl, inr}
use mathlib.Core.Bool.{Bool, false, not, ◌&&◌, cond}
use native.Mathlib.Nat.{le_trans, le_of_eq, le_of_suc-le-suc, lt_of_lt_of_le, lt_of_le_of_lt, lt_of_not-le, lt_irrefl, not-le_of_lt, eq-or-lt_of_le, zero-mul, zero-div, mul-one, mul_assoc, mul_right_comm, mul-le-mul_left, mul-lt-mul_of_pos_right, mul-div_cancel, pow-succ', div-one, div-lt_iff_lt-mul}
use native.Mathlib.Omega.{arith}
use lib.IntN.{ℤ, pos, negsuc}
use lib.Dec.{T, leb, ltb, eqb, leb→le, ltb→lt, eqb→eq, not_T, lit<}
use lib.Arith.{lt→nleb, le→nltb}
use lib.Bits.{bit_and, and_mod, and_le_l}
use lib.Pow.{pow-add, pow_pos, pow_mono, pow-lt}
use lib.Ieee.{Float, nan, inf, fin, binary64, up, down, odd, fits, of_fields, of_bits, nan_bits}
use lib.Ieee.Digits.{back}
use lib.Ieee.Fits.{and_l, and_r, down_pos}
use lib.Ieee.Bits.{is_false, cond_no, nan_bits_above}
use lib.Ieee.Exact.{HasValue, odd_sign}
use lib.Ieee.Scale.{finite}
use Rattle.roots.specs.Root.{parts}

pow_le_back : (a l : ℕ) → 2 ^ a ≤ 2 ^ l → a ≤ l
pow_le_back a l h = le_of_suc-le-suc (lt_of_not-le (λ (g : suc l ≤ a). lt_irrefl (2 ^ l) (lt_of_lt_of_le (pow-lt g) h)))

-- ---- a finite double's parts are m * 2 ^ j, m of 53 binary digits at most
pub record Shape (m v : ℕ) : Type 0 where
  pub j : ℕ
  pub small : m < 2 ^ 53
  pub is : v ≡ m * 2 ^ j
  pub under : v < 2 ^ 2098

abbrev bound : (m : ℕ) (e : ℤ) → m * up e < 2 ^ 1024 * down e → m * up e * 2 ^ 1074 / down e < 2 ^ 2098
bound m e h =
    (div-lt_iff_lt-mul (down_pos e)).1
    (lt_of_lt_of_le (mul-lt-mul_of_pos_right h (pow_pos 1074)) (le_of_eq (mul_right_comm (2 ^ 1024) (down e) (2 ^ 1074))))

at_exp : (m : ℕ) (e : ℤ) → m < 2 ^ 53 → down e ≤ 2 ^ 1074 → m * up e < 2 ^ 1024 * down e → Shape m (m * up e * 2 ^ 1074 / down e)
at_exp m (pos a) M D U = record {
  j = a + 1074;
  small = M;
  is = div-one (m * 2 ^ a * 2 ^ 1074) ∙ mul_assoc m (2 ^ a) (2 ^ 1074) ∙ ap (λ (x : ℕ). m * x) (sym (pow-add 2 a 1074));
  under = bound m (pos a) U;
}
at_exp m (negsuc a) M D U =
    let l : suc a ≤ 1074 = pow_le_back (suc a) 1074 D in
    record {
      j = 1074 - suc a;
      small = M;
      is =
          ap (λ (x : ℕ). x * 2 ^ 1074 / 2 ^ suc a) (mul-one m)
          ∙ ap (λ (x : ℕ). m * x / 2 ^ suc a) (ap (λ (x : ℕ). 2 ^ x) (sym (back 1074 (suc a) l)) ∙ pow-add 2 (1074 - suc a) (suc a))
          ∙ ap (λ (x : ℕ). x / 2 ^ suc a) (sym (mul_assoc m (2 ^ (1074 - suc a)) (2 ^ suc a)))
          ∙ mul-div_cancel (m * 2 ^ (1074 - suc a)) (pow_pos (suc a));
      under = bound m (negsuc a) U;
    }

pub none : (e : ℤ) → zero * up e * 2 ^ 1074 / down e ≡ 0
none e = ap (λ (x : ℕ). x * 2 ^ 1074 / down e) (zero-mul (up e)) ∙ zero-div (down e)

-- the digits
abbrev pub digits : Float → ℕ
digits nan = 0
digits (inf s) = 0
digits (fin s m e) = m

pub shape : (q : Float) → T (fits binary64 q) → T (finite q) → Shape (digits q) (parts q)
unfolding fits
shape nan f p = absurd p
shape (inf s) f p = absurd p
shape (fin s zero e) f p = record { j = 0; small = lit< tt; is = none e; under = subst (λ (x : ℕ). x < 2 ^ 2098) (sym (none e)) (pow_pos 2098) }
shape (fin s (suc m) e) f p =
    let A = eqb (suc m % 2) 1 in
    let B = ltb (suc m) (2 ^ 53) in
    let C = leb (down e) (2 ^ 1074) in
    let D = ltb (suc m * up e) (2 ^ 1024 * down e) in
    at_exp (suc m) e
    (ltb→lt (suc m) (2 ^ 53) (and_r A B (and_l (A && B) C (and_l (A && B && C) D f))))
    (leb→le (down e) (2 ^ 1074) (and_r (A && B) C (and_l (A && B && C) D f)))
    (ltb→lt (suc m * up e) (2 ^ 1024 * down e) (and_r (A && B && C) D f))

-- ---- from 2 ^ 52 * 2 ^ k on, the doubles are multiples of 2 ^ k
pub grid : {m v : ℕ} (k : ℕ) → Shape m v → 2 ^ 52 * 2 ^ k ≤ v → (w : ℕ) × (v ≡ w * 2 ^ k)
grid {m} {v} k s h = (m * 2 ^ (s.j - k), s.is ∙ sym (mul_assoc m (2 ^ (s.j - k)) (2 ^ k) ∙ ap (λ (x : ℕ). m * x) (sym (pow-add 2 (s.j - k) k) ∙ ap (λ (x : ℕ). 2 ^ x) (back s.j k reach))))
  where
    twice : 2 ^ 53 * 2 ^ s.j ≡ 2 ^ 52 * 2 ^ suc s.j
    twice = sym (ap (λ (x : ℕ). 2 ^ 52 * x) (pow-succ' 2 s.j) ∙ sym (mul_assoc (2 ^ 52) 2 (2 ^ s.j)))

    reach : k ≤ s.j
    reach = le_of_suc-le-suc (lt_of_not-le (λ (g : suc s.j ≤ k).
        not-le_of_lt (lt_of_le_of_lt (le_of_eq s.is) (lt_of_lt_of_le (mul-lt-mul_of_pos_right s.small (pow_pos s.j)) (le_trans (le_of_eq twice) (mul-le-mul_left (2 ^ 52) (pow_mono g))))) h))

-- ---- a value's parts
pub parts_of_lem : (r : Float) (w : ℕ) → HasValue r false w (2 ^ 1074) → parts r ≡ w
parts_of_lem nan w h = absurd h
parts_of_lem (inf t) w h = absurd h
parts_of_lem (fin t m e) w h = ap (λ (x : ℕ). x / down e) h.1 ∙ mul-div_cancel w (down_pos e)

-- ---- bits to a value: the exponent's field x + 1 and the digits t
of_bits_is : (b : ℕ) → of_bits binary64 b ≡ of_fields binary64 (leb (2 ^ 63) b) (b % 2 ^ 63 / 2 ^ 52) (b % 2 ^ 52)
unfolding of_bits
of_bits_is b = refl

differ : (x : ℕ) → x < 2046 → suc x ≡ 2047 → ⊥
differ x h e = omega arith

under_ones : (t x : ℕ) → x < 2046 → of_fields binary64 false (suc x) t ≡ odd 53 false (2 ^ 52 + t) x 1074
unfolding of_fields
under_ones t x h = cond_no (eqb (suc x) 2047) (cond (eqb t 0) (inf false) nan) (odd 53 false (2 ^ 52 + t) x 1074) (not_T (eqb (suc x) 2047) (λ (u : T (eqb (suc x) 2047)). differ x h (eqb→eq (suc x) 2047 u)))

normal : (x t b : ℕ) → x < 2046 → t < 2 ^ 52 → b ≡ suc x * 2 ^ 52 + t → of_bits binary64 b ≡ odd 53 false (2 ^ 52 + t) x 1074
normal x t b X H e =
    let l : b < 2 ^ 63 = omega arith in
    let f : b % 2 ^ 63 / 2 ^ 52 ≡ suc x = omega arith in
    let d : b % 2 ^ 52 ≡ t = omega arith in
    of_bits_is b
    ∙ ap (λ (s : Bool). of_fields binary64 s (b % 2 ^ 63 / 2 ^ 52) (b % 2 ^ 52)) (is_false (leb (2 ^ 63) b) (lt→nleb (2 ^ 63) b l))
    ∙ ap (λ (y : ℕ). of_fields binary64 false y (b % 2 ^ 52)) f
    ∙ ap (λ (y : ℕ). of_fields binary64 false (suc x) y) d
    ∙ under_ones t x X

-- n of 53 binary digits, or 2 ^ 53, times 2 ^ k
pub made : (k n : ℕ) → 2 ^ 52 ≤ n → n ≤ 2 ^ 53 → k < 2045 → HasValue (of_bits binary64 (k * 2 ^ 52 + n)) false (n * 2 ^ k) (2 ^ 1074)
made k n lo hi K = go (eq-or-lt_of_le hi)
  where
    whole : (t x : ℕ) → x < 2046 → t < 2 ^ 52 → k * 2 ^ 52 + n ≡ suc x * 2 ^ 52 + t → (2 ^ 52 + t) * 2 ^ x ≡ n * 2 ^ k → HasValue (of_bits binary64 (k * 2 ^ 52 + n)) false (n * 2 ^ k) (2 ^ 1074)
    whole t x X H e v =
        subst (λ (z : Float). HasValue z false (n * 2 ^ k) (2 ^ 1074)) (sym (normal x t (k * 2 ^ 52 + n) X H e))
        (subst (λ (z : ℕ). HasValue (odd 53 false (2 ^ 52 + t) x 1074) false z (2 ^ 1074)) v (odd_sign 53 false (2 ^ 52 + t) x 1074))

    go : (n ≡ 2 ^ 53) ⊎ (n < 2 ^ 53) → HasValue (of_bits binary64 (k * 2 ^ 52 + n)) false (n * 2 ^ k) (2 ^ 1074)
    go (inl e) = whole 0 (suc k) (omega arith) (pow_pos 52) (omega arith) (ap (λ (x : ℕ). 2 ^ 52 * x) (pow-succ' 2 k) ∙ sym (mul_assoc (2 ^ 52) 2 (2 ^ k)) ∙ ap (λ (x : ℕ). x * 2 ^ k) (sym e))
    go (inr l) =
        let z : 2 ^ 52 + (n - 2 ^ 52) ≡ n = omega arith in
        whole (n - 2 ^ 52) k (omega arith) (omega arith) (omega arith) (ap (λ (x : ℕ). x * 2 ^ k) z)

-- ---- a magnitude up to the infinity's is no NaN's
pub no_nan : (b : ℕ) → b % 2 ^ 63 ≤ 2047 * 2 ^ 52 → T (not (nan_bits binary64 b))
no_nan b h = subst (λ (t : Bool). T (not t)) (sym (nan_bits_above binary64 b)) (le→nltb (2047 * 2 ^ 52) (b % 2 ^ 63) h)

-- and no mask makes one of it
pub masked : (b m : ℕ) → b % 2 ^ 63 ≤ 2047 * 2 ^ 52 → T (not (nan_bits binary64 (bit_and b m)))
masked b m h = no_nan (bit_and b m) (omega (arith, and_mod b m 63, and_le_l (b % 2 ^ 63) (m % 2 ^ 63)))
