-- Whole numbers up to 2^53 as doubles: their sums and products are not rounded as long as they stay below it, and a quotient is
-- rounded once. `reaching` divides so. Assumes nothing.
use Rattle.std.proofs.Common.{◌≡◌, ℕ, ◌+◌, ◌*◌, ◌^◌, ◌<◌, ◌≤◌, Bool, true, false, cond, eqb, ℤ, refl, ap, ◌∙◌, true≢false, mul-pos, arith, ne_eqb}
use lib.Ieee.{Float, nan, inf, fin, binary64, up, down, round, sum, add, mul, div, of_int, of_bits}
use lib.Ieee.Exact.{HasValue}
use lib.Ieee.Back.{round_whole}
use lib.Ieee.Fits.{down_pos}
use lib.Ieee.Scale.{round_same}
use lib.Ieee.Positive.{first_pos}
use Rattle.regions.specs.Doubles.{two, double}

-- ---- two finite numbers, by the whole numbers that they are
module _ (m : ℕ) (e : ℤ) (n : ℕ) (d : ℤ) (a b : ℕ) (v : m * up e * 1 ≡ a * down e) (w : n * up d * 1 ≡ b * down d) where
  dens : 0 < down e * down d
  dens = mul-pos (down_pos e) (down_pos d)

  sum_fin : add binary64 (fin false m e) (fin false n d) ≡ round binary64 false (a + b) 1
  unfolding add sum
  sum_fin =
      round_same binary64 false (m * up e * down d + n * up d * down e) (down e * down d) (a + b) 1 dens (omega arith)
      (same (m * up e) (down e) (n * up d) (down d) v w)
    where
      same : (p q r s : ℕ) → p * 1 ≡ a * q → r * 1 ≡ b * s → (p * s + r * q) * 1 ≡ (a + b) * (q * s)
      same p q r s h k = let x = ap (λ (z : ℕ). z * s) h in let y = ap (λ (z : ℕ). z * q) k in omega arith

  product_fin : mul binary64 (fin false m e) (fin false n d) ≡ round binary64 false (a * b) 1
  unfolding mul
  product_fin =
      round_same binary64 false (m * up e * (n * up d)) (down e * down d) (a * b) 1 dens (omega arith)
      (same (m * up e) (down e) (n * up d) (down d) v w)
    where
      same : (p q r s : ℕ) → p * 1 ≡ a * q → r * 1 ≡ b * s → p * r * 1 ≡ a * b * (q * s)
      same p q r s h k = let x = ap (λ (z : ℕ). z * r) h in let y = ap (λ (z : ℕ). a * q * z) k in omega arith

  quotient_fin : 0 < b → div binary64 (fin false m e) (fin false n d) ≡ round binary64 false a b
  unfolding div
  quotient_fin l =
      let z : 0 < n * up d = omega (arith, w, mul-pos l (down_pos d)) in
      let o : 0 < n = first_pos n (up d) z in
      ap (λ (t : Bool). cond t (cond (eqb m 0) nan (inf false)) (round binary64 false (m * up e * down d) (n * up d * down e))) (ne_eqb n 0 (λ q. omega arith))
      ∙ round_same binary64 false (m * up e * down d) (n * up d * down e) a b (mul-pos z (down_pos e)) l (same (m * up e) (down e) (n * up d) (down d) v w)
    where
      same : (p q r s : ℕ) → p * 1 ≡ a * q → r * 1 ≡ b * s → p * s * b ≡ a * (r * q)
      same p q r s h k = let x = ap (λ (z : ℕ). z * s * b) h in let y = ap (λ (z : ℕ). a * q * z) k in omega arith

-- what holds of every finite number that is the whole number a holds of each double that is
as_fin : (P : Float → Type 0) (x : Float) (a : ℕ) → HasValue x false a 1 → ((m : ℕ) (e : ℤ) → m * up e * 1 ≡ a * down e → P (fin false m e)) → P x
as_fin P nan a v h = absurd v
as_fin P (inf s) a v h = absurd v
as_fin P (fin true m e) a v h = absurd (true≢false v.0)
as_fin P (fin false m e) a v h = h m e v.1

-- ---- the operations
pub double_value : (a : ℕ) → a ≤ 2 ^ 53 → HasValue (double a) false a 1
unfolding of_int
double_value a l = round_whole binary64 false a l

module _ (a b : ℕ) (la : a ≤ 2 ^ 53) (lb : b ≤ 2 ^ 53) where
  by_parts : (P : Float → Float → Type 0) → ((m : ℕ) (e : ℤ) (n : ℕ) (d : ℤ) → m * up e * 1 ≡ a * down e → n * up d * 1 ≡ b * down d → P (fin false m e) (fin false n d)) → P (double a) (double b)
  by_parts P h = as_fin (λ x. P x (double b)) (double a) a (double_value a la) (λ m e v. as_fin (P (fin false m e)) (double b) b (double_value b lb) (λ n d w. h m e n d v w))

  pub add_whole : add binary64 (double a) (double b) ≡ double (a + b)
  unfolding of_int
  add_whole = by_parts (λ x y. add binary64 x y ≡ double (a + b)) (λ m e n d v w. sum_fin m e n d a b v w)

  pub mul_whole : mul binary64 (double a) (double b) ≡ double (a * b)
  unfolding of_int
  mul_whole = by_parts (λ x y. mul binary64 x y ≡ double (a * b)) (λ m e n d v w. product_fin m e n d a b v w)

  pub div_whole : 0 < b → div binary64 (double a) (double b) ≡ round binary64 false a b
  div_whole l = by_parts (λ x y. div binary64 x y ≡ round binary64 false a b) (λ m e n d v w. quotient_fin m e n d a b v w l)

pub two_is : two ≡ double 2
unfolding of_bits of_int round
two_is = refl
