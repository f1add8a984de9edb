-- A rounded whole root, scaled, is the double nearest to the root: `root_at` is right. Assumes nothing.
use Prim.Native.Nat.{ℕ, zero, suc, ◌+◌, ◌-◌, ◌*◌, ◌/◌, ◌%◌, ◌^◌, ◌≤◌, ◌<◌}
use mathlib.Core.Path.{◌≡◌, sym, ap, ◌∙◌, subst}
use mathlib.Core.Logic.{◌⊎◌, inl, inr}
use native.Mathlib.Nat.{le_trans, le_of_eq, le_of_lt, lt_of_lt_of_le, lt_of_le_of_lt, lt_of_not-le, eq-or-lt_of_le, mul-le-mul, mul-le-mul_left, mul-le-mul_right, mul-lt-mul_of_pos_right, lt_of_mul-lt-mul_right, mul-mul-mul_comm, mul-pos, add-mul}
use native.Mathlib.Decide.{dec_le}
use native.Mathlib.Omega.{arith}
use lib.Dec.{T}
use lib.Pow.{pow-add, pow_pos}
use lib.Ieee.{Float, binary64, of_bits}
use lib.Ieee.Positive.{positive, positive_of_value}
use Rattle.roots.specs.Root.{IsRoot, parts, round_root, root_at}
use Rattle.roots.proofs.Squares.{Rounded, round_root_lem}
use Rattle.roots.proofs.Doubles.{Shape, digits, shape, grid, made, parts_of_lem}

-- ---- squares of multiples of u
sq_under : (s p u A : ℕ) → 0 < u → s ≤ p * u → p * p < A → s * s < A * (u * u)
sq_under s p u A U h g = lt_of_le_of_lt (le_trans (mul-le-mul h h) (le_of_eq (mul-mul-mul_comm p u p u))) (mul-lt-mul_of_pos_right g (mul-pos U U))

sq_over : (s p u A : ℕ) → 0 < u → p * u ≤ s → A < p * p → A * (u * u) < s * s
sq_over s p u A U h g = lt_of_lt_of_le (mul-lt-mul_of_pos_right g (mul-pos U U)) (le_trans (le_of_eq (sym (mul-mul-mul_comm p u p u))) (mul-le-mul h h))

sq_strict : (s p u A : ℕ) → s < p * u → p * p ≤ A → s * s < A * (u * u)
sq_strict s p u A h g =
    let t = p * u in
    let pos : 0 < t = omega arith in
    lt_of_le_of_lt (mul-le-mul_left s (le_of_lt h)) (lt_of_lt_of_le (mul-lt-mul_of_pos_right h pos) (le_trans (le_of_eq (mul-mul-mul_comm p u p u)) (mul-le-mul_right (u * u) g)))

module _ (a n k N : ℕ) (R : Rounded a n) (big : 2 ^ 52 ≤ a) (same : 4 * N ≡ a * 4 ^ 27 * (2 ^ k * 2 ^ k)) where
  U : 0 < 2 ^ k
  U = pow_pos k

  -- a double below n * 2 ^ k, n above 2 ^ 52, is at most (n - 1) * 2 ^ k
  step_down : (d v : ℕ) → Shape d v → v < n * 2 ^ k → 2 ^ 52 < n → v ≤ (n - 1) * 2 ^ k
  step_down d v s h g = go (dec_le (2 ^ 52 * 2 ^ k) v)
    where
      go : Dec (2 ^ 52 * 2 ^ k ≤ v) → v ≤ (n - 1) * 2 ^ k
      go (yes l) =
          let w = grid k s l in
          let c : w.0 < n = lt_of_mul-lt-mul_right (2 ^ k) (subst (λ (x : ℕ). x < n * 2 ^ k) w.1 h) in
          let t : w.0 ≤ n - 1 = omega arith in
          le_trans (le_of_eq w.1) (mul-le-mul_right (2 ^ k) t)
      go (no f) =
          let t : 2 ^ 52 ≤ n - 1 = omega arith in
          le_trans (le_of_lt (lt_of_not-le f)) (mul-le-mul_right (2 ^ k) t)

  step_up : (d v : ℕ) → Shape d v → n * 2 ^ k < v → (n + 1) * 2 ^ k ≤ v
  step_up d v s h =
      let w = grid k s (le_trans (mul-le-mul_right (2 ^ k) R.from) (le_of_lt h)) in
      let c : n < w.0 = lt_of_mul-lt-mul_right (2 ^ k) (subst (λ (x : ℕ). n * 2 ^ k < x) w.1 h) in
      let t : n + 1 ≤ w.0 = omega arith in
      le_trans (mul-le-mul_right (2 ^ k) t) (le_of_eq (sym w.1))

  below : (d v : ℕ) → Shape d v → v < n * 2 ^ k → (v + n * 2 ^ k) * (v + n * 2 ^ k) < 4 * N
  below d v s h = subst (λ (x : ℕ). (v + n * 2 ^ k) * (v + n * 2 ^ k) < x) (sym same) (go (eq-or-lt_of_le R.from))
    where
      go : (2 ^ 52 ≡ n) ⊎ (2 ^ 52 < n) → (v + n * 2 ^ k) * (v + n * 2 ^ k) < a * 4 ^ 27 * (2 ^ k * 2 ^ k)
      go (inl e) =
          let t : v + n * 2 ^ k < 2 * n * 2 ^ k = omega arith in
          let f : 2 * n * (2 * n) ≤ a * 4 ^ 27 = subst (λ (x : ℕ). 2 * x * (2 * x) ≤ a * 4 ^ 27) e (omega arith) in
          sq_strict (v + n * 2 ^ k) (2 * n) (2 ^ k) (a * 4 ^ 27) t f
      go (inr g) =
          let t : v ≤ (n - 1) * 2 ^ k = step_down d v s h g in
          let e : 2 * n - 1 ≡ n - 1 + n = omega arith in
          let f : v + n * 2 ^ k ≤ (2 * n - 1) * 2 ^ k = subst (λ (x : ℕ). v + n * 2 ^ k ≤ x * 2 ^ k) (sym e) (omega (arith, add-mul (n - 1) n (2 ^ k))) in
          sq_under (v + n * 2 ^ k) (2 * n - 1) (2 ^ k) (a * 4 ^ 27) U f R.above

  over : (d v : ℕ) → Shape d v → n * 2 ^ k < v → 4 * N < (v + n * 2 ^ k) * (v + n * 2 ^ k)
  over d v s h =
      let t : (n + 1) * 2 ^ k ≤ v = step_up d v s h in
      let f : (2 * n + 1) * 2 ^ k ≤ v + n * 2 ^ k = omega arith in
      subst (λ (x : ℕ). x < (v + n * 2 ^ k) * (v + n * 2 ^ k)) (sym same) (sq_over (v + n * 2 ^ k) (2 * n + 1) (2 ^ k) (a * 4 ^ 27) U f R.below)

  nearest : (r : Float) → T (positive r) → parts r ≡ n * 2 ^ k → IsRoot N r
  nearest r F P = record {
    number = F;
    less = λ q f g h. subst (λ (x : ℕ). (parts q + x) * (parts q + x) < 4 * N) (sym P) (below (digits q) (parts q) (shape q f g) (subst (λ (x : ℕ). parts q < x) P h));
    more = λ q f g h. subst (λ (x : ℕ). 4 * N < (parts q + x) * (parts q + x)) (sym P) (over (digits q) (parts q) (shape q f g) (subst (λ (x : ℕ). x < parts q) P h));
  }

-- ---- `root_at`

-- a, shifted by the exponent's last bit
module _ (a e : ℕ) (lo : 2 ^ 52 ≤ a) (hi : a < 2 ^ 53) where
  pub shifted : (2 ^ 52 ≤ a * 2 ^ (e % 2)) × (a * 2 ^ (e % 2) < 2 ^ 54)
  shifted = go (e % 2) (omega arith)
    where
      go : (o : ℕ) → o < 2 → (2 ^ 52 ≤ a * 2 ^ o) × (a * 2 ^ o < 2 ^ 54)
      go zero O = omega arith
      go (suc zero) O = omega arith
      go (suc (suc o)) O = absurd (omega arith)

  pub half : Rounded (a * 2 ^ (e % 2)) (round_root (a * 2 ^ (e % 2)))
  half = round_root_lem (a * 2 ^ (e % 2)) shifted.0 shifted.1

-- the exponent, halved
halved : (e : ℕ) → 2 ^ (52 + e) ≡ 2 ^ 52 * (2 ^ (e % 2) * (2 ^ (e / 2) * 2 ^ (e / 2)))
halved e =
    let s : e ≡ e % 2 + (e / 2 + e / 2) = omega arith in
    pow-add 2 52 e ∙ ap (λ (x : ℕ). 2 ^ 52 * x) (ap (λ (x : ℕ). 2 ^ x) s ∙ pow-add 2 (e % 2) (e / 2 + e / 2) ∙ ap (λ (x : ℕ). 2 ^ (e % 2) * x) (pow-add 2 (e / 2) (e / 2)))

regrouped : (a o u : ℕ) → 4 * (a * (2 ^ 52 * (o * (u * u)))) ≡ a * o * 4 ^ 27 * (u * u)
regrouped a o u = omega arith

pub root_at_is : (a e : ℕ) → 2 ^ 52 ≤ a → a < 2 ^ 53 → e < 3068 → IsRoot (a * 2 ^ (52 + e)) (root_at a e)
unfolding root_at
root_at_is a e lo hi E =
    let n = round_root (a * 2 ^ (e % 2)) in
    let R = half a e lo hi in
    let r = of_bits binary64 (e / 2 * 2 ^ 52 + n) in
    let k : e / 2 < 2045 = omega arith in
    let v = made (e / 2) n R.from R.to k in
    let z : 0 < n = omega (arith, R.from) in
    nearest (a * 2 ^ (e % 2)) n (e / 2) (a * 2 ^ (52 + e)) R (shifted a e lo hi).0
    (ap (λ (x : ℕ). 4 * (a * x)) (halved e) ∙ regrouped a (2 ^ (e % 2)) (2 ^ (e / 2)))
    r (positive_of_value r (n * 2 ^ (e / 2)) (2 ^ 1074) v (mul-pos z (pow_pos (e / 2)))) (parts_of_lem r (n * 2 ^ (e / 2)) v)
