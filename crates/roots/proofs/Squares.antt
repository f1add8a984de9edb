-- Squares of whole numbers, and `isqrt` and `round_root` by them. Assumes nothing.
use Prim.Native.Nat.{ℕ, zero, suc, ◌+◌, ◌-◌, ◌*◌, ◌/◌, ◌%◌, ◌^◌, ◌≤◌, ◌<◌}
use mathlib.Core.Path.{◌≡◌, refl, sym, ap, ◌∙◌, subst}
use mathlib.Core.Logic.{◌⊎◌, inl, inr}
use mathlib.Core.Bool.{Bool, true, false, cond}
use native.Mathlib.Nat.{mul-le-mul, lt_of_le_of_lt, lt_of_not-le, not-le_of_lt, mul-mul-mul_comm, mul-add, add-mul, mul_comm, pow-suc, mul_assoc, zero-lt-suc, div-lt_iff_lt-mul}
use native.Mathlib.Numerals.{add-one}
use native.Mathlib.Omega.{arith}
use borrow.Author.Tests.{leb-true, leb-false}
use lib.Dec.{leb}
use Rattle.roots.specs.Root.{isqrt, round_root}

-- q is the whole part of the root of a
pub record Floor (a q : ℕ) : Type 0 where
  pub from : q * q ≤ a
  pub to : a < (q + 1) * (q + 1)

-- n is nearest to the root of a * 4 ^ 26, in squares of twice the numbers, and has 53 binary digits, or is 2 ^ 53
pub record Rounded (a n : ℕ) : Type 0 where
  pub above : (2 * n - 1) * (2 * n - 1) < a * 4 ^ 27
  pub below : a * 4 ^ 27 < (2 * n + 1) * (2 * n + 1)
  pub from : 2 ^ 52 ≤ n
  pub to : n ≤ 2 ^ 53

pub sq_mono : {m n : ℕ} → m ≤ n → m * m ≤ n * n
sq_mono h = mul-le-mul h h

-- the root is in order
pub sq_back : (m n : ℕ) → m * m < n * n → m < n
sq_back m n h = lt_of_not-le (λ (g : n ≤ m). not-le_of_lt h (sq_mono g))

pub sq_add : (m n : ℕ) → (m + n) * (m + n) ≡ m * m + 2 * (m * n) + n * n
sq_add m n =
    let e : (m + n) * (m + n) ≡ m * m + m * n + (m * n + n * n) = mul-add (m + n) m n ∙ ap (λ (x : ℕ). x + (m + n) * n) (add-mul m n m ∙ ap (λ (x : ℕ). m * m + x) (mul_comm n m)) ∙ ap (λ (x : ℕ). m * m + m * n + x) (add-mul m n n) in
    omega arith

pub sq_even : (q : ℕ) → 2 * q * (2 * q) ≡ 4 * (q * q)
sq_even q = mul-mul-mul_comm 2 q 2 q

pub sq_odd : (q : ℕ) → (2 * q + 1) * (2 * q + 1) ≡ 4 * (q * q) + 4 * q + 1
sq_odd q = omega (arith, sq_add (2 * q) 1, sq_even q)

pub sq_suc : (q : ℕ) → (q + 1) * (q + 1) ≡ q * q + 2 * q + 1
sq_suc q = omega (arith, sq_add q 1)

pub four_more : (a i : ℕ) → a * 4 ^ (i + 1) ≡ 4 * (a * 4 ^ i)
four_more a i = ap (λ (k : ℕ). a * 4 ^ k) (add-one i) ∙ ap (λ (x : ℕ). a * x) (pow-suc 4 i) ∙ sym (mul_assoc a (4 ^ i) 4) ∙ mul_comm (a * 4 ^ i) 4

pub two_more : (i : ℕ) → 2 ^ (i + 1) ≡ 2 * 2 ^ i
two_more i = ap (λ (x : ℕ). 2 ^ x) (add-one i) ∙ pow-suc 2 i ∙ mul_comm (2 ^ i) 2

-- ---- the whole part of a root
digit : (a p : ℕ) → Floor (a / 4) p → Floor a (cond (leb ((2 * p + 1) * (2 * p + 1)) a) (2 * p + 1) (2 * p))
digit a p h = go (leb ((2 * p + 1) * (2 * p + 1)) a) refl
  where
    go : (b : Bool) → leb ((2 * p + 1) * (2 * p + 1)) a ≡ b → Floor a (cond b (2 * p + 1) (2 * p))
    go true e = record { from = leb-true ((2 * p + 1) * (2 * p + 1)) a e; to = omega (arith, h.to) }
    go false e = record { from = omega (arith, h.from); to = leb-false ((2 * p + 1) * (2 * p + 1)) a e }

pub isqrt_is : (n a : ℕ) → a < 4 ^ n → Floor a (isqrt n a)
unfolding isqrt
isqrt_is zero a h = record { from = omega arith; to = omega arith }
isqrt_is (suc n) a h = digit a (isqrt n (a / 4)) (isqrt_is n (a / 4) ((div-lt_iff_lt-mul (zero-lt-suc 3)).1 (subst (λ (x : ℕ). a < x) (pow-suc 4 n) h)))

pub floor_one : (a p q : ℕ) → Floor a p → Floor a q → p ≡ q
floor_one a p q P Q =
    let x : p < q + 1 = sq_back p (q + 1) (lt_of_le_of_lt P.from Q.to) in
    let y : q < p + 1 = sq_back q (p + 1) (lt_of_le_of_lt Q.from P.to) in
    omega arith

-- a long root is that of a number below 4 ^ 54
long : (a : ℕ) → a < 2 ^ 54 → Floor (a * 4 ^ 27) (isqrt 54 (a * 4 ^ 27))
long a h = let l : a * 4 ^ 27 < 4 ^ 54 = omega arith in isqrt_is 54 (a * 4 ^ 27) l

pub long_lt : (a : ℕ) → a < 2 ^ 54 → isqrt 54 (a * 4 ^ 27) < 2 ^ 54
long_lt a h =
    let q = isqrt 54 (a * 4 ^ 27) in
    let l : q * q < 2 ^ 54 * 2 ^ 54 = omega (arith, (long a h).from) in
    sq_back q (2 ^ 54) l

pub is_isqrt : (a q : ℕ) → a < 2 ^ 54 → Floor (a * 4 ^ 27) q → q ≡ isqrt 54 (a * 4 ^ 27)
is_isqrt a q h f = floor_one (a * 4 ^ 27) q (isqrt 54 (a * 4 ^ 27)) f (long a h)

-- ---- the whole number nearest to half of a root

even_or_odd : (q : ℕ) → (q ≡ 2 * (q / 2)) ⊎ (q ≡ 2 * (q / 2) + 1)
even_or_odd q = go (q % 2) (omega arith) refl
  where
    go : (r : ℕ) → r < 2 → q % 2 ≡ r → (q ≡ 2 * (q / 2)) ⊎ (q ≡ 2 * (q / 2) + 1)
    go zero l e = inl (omega arith)
    go (suc r) l e = inr (omega arith)

-- q is even: q / 2 is nearest
half_even : (a h : ℕ) → 0 < h → 2 * h * (2 * h) ≤ a → (2 * h - 1) * (2 * h - 1) < a
half_even a h p l =
    let m = 2 * h - 1 in
    let e : m + 1 ≡ 2 * h = omega arith in
    let g : (m + 1) * (m + 1) ≤ a = subst (λ (x : ℕ). x * x ≤ a) (sym e) l in
    omega arith

rounded : (a q : ℕ) → 2 ^ 52 ≤ a → Floor (a * 4 ^ 27) q → q < 2 ^ 54 → Rounded a ((q + 1) / 2)
rounded a q A f top = pick (even_or_odd q)
  where
    big : 2 ^ 53 ≤ q
    big = let h : 2 ^ 53 * 2 ^ 53 < (q + 1) * (q + 1) = omega (arith, f.to) in omega (arith, sq_back (2 ^ 53) (q + 1) h)

    pick : (q ≡ 2 * (q / 2)) ⊎ (q ≡ 2 * (q / 2) + 1) → Rounded a ((q + 1) / 2)
    pick (inl e) =
        let h = q / 2 in
        let n : (q + 1) / 2 ≡ h = omega arith in
        let l : 2 * h * (2 * h) ≤ a * 4 ^ 27 = subst (λ (x : ℕ). x * x ≤ a * 4 ^ 27) e f.from in
        let u : a * 4 ^ 27 < (2 * h + 1) * (2 * h + 1) = subst (λ (x : ℕ). a * 4 ^ 27 < (x + 1) * (x + 1)) e f.to in
        subst (λ (x : ℕ). Rounded a x) (sym n)
        (record { above = half_even (a * 4 ^ 27) h (omega (arith, big)) l; below = u; from = omega (arith, big); to = omega arith })
    pick (inr e) =
        let h = q / 2 in
        let n : (q + 1) / 2 ≡ h + 1 = omega arith in
        let m : 2 * (h + 1) - 1 ≡ 2 * h + 1 = omega arith in
        let l : (2 * h + 1) * (2 * h + 1) ≤ a * 4 ^ 27 = subst (λ (x : ℕ). x * x ≤ a * 4 ^ 27) e f.from in
        let l' : (2 * h + 1) * (2 * h + 1) < a * 4 ^ 27 = omega arith in
        let u : a * 4 ^ 27 < (2 * h + 1 + 1) * (2 * h + 1 + 1) = subst (λ (x : ℕ). a * 4 ^ 27 < (x + 1) * (x + 1)) e f.to in
        subst (λ (x : ℕ). Rounded a x) (sym n)
        (record { above = subst (λ (x : ℕ). x * x < a * 4 ^ 27) (sym m) l'; below = omega arith; from = omega (arith, big); to = omega arith })

pub round_root_lem : (a : ℕ) → 2 ^ 52 ≤ a → a < 2 ^ 54 → Rounded a (round_root a)
unfolding round_root
round_root_lem a l h = rounded a (isqrt 54 (a * 4 ^ 27)) l (long a h) (long_lt a h)
