-- The start value 1/sqrt(n) is finite, for every n that a call takes: the root of n is 1 at least. And 1e-10 is the double nearest to it. Assumes nothing.
use Rattle.std.proofs.Common.{◌≡◌, ℕ, zero, suc, ◌+◌, ◌*◌, ◌/◌, ◌^◌, ◌<◌, ◌≤◌, true, false, T, ℤ, pos, sym, refl, ap, ◌∙◌, subst, ⊎_elim, lt_of_lt_of_le, mul-le-mul_right, mul_assoc, mul_comm, mul-le-mul, le-div_iff_mul-le, mul-one, mul_right_comm, le_of_mul-le-mul_right, mul-div_cancel, arith, ltb→lt, pow_pos, pow_mono, shl_lt, ne_eqb}
use lib.Ieee.{Float, nan, inf, fin, binary64, up, down, round, of_bits, of_int, div, le, fits}
use lib.Ieee.Fits.{down_pos, up_pos, of_int-fits}
use lib.Ieee.Exact.{HasValue, round_exact}
use lib.Ieee.Order.{round_mono}
use lib.Ieee.Positive.{positive, num, den, positive_of_value}
use lib.Ieee.Scale.{finite}
use Rattle.regions.proofs.Cases.{below_or_not}
use Rattle.roots.specs.Root.{parts, IsRoot, SquareRoot, sqrt_of}
use Rattle.roots.proofs.Sorts.{sqrt_of_is}
use Rattle.eigenvector.specs.Eigenvector.{tiny, start_of}

pub tiny_nearest : tiny ≡ round binary64 false 1 10000000000
unfolding of_bits round
tiny_nearest = refl

-- ---- a fraction of at most 1 rounds to a finite number
abbrev zeroth : Float
zeroth = fin false 0 (pos 0)

abbrev first : Float
first = fin false 1 (pos 0)

bounded : (z : Float) → T (le zeroth z) → T (le z first) → finite z ≡ true
unfolding le
bounded nan l h = absurd l
bounded (inf true) l h = absurd l
bounded (inf false) l h = absurd h
bounded (fin s m e) l h = refl

round_zero : round binary64 false 0 1 ≡ zeroth
unfolding round
round_zero = refl

round_first : round binary64 false 1 1 ≡ first
unfolding round
round_first = refl

unit_finite : (a b : ℕ) → 0 < b → a ≤ b → finite (round binary64 false a b) ≡ true
unit_finite a b B h =
    let z = round binary64 false a b in
    bounded z
    (subst (λ (x : Float). T (le x z)) round_zero (round_mono binary64 0 1 a b (omega arith) B (omega arith)))
    (subst (λ (x : Float). T (le z x)) round_first (round_mono binary64 a b 1 1 B (omega arith) (omega arith)))

-- 1 over a number that is 1 at least
over_finite : (r : Float) → T (positive r) → den r ≤ num r → finite (div binary64 first r) ≡ true
unfolding div
over_finite nan p h = absurd p
over_finite (inf s) p h = absurd p
over_finite (fin true m e) p h = absurd p
over_finite (fin false m e) p h =
    let l : 0 < m = ltb→lt 0 m p in
    let q : 0 < m * up e = mul-le-mul l (up_pos e) in
    rw (ne_eqb m 0 (λ z. omega arith)) (unit_finite (1 * 1 * down e) (m * up e * 1) (omega arith) (omega arith))

-- ---- the root of n is 1 at least, counted in parts, of which 1 has p
no_less : (p n r : ℕ) → 0 < n → r < p → 4 * (n * p * p) < (p + r) * (p + r) → ⊥
no_less p n r l h k =
    let a : (p + r) * (p + r) ≤ (p + p) * (p + p) = mul-le-mul (omega arith) (omega arith) in
    let b : 1 * (p * p) ≤ n * (p * p) = mul-le-mul_right (p * p) l in
    let c : n * p * p ≡ n * (p * p) = mul_assoc n p p in
    omega arith

first_fits : T (fits binary64 first)
unfolding fits
first_fits = tt

root_parts : (n : ℕ) (r : Float) → 0 < n → IsRoot (n * 2 ^ 1074 * 2 ^ 1074) r → 2 ^ 1074 ≤ parts r
root_parts n r l i = ⊎_elim (λ h. absurd (no_less (2 ^ 1074) n (parts r) l h (i.more first first_fits tt h))) (λ h. h) (below_or_not (parts r) (2 ^ 1074))

parts_fraction : (r : Float) → T (positive r) → 2 ^ 1074 ≤ parts r → den r ≤ num r
parts_fraction nan p h = absurd p
parts_fraction (inf s) p h = absurd p
parts_fraction (fin true m e) p h = absurd p
parts_fraction (fin false m e) p h =
    le_of_mul-le-mul_right (subst (λ (x : ℕ). x ≤ m * up e * 2 ^ 1074) (mul_comm (2 ^ 1074) (down e)) ((le-div_iff_mul-le (down_pos e)).0 h)) (pow_pos 1074)

-- ---- n as a double
whole : (n : ℕ) → n ≤ 4096 → HasValue (of_int binary64 (pos n)) false n 1
unfolding of_int
whole n h =
    let small : n < 2 ^ 13 = omega arith in
    let below : (k : ℕ) → 13 ≤ k → n < 2 ^ k = λ k l. lt_of_lt_of_le small (pow_mono {i = 13} {j = k} l) in
    round_exact binary64 false n 1 n 1074 (omega arith) (below 53 (omega arith)) (shl_lt 1024 1074 (below 1024 (omega arith))) (sym (mul-one (n * 2 ^ 1074)))

value_parts : (n m : ℕ) (e : ℤ) → m * up e * 1 ≡ n * down e → parts (fin false m e) ≡ n * 2 ^ 1074
value_parts n m e h =
    ap (λ (k : ℕ). k * 2 ^ 1074 / down e) (sym (mul-one (m * up e)) ∙ h)
    ∙ ap (λ (k : ℕ). k / down e) (mul_right_comm n (down e) (2 ^ 1074))
    ∙ mul-div_cancel (n * 2 ^ 1074) (down_pos e)

root_of_lem : (n : ℕ) (x : Float) → T (positive x) → T (fits binary64 x) → HasValue x false n 1 → IsRoot (n * 2 ^ 1074 * 2 ^ 1074) (sqrt_of x)
unfolding SquareRoot
root_of_lem n nan p f v = absurd p
root_of_lem n (inf s) p f v = absurd p
root_of_lem n (fin true m e) p f v = absurd p
root_of_lem n (fin false zero e) p f v = absurd p
root_of_lem n (fin false (suc m) e) p f v =
    subst (λ (k : ℕ). IsRoot (k * 2 ^ 1074) (sqrt_of (fin false (suc m) e))) (value_parts n (suc m) e v.1) (sqrt_of_is (fin false (suc m) e) f)

pub start_finite : (n : ℕ) → 0 < n → n ≤ 4096 → finite (start_of n) ≡ true
unfolding start_of of_bits
start_finite n l h =
    let x = of_int binary64 (pos n) in
    let v = whole n h in
    let i = root_of_lem n x (positive_of_value x n 1 v l) (of_int-fits binary64 (pos n)) v in
    over_finite (sqrt_of x) i.number (parts_fraction (sqrt_of x) i.number (root_parts n (sqrt_of x) l i))
