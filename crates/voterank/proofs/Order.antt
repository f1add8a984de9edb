-- Doubles that are neither NaN nor negative: sums and maxima with 0 stay so, and their order is total. Assumes nothing.
use Rattle.std.proofs.Common.{◌≡◌, ℕ, zero, suc, ◌+◌, ◌*◌, ◌^◌, ◌<◌, ◌≤◌, Bool, true, false, cond, not, ◌&&◌, ◌||◌, eqb, ltb, ℤ, refl, ap, ◌∙◌, ⊎_elim, true≢false, arith, ltb-false, ltb-true, eq-eqb}
use mathlib.Core.Bool.{false≢true}
use lib.Ieee.{Float, Format, binary64, nan, inf, fin, prec, emax, low, up, down, odd, units, round, sum, add, lt, eq, is_nan, of_bits}
use lib.Ieee.Fits.{down_pos}
use lib.Ieee.Positive.{through}
use Rattle.regions.specs.Doubles.{one}
use Rattle.regions.specs.Region.{zero_f}
use Rattle.regions.proofs.Cases.{bool_cases}
use Rattle.roots.specs.Maximum.{max_of, under}

-- neither NaN nor negative
abbrev pub fine : Float → Bool
fine nan = false
fine (inf s) = not s
fine (fin s m e) = not s

pub zero_fine : fine zero_f ≡ true
zero_fine = refl

pub one_fine : fine one ≡ true
unfolding of_bits
one_fine = refl

pub fine_cond : (b : Bool) (x y : Float) → fine x ≡ true → fine y ≡ true → fine (cond b x y) ≡ true
fine_cond true x y p q = p
fine_cond false x y p q = q

-- ---- sums
fine_odd : (d q k l : ℕ) → fine (odd d false q k l) ≡ true
unfolding odd
fine_odd d zero k l = refl
fine_odd d (suc q) k l = refl

fine_units : (f : Format) (q k : ℕ) → fine (units f false q k) ≡ true
unfolding units
fine_units f q k = fine_cond (ltb (q * 2 ^ k) (2 ^ (low f + suc (emax f)))) (odd (suc (prec f)) false q k (low f)) (inf false) (fine_odd (suc (prec f)) q k (low f)) refl

fine_round : (f : Format) (a c : ℕ) → fine (round f false a c) ≡ true
unfolding round
fine_round f a c = fine_units f _ _

pub fine_add : (x y : Float) → fine x ≡ true → fine y ≡ true → fine (add binary64 x y) ≡ true
unfolding add sum
fine_add nan y p q = absurd (false≢true p)
fine_add (inf true) y p q = absurd (false≢true p)
fine_add (fin true m e) y p q = absurd (false≢true p)
fine_add (inf false) nan p q = absurd (false≢true q)
fine_add (inf false) (inf true) p q = absurd (false≢true q)
fine_add (inf false) (inf false) p q = refl
fine_add (inf false) (fin t n d) p q = refl
fine_add (fin false m e) nan p q = absurd (false≢true q)
fine_add (fin false m e) (inf t) p q = q
fine_add (fin false m e) (fin true n d) p q = absurd (false≢true q)
fine_add (fin false m e) (fin false n d) p q = fine_round binary64 (m * up e * down d + n * up d * down e) (down e * down d)

-- ---- not below 0
pub fine_max : (x : Float) → fine (max_of x zero_f) ≡ true
unfolding max_of under lt eq is_nan
fine_max nan = refl
fine_max (inf true) = refl
fine_max (inf false) = refl
fine_max (fin false m e) = go (under (fin false m e) zero_f)
  where
    go : (b : Bool) → fine (cond b zero_f (fin false m e)) ≡ true
    go true = refl
    go false = refl
fine_max (fin true m e) = go (ltb 0 (m * up e * 1 + 0 * 1 * down e)) refl
  where
    go : (b : Bool) → ltb 0 (m * up e * 1 + 0 * 1 * down e) ≡ b → fine (cond (b || (eqb (m * up e * 1) (0 * 1 * down e) && (false || eqb (m * up e * 1) 0) && true)) zero_f (fin true m e)) ≡ true
    go true h = refl
    go false h =
        let z : m * up e * 1 + 0 * 1 * down e ≤ 0 = ltb-false 0 (m * up e * 1 + 0 * 1 * down e) h in
        ap (λ (b : Bool). fine (cond (b && (false || eqb (m * up e * 1) 0) && true) zero_f (fin true m e))) (eq-eqb (m * up e * 1) (0 * 1 * down e) (omega (arith, z)))
        ∙ ap (λ (b : Bool). fine (cond (b && true) zero_f (fin true m e))) (eq-eqb (m * up e * 1) 0 (omega (arith, z)))

-- ---- the order

-- +infinity, or a number that is not negative
data Fine : Float → Type 0 where
  top : Fine (inf false)
  number : (m : ℕ) (e : ℤ) → Fine (fin false m e)

view : (x : Float) → fine x ≡ true → Fine x
view nan p = absurd (false≢true p)
view (inf true) p = absurd (false≢true p)
view (inf false) p = top
view (fin true m e) p = absurd (false≢true p)
view (fin false m e) p = number m e

-- of fractions b/p, v/q and c/r: v is at most b, and b below c, so c is not at most v
less : (b p v q c r : ℕ) → 0 < q → v * p ≤ b * q → b * r < c * p → c * q ≤ v * r → ⊥
less b p v q c r h vb bc cv = omega (arith, through c v b r q p h cv vb)

above_view : {b v c : Float} → Fine b → Fine v → Fine c → lt b v ≡ false → lt b c ≡ true → lt v c ≡ true
unfolding lt
above_view top y top h l = absurd (false≢true l)
above_view top y (number k g) h l = absurd (false≢true l)
above_view (number m e) top z h l = absurd (true≢false h)
above_view (number m e) (number n d) top h l = refl
above_view (number m e) (number n d) (number k g) h l =
    ⊎_elim
    (λ y. y)
    (λ y. absurd (less (m * up e) (down e) (n * up d) (down d) (k * up g) (down g) (down_pos d) (ltb-false (m * up e * down d) (n * up d * down e) h) (ltb-true (m * up e * down g) (k * up g * down e) l) (ltb-false (n * up d * down g) (k * up g * down d) y)))
    (bool_cases (ltb (n * up d * down g) (k * up g * down d)))

-- v is not above b, and b is below c: so v is below c
pub not_above : (b v c : Float) → fine b ≡ true → fine v ≡ true → fine c ≡ true → lt b v ≡ false → lt b c ≡ true → lt v c ≡ true
not_above b v c p q r h l = above_view (view b p) (view v q) (view c r) h l

one_way_view : {x y : Float} → Fine x → Fine y → lt x y ≡ true → lt y x ≡ true → ⊥
unfolding lt
one_way_view top top a b = false≢true a
one_way_view top (number n d) a b = false≢true a
one_way_view (number m e) top a b = false≢true b
one_way_view (number m e) (number n d) a b =
    let y = ltb-true (m * up e * down d) (n * up d * down e) a in
    let z = ltb-true (n * up d * down e) (m * up e * down d) b in
    omega arith

pub one_way : (x y : Float) → fine x ≡ true → fine y ≡ true → lt x y ≡ true → lt y x ≡ true → ⊥
one_way x y p q a b = one_way_view (view x p) (view y q) a b

-- and c is not below v
pub not_below : (b v c : Float) → fine b ≡ true → fine v ≡ true → fine c ≡ true → lt b v ≡ false → lt b c ≡ true → lt c v ≡ false
not_below b v c p q r h l = ⊎_elim (λ y. absurd (one_way v c q r (not_above b v c p q r h l) y)) (λ y. y) (bool_cases (lt c v))
