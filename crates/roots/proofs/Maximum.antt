-- The greater of two doubles, by the tests that lead to it. Assumes nothing.
use Prim.Native.Nat.{ℕ, ◌+◌, ◌*◌}
use mathlib.Core.Path.{◌≡◌, refl, sym, ap, ◌∙◌}
use mathlib.Core.Logic.{◌⊎◌, inl, inr}
use mathlib.Core.Bool.{Bool, true, false, not, ◌&&◌, ◌||◌, cond, true≢false, false≢true}
use native.Mathlib.Omega.{arith}
use borrow.Author.Tests.{ltb-true, le-ltb, eqb-true}
use lib.Dec.{T, eqb}
use lib.Ieee.{Float, nan, inf, fin, up, down, below, level, lt, eq, is_nan}
use Rattle.std.specs.Float.{is_sign_negative}
use Rattle.roots.specs.Maximum.{negative, under, max_of}

-- ---- each test settles one part of `max_of`
or_true : (a : Bool) → (a || true) ≡ true
or_true true = refl
or_true false = refl

pub max_less : (x y : Float) → lt x y ≡ true → y ≡ max_of x y
unfolding max_of under
max_less x y l = sym (ap (λ (t : Bool). cond (is_nan x || (t || (eq x y && negative x))) y x) l ∙ ap (λ (t : Bool). cond t y x) (or_true (is_nan x)))

pub max_nan : (x y : Float) → true ≡ is_nan x → y ≡ max_of x y
unfolding max_of
max_nan x y e = ap (λ (t : Bool). cond (t || under x y) y x) e

-- a number that is not below y
not_below : (x y : Float) → T (not (is_nan x)) → under x y ≡ false → x ≡ max_of x y
unfolding max_of is_nan
not_below nan y n u = absurd n
not_below (inf s) y n u = sym (ap (λ (t : Bool). cond t y (inf s)) u)
not_below (fin s m e) y n u = sym (ap (λ (t : Bool). cond t y (fin s m e)) u)

under_is : (x y : Float) (t u : Bool) → lt x y ≡ false → eq x y ≡ t → negative x ≡ u → under x y ≡ (t && u)
unfolding under
under_is x y t u l e s = ap (λ (b : Bool). b || (eq x y && negative x)) l ∙ ap (λ (b : Bool). b && negative x) e ∙ ap (λ (b : Bool). t && b) s

pub max_more : (x y : Float) → T (not (is_nan x)) → lt x y ≡ false → eq x y ≡ false → x ≡ max_of x y
max_more x y n l e = not_below x y n (under_is x y false (negative x) l e refl)

-- ---- equal numbers: the sign decides
sign_is : (x : Float) → is_sign_negative x ≡ negative x
unfolding is_sign_negative
sign_is nan = refl
sign_is (inf s) = refl
sign_is (fin s m e) = refl

below_it : (x y : Float) → under x y ≡ true → y ≡ max_of x y
unfolding max_of
below_it x y u = sym (ap (λ (t : Bool). cond (is_nan x || t) y x) u ∙ ap (λ (t : Bool). cond t y x) (or_true (is_nan x)))

pub max_equal_negative : (x y : Float) → lt x y ≡ false → eq x y ≡ true → true ≡ is_sign_negative x → y ≡ max_of x y
max_equal_negative x y l e s = below_it x y (under_is x y true true l e (sym (s ∙ sign_is x)))

pub max_equal : (x y : Float) → T (not (is_nan x)) → lt x y ≡ false → eq x y ≡ true → false ≡ is_sign_negative x → x ≡ max_of x y
max_equal x y n l e s = not_below x y n (under_is x y true false l e (sym (s ∙ sign_is x)))

-- ---- what the greater is: one of the two, less than neither, and a NaN only if both are
test_is : Float → Float → Bool
test_is x y = is_nan x || under x y

-- it is the first or the second
pub max_either : (x y : Float) → (max_of x y ≡ x) ⊎ (max_of x y ≡ y)
unfolding max_of test_is
max_either x y = go (test_is x y) refl
  where
    go : (t : Bool) → test_is x y ≡ t → (max_of x y ≡ x) ⊎ (max_of x y ≡ y)
    go true e = inr (ap (λ (t : Bool). cond t y x) e)
    go false e = inl (ap (λ (t : Bool). cond t y x) e)

nothing_below_nan : (x : Float) → lt x nan ≡ false
unfolding lt
nothing_below_nan nan = refl
nothing_below_nan (inf s) = refl
nothing_below_nan (fin s m e) = refl

-- the other way round: what is less is not above, and neither is what is equal
below_turned : (s t : Bool) (a b : ℕ) → below s a t b ≡ true → below t b s a ≡ false
below_turned false false a b h = let l = ltb-true a b h in le-ltb b a (omega arith)
below_turned false true a b h = absurd (false≢true h)
below_turned true false a b h = refl
below_turned true true a b h = let l = ltb-true b a h in le-ltb a b (omega arith)

and_both : (p q : Bool) → (p && q) ≡ true → (p ≡ true) × (q ≡ true)
and_both true q h = (refl, h)
and_both false q h = absurd (false≢true h)

level_turned : (s t : Bool) (a b : ℕ) → level s a t b ≡ true → below t b s a ≡ false
level_turned false false a b h = let q = eqb-true a b (and_both (eqb a b) true h).0 in le-ltb b a (omega arith)
level_turned false true a b h =
    let r = and_both (eqb a b) (eqb a 0) h in
    let q = eqb-true a b r.0 in
    let z = eqb-true a 0 r.1 in
    le-ltb 0 (b + a) (omega arith)
level_turned true false a b h = refl
level_turned true true a b h = let q = eqb-true a b (and_both (eqb a b) true h).0 in le-ltb a b (omega arith)

less_turned : (x y : Float) → lt x y ≡ true → lt y x ≡ false
unfolding lt
less_turned nan y h = absurd (false≢true h)
less_turned (inf s) nan h = refl
less_turned (inf true) (inf true) h = refl
less_turned (inf true) (inf false) h = refl
less_turned (inf false) (inf t) h = absurd (false≢true h)
less_turned (inf true) (fin t n d) h = refl
less_turned (inf false) (fin t n d) h = absurd (false≢true h)
less_turned (fin s m e) nan h = refl
less_turned (fin s m e) (inf true) h = absurd (false≢true h)
less_turned (fin s m e) (inf false) h = refl
less_turned (fin s m e) (fin t n d) h = below_turned s t (m * up e * down d) (n * up d * down e) h

not_less : (x : Float) → lt x x ≡ false
not_less x = go (lt x x) refl
  where
    go : (t : Bool) → lt x x ≡ t → lt x x ≡ false
    go true l = less_turned x x l
    go false l = l

equal_turned : (x y : Float) → eq x y ≡ true → lt y x ≡ false
unfolding lt eq
equal_turned nan y h = absurd (false≢true h)
equal_turned (inf s) nan h = refl
equal_turned (inf true) (inf true) h = refl
equal_turned (inf true) (inf false) h = refl
equal_turned (inf false) (inf true) h = absurd (false≢true h)
equal_turned (inf false) (inf false) h = refl
equal_turned (inf s) (fin t n d) h = absurd (false≢true h)
equal_turned (fin s m e) nan h = absurd (false≢true h)
equal_turned (fin s m e) (inf t) h = absurd (false≢true h)
equal_turned (fin s m e) (fin t n d) h = level_turned s t (m * up e * down d) (n * up d * down e) h

under_turned : (x y : Float) → under x y ≡ true → lt y x ≡ false
unfolding under
under_turned x y = go (lt x y) refl
  where
    go : (t : Bool) → lt x y ≡ t → (t || (eq x y && negative x)) ≡ true → lt y x ≡ false
    go true l h = less_turned x y l
    go false l h = equal_turned x y (and_both (eq x y) (negative x) h).0

test_turned : (x y : Float) → test_is x y ≡ true → lt y x ≡ false
unfolding test_is is_nan
test_turned nan y h = nothing_below_nan y
test_turned (inf s) y h = under_turned (inf s) y h
test_turned (fin s m e) y h = under_turned (fin s m e) y h

or_false : (a b : Bool) → (a || b) ≡ false → (a ≡ false) × (b ≡ false)
or_false true b e = absurd (true≢false e)
or_false false b e = (refl, e)

-- it is less than neither
pub max_not_below : (x y : Float) → (lt (max_of x y) x ≡ false) × (lt (max_of x y) y ≡ false)
unfolding max_of test_is under
max_not_below x y = go (test_is x y) refl
  where
    go : (t : Bool) → test_is x y ≡ t → (lt (max_of x y) x ≡ false) × (lt (max_of x y) y ≡ false)
    go true e = (ap (λ (t : Bool). lt (cond t y x) x) e ∙ test_turned x y e, ap (λ (t : Bool). lt (cond t y x) y) e ∙ not_less y)
    go false e = (
      ap (λ (t : Bool). lt (cond t y x) x) e ∙ not_less x,
      ap (λ (t : Bool). lt (cond t y x) y) e ∙ (or_false (lt x y) (eq x y && negative x) (or_false (is_nan x) (under x y) e).1).0,
    )

number : (y x : Float) (b : Bool) → is_nan y ≡ false → is_nan x ≡ false → is_nan (cond b y x) ≡ false
number y x true p q = p
number y x false p q = q

-- it is a NaN exactly if both are
pub max_nan_both : (x y : Float) → is_nan (max_of x y) ≡ (is_nan x && is_nan y)
unfolding max_of under lt eq is_nan
max_nan_both nan y = refl
max_nan_both (inf s) nan = refl
max_nan_both (inf s) (inf t) = number (inf t) (inf s) (under (inf s) (inf t)) refl refl
max_nan_both (inf s) (fin t n d) = number (fin t n d) (inf s) (under (inf s) (fin t n d)) refl refl
max_nan_both (fin s m e) nan = refl
max_nan_both (fin s m e) (inf t) = number (inf t) (fin s m e) (under (fin s m e) (inf t)) refl refl
max_nan_both (fin s m e) (fin t n d) = number (fin t n d) (fin s m e) (under (fin s m e) (fin t n d)) refl refl
