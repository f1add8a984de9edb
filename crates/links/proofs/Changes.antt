-- A summed absolute change below some number leaves every entry finite: a sum of absolute values is no negative number. Assumes nothing.
use Rattle.std.proofs.Common.{◌≡◌, ℕ, zero, suc, ◌+◌, ◌*◌, ◌^◌, ◌<◌, Bool, true, false, cond, not, ltb, List, refl, ap, ◌∙◌, ⊎_elim, arith}
use lib.Ieee.{Float, Format, nan, inf, fin, binary64, prec, low, emax, up, down, odd, units, round, sum, add, sub, mul, neg, lt}
use lib.Ieee.Scale.{finite}
use Rattle.regions.specs.Doubles.{double}
use Rattle.roots.specs.Absolute.{abs_of}
use Rattle.regions.specs.Region.{zero_f}
use Rattle.regions.proofs.Cases.{same_or_not}
use Rattle.rounds.specs.Rounds.{after}
use Rattle.rounds.specs.Vectors.{entry}
use Rattle.rounds.proofs.Finite.{never, sum_finite}
use Rattle.links.specs.Links.{with_change, absolute_change, settles}

-- ---- no minus sign
abbrev unsigned : Float → Bool
unsigned nan = true
unsigned (inf s) = not s
unsigned (fin s m e) = not s

odd_unsigned : (d q k l : ℕ) → unsigned (odd d false q k l) ≡ true
unfolding odd
odd_unsigned d zero k l = refl
odd_unsigned d (suc q) k l = refl

units_unsigned : (f : Format) (q k : ℕ) → unsigned (units f false q k) ≡ true
unfolding units
units_unsigned f q k = by (ltb (q * 2 ^ k) (2 ^ (low f + suc (emax f))))
  where
    by : (b : Bool) → unsigned (cond b (odd (suc (prec f)) false q k (low f)) (inf false)) ≡ true
    by true = odd_unsigned (suc (prec f)) q k (low f)
    by false = refl

round_unsigned : (f : Format) (a c : ℕ) → unsigned (round f false a c) ≡ true
unfolding round
round_unsigned f a c = units_unsigned f _ _

sum_unsigned : (x y : Float) → unsigned x ≡ true → unsigned y ≡ true → unsigned (add binary64 x y) ≡ true
unfolding add sum
sum_unsigned nan y p q = refl
sum_unsigned (inf s) nan p q = refl
sum_unsigned (inf true) (inf t) p q = never p
sum_unsigned (inf false) (inf true) p q = never q
sum_unsigned (inf false) (inf false) p q = refl
sum_unsigned (inf s) (fin t n d) p q = p
sum_unsigned (fin s m k) nan p q = refl
sum_unsigned (fin s m k) (inf t) p q = q
sum_unsigned (fin true m k) (fin t n d) p q = never p
sum_unsigned (fin false m k) (fin true n d) p q = never q
sum_unsigned (fin false m k) (fin false n d) p q = round_unsigned binary64 (m * up k * down d + n * up d * down k) (down k * down d)

abs_unsigned : (x : Float) → unsigned (abs_of x) ≡ true
abs_unsigned nan = refl
abs_unsigned (inf s) = refl
abs_unsigned (fin s m e) = refl

change_unsigned : (n : ℕ) (x y : List Float) → unsigned (after (with_change x y) n zero_f) ≡ true
unfolding after
change_unsigned zero x y = refl
change_unsigned (suc n) x y =
    sum_unsigned (after (with_change x y) n zero_f) (abs_of (sub binary64 (entry x n) (entry y n))) (change_unsigned n x y) (abs_unsigned (sub binary64 (entry x n) (entry y n)))

-- what is no negative number, and below another, is finite
below_finite : (x y : Float) → unsigned x ≡ true → lt x y ≡ true → finite x ≡ true
unfolding lt
below_finite nan y p q = never q
below_finite (inf true) y p q = never p
below_finite (inf false) nan p q = never q
below_finite (inf false) (inf t) p q = never q
below_finite (inf false) (fin t n d) p q = never q
below_finite (fin s m e) y p q = refl

-- ---- finite parts
abs_finite : (x : Float) → finite (abs_of x) ≡ true → finite x ≡ true
abs_finite nan e = e
abs_finite (inf s) e = never e
abs_finite (fin s m k) e = refl

neg_finite : (x : Float) → finite (neg x) ≡ true → finite x ≡ true
unfolding neg
neg_finite nan e = e
neg_finite (inf s) e = never e
neg_finite (fin s m k) e = refl

taken_finite : (x y : Float) → finite (sub binary64 x y) ≡ true → finite y ≡ true
unfolding sub
taken_finite x y e = neg_finite y (sum_finite x (neg y) e).1

change_finite : (n : ℕ) (x y : List Float) → finite (after (with_change x y) n zero_f) ≡ true → (i : ℕ) → i < n → finite (entry y i) ≡ true
unfolding after
change_finite zero x y e i l = absurd (omega arith)
change_finite (suc n) x y e i l =
    let parts = sum_finite (after (with_change x y) n zero_f) (abs_of (sub binary64 (entry x n) (entry y n))) e in
    ⊎_elim
    (λ q. ap (λ (k : ℕ). finite (entry y k)) q ∙ taken_finite (entry x n) (entry y n) (abs_finite (sub binary64 (entry x n) (entry y n)) parts.1))
    (λ q. change_finite n x y parts.0 i (omega arith))
    (same_or_not i n)

-- the stop rule, met by y, leaves every entry of y finite
pub settles_finite : (tolerance : Float) (n : ℕ) (x y : List Float) → settles tolerance n x y ≡ true → (i : ℕ) → i < n → finite (entry y i) ≡ true
unfolding settles absolute_change
settles_finite tolerance n x y e i l =
    change_finite n x y (below_finite (after (with_change x y) n zero_f) (mul binary64 tolerance (double n)) (change_unsigned n x y) e) i l
