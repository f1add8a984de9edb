-- A change below the tolerance forces every entry to be finite: sums, differences and products are finite only if their parts are. Assumes nothing.
use mathlib.Core.Path.{◌≡◌, refl, sym, ap, ◌∙◌}
use mathlib.Core.Logic.{⊎_elim}
use mathlib.Core.Bool.{Bool, true, false, cond, beq, true≢false}
use mathlib.Core.List.{List}
use Prim.Native.Nat.{ℕ, zero, suc, ◌<◌}
use native.Mathlib.Omega.{arith}
use lib.Dec.{T, eqb}
use lib.Ieee.{Float, nan, inf, fin, binary64, unlike, add, sub, mul, neg}
use lib.Ieee.Scale.{finite}
use Rattle.regions.specs.Region.{zero_f}
use Rattle.regions.proofs.Cases.{same_or_not}
use Rattle.roots.proofs.Finite.{root_less}
use Rattle.rounds.specs.Rounds.{after}
use Rattle.rounds.specs.Vectors.{entry, squared, with_change, squared_change, settles}

-- nothing is both false and true
pub never : {A : Type 0} → false ≡ true → A
never e = absurd (true≢false (sym e))

infinite_sum : (s t : Bool) → finite (cond (beq s t) (inf s) nan) ≡ true → ⊥
infinite_sum true true e = never e
infinite_sum true false e = never e
infinite_sum false true e = never e
infinite_sum false false e = never e

infinite_product : (b s : Bool) → finite (cond b nan (inf s)) ≡ true → ⊥
infinite_product true s e = never e
infinite_product false s e = never e

-- a finite sum has finite terms
pub sum_finite : (x y : Float) → finite (add binary64 x y) ≡ true → (finite x ≡ true) × (finite y ≡ true)
unfolding add
sum_finite nan y e = never e
sum_finite (inf s) nan e = never e
sum_finite (inf s) (inf t) e = absurd (infinite_sum s t e)
sum_finite (inf s) (fin t n d) e = never e
sum_finite (fin s m k) nan e = never e
sum_finite (fin s m k) (inf t) e = never e
sum_finite (fin s m k) (fin t n d) e = (refl, refl)

-- a finite product has finite factors
pub product_finite : (x y : Float) → finite (mul binary64 x y) ≡ true → (finite x ≡ true) × (finite y ≡ true)
unfolding mul
product_finite nan y e = never e
product_finite (inf s) nan e = never e
product_finite (inf s) (inf t) e = never e
product_finite (inf s) (fin t n d) e = absurd (infinite_product (eqb n 0) (unlike s t) e)
product_finite (fin s m k) nan e = never e
product_finite (fin s m k) (inf t) e = absurd (infinite_product (eqb m 0) (unlike s t) e)
product_finite (fin s m k) (fin t n d) e = (refl, refl)

-- a finite difference is one of finite numbers
pub difference_finite : (x y : Float) → finite (sub binary64 x y) ≡ true → finite x ≡ true
unfolding sub
difference_finite x y e = (sum_finite x (neg y) e).0

-- a finite summed squared change from x to y leaves every entry of y finite
pub change_finite : (n : ℕ) (x y : List Float) → finite (after (with_change x y) n zero_f) ≡ true → (i : ℕ) → i < n → finite (entry y i) ≡ true
unfolding after
change_finite zero x y e i l = absurd (omega arith)
change_finite (suc n) x y e i l =
    let sum = after (with_change x y) n zero_f in
    let d = sub binary64 (entry y n) (entry x n) in
    let parts = sum_finite sum (squared d) e in
    ⊎_elim
    (λ q. ap (λ (k : ℕ). finite (entry y k)) q ∙ difference_finite (entry y n) (entry x n) (product_finite d d parts.1).0)
    (λ q. change_finite n x y parts.0 i (omega arith))
    (same_or_not i n)

of_t : (b : Bool) → T b → b ≡ true
of_t true t = refl
of_t false t = absurd t

-- the stop rule, met by y, leaves every entry of y finite
pub settles_finite : (tolerance : Float) (n : ℕ) (x y : List Float) → settles tolerance n x y ≡ true → (i : ℕ) → i < n → finite (entry y i) ≡ true
unfolding settles squared_change
settles_finite tolerance n x y e i l = change_finite n x y (of_t _ (root_less (after (with_change x y) n zero_f) tolerance e)) i l
