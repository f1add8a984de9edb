-- `roots::sqrt` meets its contract: each `return` has one sort of double, told by its three fields. Assumes nothing.
use Prim.Native.Nat.{ℕ, ◌-◌, ◌/◌, ◌^◌}
use mathlib.Core.Path.{◌≡◌, sym, subst, ap, ◌∙◌}
use mathlib.Core.Bool.{not}
use native.Mathlib.Omega.{arith}
use lib.Bits.{bit_and, and_mask}
use lib.Dec.{T}
use lib.Ieee.{Float, binary64, fits, is_nan, to_bits, of_bits, div}
use lib.Ieee.Bits.{to_bits-lt}
use Rattle.roots.specs.Fields.{exponent_of, fraction_of}
use Rattle.roots.specs.Root.{SquareRoot, root_of, sqrt_of}
use Rattle.roots.proofs.Absolute.{nan_of, small_bits}
use Rattle.roots.proofs.Sorts.{nan_root, Zero, zero_root, less_root, inf_root, left_over, Above, above_root, sqrt_of_is}
use Rattle.roots.proofs.sqrt.Goals as goal
use Rattle.roots.proofs.sqrt.Goals.{Else-exponent-eq-EXPONENT, Else-exponent-fraction-eq0, Else-is_nan, Start}

held : (c : goal.Start) → T (fits binary64 c.args.x)
held c = subst T (sym c.well_formed.0.1) tt

-- what is returned is `sqrt_of x`, so it is the root
both : (c : goal.Start) (r : Float) → r ≡ sqrt_of c.args.x → (r ≡ sqrt_of c.args.x) × SquareRoot c.args.x r
both c r e = (e, subst (SquareRoot c.args.x) (sym e) (sqrt_of_is c.args.x (held c)))

-- past the first test
number : (c : goal.Else-is_nan) → T (not (is_nan c.args.x))
number c = c.if-is_nan.ensures.not_nan

-- the masks
exponent-is : (b : ℕ) → bit_and (b / 2 ^ 52) (2 ^ 11 - 1) ≡ exponent_of b
exponent-is b = and_mask (b / 2 ^ 52) 11

fraction-is : (b : ℕ) → bit_and b (2 ^ 52 - 1) ≡ fraction_of b
fraction-is b = and_mask b 52

pub returns-then-is_nan : goal.returns-then-is_nan
returns-then-is_nan c = both (goal.at.returns-then-is_nan c).Start _ (nan_root c.args.x (nan_of c.args.x c.if-is_nan.ensures.value))

pub returns-then-exponent-fraction-eq0 : goal.returns-then-exponent-fraction-eq0
returns-then-exponent-fraction-eq0 c =
    let b = to_bits binary64 c.args.x in
    both (goal.at.returns-then-exponent-fraction-eq0 c).Start _ (zero_root c.args.x (held (goal.at.returns-then-exponent-fraction-eq0 c).Start) (omega (arith, exponent-is b, fraction-is b, c.if-exponent-fraction-eq0.true)))

-- not a zero
some : (c : goal.Else-exponent-fraction-eq0) → Zero c.args.x → ⊥
some c e = let b = to_bits binary64 c.args.x in omega (arith, exponent-is b, fraction-is b, c.if-exponent-fraction-eq0.false)

pub returns-then-negative : goal.returns-then-negative
unfolding of_bits div
returns-then-negative c =
    both (goal.at.returns-then-negative c).Start _ (less_root c.args.x (held (goal.at.returns-then-negative c).Start) (number (goal.at.returns-then-negative c).Else-is_nan) (some (goal.at.returns-then-negative c).Else-exponent-fraction-eq0) c.if-negative.true)

-- the exponent 2047 has the fraction 0
pub returns-then-exponent-eq-EXPONENT : goal.returns-then-exponent-eq-EXPONENT
returns-then-exponent-eq-EXPONENT c =
    let b = to_bits binary64 c.args.x in
    both (goal.at.returns-then-exponent-eq-EXPONENT c).Start _
    (inf_root c.args.x (held (goal.at.returns-then-exponent-eq-EXPONENT c).Start)
    (omega (arith, exponent-is b, c.if-exponent-eq-EXPONENT.true, c.if-negative.false, to_bits-lt binary64 c.args.x (held (goal.at.returns-then-exponent-eq-EXPONENT c).Start), small_bits c.args.x (held (goal.at.returns-then-exponent-eq-EXPONENT c).Start) (number (goal.at.returns-then-exponent-eq-EXPONENT c).Else-is_nan))))

-- past all the tests
above : (c : goal.Else-exponent-eq-EXPONENT) → Above c.args.x
above c =
    let b = to_bits binary64 c.args.x in
    left_over c.args.x (held c.before.before.before.before.before) (number c.before.before.before) (some c.before.before) c.if-negative.false
    (λ t. c.if-exponent-eq-EXPONENT.false (omega (arith, exponent-is b)))

pub returns : goal.returns
returns c =
    let b = to_bits binary64 c.args.x in
    both (goal.at.returns c).Start c.root_of.result
    (c.root_of.ensures
    ∙ ap (λ (e : ℕ). root_of e (bit_and b (2 ^ 52 - 1))) (exponent-is b)
    ∙ ap (λ (t : ℕ). root_of (exponent_of b) t) (fraction-is b)
    ∙ above_root c.args.x (above (goal.at.returns c).Else-exponent-eq-EXPONENT))
