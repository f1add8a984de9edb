-- No second outcome meets the contract of `sqrt`, `abs` or `max`. Assumes nothing.
use Prim.Native.Nat.{ℕ, zero, suc, ◌*◌, ◌^◌, ◌<◌}
use mathlib.Core.Path.{◌≡◌, sym, ap, ◌∙◌, subst}
use mathlib.Core.Bool.{true, false}
use native.Mathlib.Nat.{add_comm, lt_irrefl, lt_trans}
use native.Mathlib.Omega.{arith}
use lib.Dec.{T}
use lib.Ieee.{Float, nan, inf, fin, binary64, fits, to_bits, of_bits}
use lib.Ieee.Bits.{of_bits-to_bits}
use lib.Ieee.Positive.{positive, positive-finite}
use Rattle.roots.specs.Root.{IsRoot, SquareRoot, parts}
use Rattle.roots.specs.Absolute.{abs_of}
use Rattle.roots.specs.Maximum.{max_of}

-- two doubles above zero of the same size
same_bits : (r s : Float) → T (positive r) → T (positive s) → parts r ≡ parts s → to_bits binary64 r ≡ to_bits binary64 s
unfolding to_bits
same_bits nan s p q e = absurd p
same_bits (inf t) s p q e = absurd p
same_bits (fin true m d) s p q e = absurd p
same_bits (fin false m d) nan p q e = absurd q
same_bits (fin false m d) (inf t) p q e = absurd q
same_bits (fin false m d) (fin true n f) p q e = absurd q
same_bits (fin false m d) (fin false n f) p q e = rw e

one_root : (n : ℕ) (r s : Float) → T (fits binary64 r) → T (fits binary64 s) → IsRoot n r → IsRoot n s → r ≡ s
one_root n r s f g R S = sym (of_bits-to_bits binary64 r f) ∙ ap (of_bits binary64) (same_bits r s R.number S.number level) ∙ of_bits-to_bits binary64 s g
  where
    no_less : (r s : Float) → T (fits binary64 r) → T (fits binary64 s) → IsRoot n r → IsRoot n s → parts r < parts s → ⊥
    no_less r s f g R S h =
        lt_irrefl (4 * n) (lt_trans (R.more s g (positive-finite s S.number) h)
        (subst (λ (x : ℕ). x * x < 4 * n) (add_comm (parts r) (parts s)) (S.less r f (positive-finite r R.number) h)))

    level : parts r ≡ parts s
    level = let a = no_less r s f g R S in let b = no_less s r g f S R in omega arith

-- ---- the three calls

-- the sign included: the root of a number above zero is above zero
pub sqrt_unique : (x r s : Float) → T (fits binary64 r) → T (fits binary64 s) → SquareRoot x r → SquareRoot x s → r ≡ s
unfolding SquareRoot
sqrt_unique nan r s f g R S = R ∙ sym S
sqrt_unique (inf true) r s f g R S = R ∙ sym S
sqrt_unique (inf false) r s f g R S = R ∙ sym S
sqrt_unique (fin t zero e) r s f g R S = R ∙ sym S
sqrt_unique (fin true (suc m) e) r s f g R S = R ∙ sym S
sqrt_unique (fin false (suc m) e) r s f g R S = one_root (parts (fin false (suc m) e) * 2 ^ 1074) r s f g R S

pub abs_unique : (x : Float) {r s : Float} → r ≡ abs_of x → s ≡ abs_of x → r ≡ s
abs_unique x R S = R ∙ sym S

pub max_unique : (x y : Float) {r s : Float} → r ≡ max_of x y → s ≡ max_of x y → r ≡ s
max_unique x y R S = R ∙ sym S
