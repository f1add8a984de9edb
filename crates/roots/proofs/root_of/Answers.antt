-- `roots::root_of` meets its contract. Assumes nothing.
use Prim.Native.Nat.{ℕ, zero, suc, ◌<◌, ◌-◌, ◌+◌, ◌*◌, ◌%◌, ◌^◌}
use mathlib.Core.Path.{◌≡◌, refl, sym, ap, ◌∙◌, subst}
use native.Mathlib.Nat.{mod-eq_of_lt}
use native.Mathlib.Omega.{arith}
use lib.Count.{count_leading_zeros}
use Rattle.roots.specs.Root.{root_at, root_of}
use Rattle.roots.proofs.Lifted.{Lifted, lifted}
use Rattle.roots.proofs.root_of.Goals as goal
use Rattle.roots.proofs.root_of.Goals.{Then-exponent-eq0}

low-root : (e t : ℕ) → e ≡ 0 → Lifted t (count_leading_zeros 64 t - 11) → root_at (t * 2 ^ (count_leading_zeros 64 t - 11) % 2 ^ 64) (1022 - (count_leading_zeros 64 t - 11)) ≡ root_of e t
unfolding root_of
low-root e t h l =
    let z = count_leading_zeros 64 t - 11 in
    let u : t * 2 ^ z < 2 ^ 64 = omega (arith, l.to) in
    subst (λ (x : ℕ). root_at (t * 2 ^ z % 2 ^ 64) (1022 - z) ≡ root_of x t) (sym h) (ap (λ (x : ℕ). root_at x (1022 - z)) (mod-eq_of_lt u))

high-root : (e t : ℕ) → (e ≡ 0 → ⊥) → root_at (t + 2 ^ 52) (e + 1021) ≡ root_of e t
unfolding root_of
high-root zero t h = absurd (h refl)
high-root (suc e) t h =
    let d : t + 2 ^ 52 ≡ 2 ^ 52 + t = omega arith in
    let k : suc e + 1021 ≡ e + 1022 = omega arith in
    ap (λ (x : ℕ). root_at x (suc e + 1021)) d ∙ ap (λ (x : ℕ). root_at (2 ^ 52 + t) x) k

-- in the first arm
up : (c : goal.Then-exponent-eq0) → Lifted c.args.fraction (count_leading_zeros 64 c.args.fraction - 11)
up c = lifted c.args.fraction (omega arith) c.requires.1

pub overflow_sub-zeros : goal.overflow_sub-zeros
overflow_sub-zeros c = omega (arith, (up (goal.at.overflow_sub-zeros c).Then-exponent-eq0).zeros)

pub root_at-requires : goal.root_at-requires
root_at-requires c = omega (arith, (up (goal.at.root_at-requires c).Then-exponent-eq0).from, (up (goal.at.root_at-requires c).Then-exponent-eq0).to, (up (goal.at.root_at-requires c).Then-exponent-eq0).few)

pub returns-then-exponent-eq0 : goal.returns-then-exponent-eq0
returns-then-exponent-eq0 c =
    let a = c.args in
    c.root_at.ensures ∙ low-root a.exponent a.fraction c.if-exponent-eq0.true (up (goal.at.returns-then-exponent-eq0 c).Then-exponent-eq0)

pub returns-else-exponent-eq0 : goal.returns-else-exponent-eq0
returns-else-exponent-eq0 c =
    let a = c.args in
    c.root_at-else-exponent-eq0.ensures ∙ high-root a.exponent a.fraction c.if-exponent-eq0.false
