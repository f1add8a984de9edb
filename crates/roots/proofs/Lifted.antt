-- Digits brought to 53, a subnormal's by its leading zeros: `root_of` is right. Assumes nothing.
use Prim.Native.Nat.{ℕ, zero, suc, ◌≤◌, ◌<◌, ◌-◌, ◌+◌, ◌*◌, ◌^◌}
use mathlib.Core.Path.{◌≡◌, sym, ap, ◌∙◌, subst}
use native.Mathlib.Nat.{le_trans, le_of_eq, lt_of_le_of_lt, lt_of_lt_of_le, lt_of_not-le, lt_irrefl, mul_assoc, mul-le-mul_right, mul-lt-mul_of_pos_right}
use native.Mathlib.Omega.{arith}
use lib.Pow.{pow-add, pow_pos, pow_mono}
use lib.Count.{count_leading_zeros, leading_top}
use Rattle.roots.specs.Root.{IsRoot, root_at, root_of}
use Rattle.roots.proofs.Nearest.{root_at_is}

pow_lt_back : (i p : ℕ) → 2 ^ i < 2 ^ p → i < p
pow_lt_back i p h = lt_of_not-le (λ (g : p ≤ i). lt_irrefl (2 ^ i) (lt_of_lt_of_le h (pow_mono g)))

-- a subnormal's digits, brought up to 53
pub record Lifted (t z : ℕ) : Type 0 where
  pub zeros : z + 11 ≡ count_leading_zeros 64 t
  pub few : z ≤ 52
  pub from : 2 ^ 52 ≤ t * 2 ^ z
  pub to : t * 2 ^ z < 2 ^ 53

pub lifted : (t : ℕ) → 0 < t → t < 2 ^ 52 → Lifted t (count_leading_zeros 64 t - 11)
lifted t p h =
    let w : t < 2 ^ 64 = omega arith in
    let l = leading_top 64 t p w in
    let j = l.0 in
    let J : j < 52 = pow_lt_back j 52 (lt_of_le_of_lt l.2 h) in
    let e : count_leading_zeros 64 t - 11 ≡ 52 - j = omega (arith, l.1) in
    let a : j + (52 - j) ≡ 52 = omega arith in
    let a' : suc j + (52 - j) ≡ 53 = omega arith in
    subst (λ (z : ℕ). Lifted t z) (sym e)
    (record {
      zeros = omega (arith, l.1);
      few = omega arith;
      from = le_trans (le_of_eq (ap (λ (x : ℕ). 2 ^ x) (sym a) ∙ pow-add 2 j (52 - j))) (mul-le-mul_right (2 ^ (52 - j)) l.2);
      to = lt_of_lt_of_le (mul-lt-mul_of_pos_right l.3 (pow_pos (52 - j))) (le_of_eq (sym (pow-add 2 (suc j) (52 - j)) ∙ ap (λ (x : ℕ). 2 ^ x) a'));
    })

-- the parts of the double above zero with this exponent and this fraction
unfoldable pub parts_of : ℕ → ℕ → ℕ
parts_of zero t = t
parts_of (suc e) t = (2 ^ 52 + t) * 2 ^ e

pub root_of_is : (e t : ℕ) → e < 2047 → t < 2 ^ 52 → 0 < e + t → IsRoot (parts_of e t * 2 ^ 1074) (root_of e t)
unfolding root_of parts_of
root_of_is zero t E H p =
    let z = count_leading_zeros 64 t - 11 in
    let q : 0 < t = omega arith in
    let l = lifted t q H in
    let s : z + (52 + (1022 - z)) ≡ 1074 = omega (arith, l.few) in
    let n : t * 2 ^ z * 2 ^ (52 + (1022 - z)) ≡ t * 2 ^ 1074 =
    mul_assoc t (2 ^ z) (2 ^ (52 + (1022 - z))) ∙ ap (λ (x : ℕ). t * x) (sym (pow-add 2 z (52 + (1022 - z))) ∙ ap (λ (x : ℕ). 2 ^ x) s) in
    subst (λ (x : ℕ). IsRoot x (root_at (t * 2 ^ z) (1022 - z))) n (root_at_is (t * 2 ^ z) (1022 - z) l.from l.to (omega arith))
root_of_is (suc e) t E H p =
    let s : 52 + (e + 1022) ≡ e + 1074 = omega arith in
    let n : (2 ^ 52 + t) * 2 ^ (52 + (e + 1022)) ≡ (2 ^ 52 + t) * 2 ^ e * 2 ^ 1074 =
    ap (λ (x : ℕ). (2 ^ 52 + t) * x) (ap (λ (x : ℕ). 2 ^ x) s ∙ pow-add 2 e 1074) ∙ sym (mul_assoc (2 ^ 52 + t) (2 ^ e) (2 ^ 1074)) in
    subst (λ (x : ℕ). IsRoot x (root_at (2 ^ 52 + t) (e + 1022))) n (root_at_is (2 ^ 52 + t) (e + 1022) (omega arith) (omega arith) (omega arith))
