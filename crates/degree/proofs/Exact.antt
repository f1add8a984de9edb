-- Adding 1.0 to a whole number up to 2^53 gives the next whole number, unrounded. Assumes nothing.
use mathlib.Core.Path.{◌≡◌, refl, ap, ◌∙◌}
use mathlib.Core.Bool.{false, true, true≢false}
use Prim.Native.Nat.{ℕ, ◌+◌, ◌*◌, ◌^◌, ◌≤◌}
use native.Mathlib.Omega.{arith}
use lib.IntN.{pos}
use lib.Ieee.{Float, Format, binary64, fin, inf, nan, up, down, round, sum, add, of_int, of_bits}
use lib.Ieee.Exact.{HasValue}
use lib.Ieee.Back.{round_whole}
use lib.Ieee.Fits.{down_pos}
use lib.Ieee.Scale.{round_same}
use Rattle.regions.specs.Doubles.{one}

abbrev unit : Float
unit = fin false 1 (pos 0)

one_is : one ≡ unit
unfolding of_bits
one_is = refl

-- x is the whole number k
plus_unit : (f : Format) (x : Float) (k : ℕ) → HasValue x false k 1 → add f x unit ≡ round f false (k + 1) 1
unfolding add sum
plus_unit f nan k v = absurd v
plus_unit f (inf s) k v = absurd v
plus_unit f (fin true m e) k v = absurd (true≢false v.0)
plus_unit f (fin false m e) k v = round_same f false (m * up e * 1 + 1 * 1 * down e) (down e * 1) (k + 1) 1 (omega (arith, down_pos e)) (omega arith) (same (m * up e) (down e) v.1)
  where
    same : (a d : ℕ) → a * 1 ≡ k * d → (a * 1 + 1 * 1 * d) * 1 ≡ (k + 1) * (d * 1)
    same a d h = omega (arith, h)

pub one_more : (k : ℕ) → k ≤ 2 ^ 53 → add binary64 (of_int binary64 (pos k)) one ≡ of_int binary64 (pos (k + 1))
unfolding of_int
one_more k l = ap (add binary64 (round binary64 false k 1)) one_is ∙ plus_unit binary64 (round binary64 false k 1) k (round_whole binary64 false k l)
