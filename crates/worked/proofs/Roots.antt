-- P8 of document 01, the roots, computed from the definition that the contract of `sqrt` cites; and `abs` and `max` beside it. Assumes nothing.
use mathlib.Core.Path.{◌≡◌, refl}
use mathlib.Core.Bool.{true, false}
use lib.IntN.{pos, negsuc}
use lib.Count.{count_leading_zeros}
use lib.Ieee.{Float, nan, inf, fin, binary64, lt, eq, is_nan, of_bits, to_bits}
use Rattle.roots.specs.Root.{sqrt_of, root_of, root_at, round_root, isqrt}
use Rattle.roots.specs.Absolute.{abs_of}
use Rattle.roots.specs.Maximum.{max_of, under}

abbrev plus_zero : Float
plus_zero = fin false 0 (pos 0)

abbrev minus_zero : Float
minus_zero = fin true 0 (pos 0)

-- what is computed, in document 01's words
pub record P8 : Type 0 where
  -- the root of 4 is 2
  pub four : sqrt_of (fin false 1 (pos 2)) ≡ fin false 1 (pos 1)
  -- of -0 is -0
  pub minus_nought : sqrt_of minus_zero ≡ minus_zero
  -- of 2 ^ -1074 is 2 ^ -537
  pub smallest : sqrt_of (fin false 1 (negsuc 1073)) ≡ fin false 1 (negsuc 536)

pub p8 : P8
unfolding sqrt_of root_of root_at round_root isqrt count_leading_zeros of_bits to_bits
p8 = record { four = refl; minus_nought = refl; smallest = refl }

-- ---- beside the table

-- an inexact root, the largest double's, and the roots that are no numbers
two : sqrt_of (fin false 1 (pos 1)) ≡ of_bits binary64 0x3ff6_a09e_667f_3bcd
unfolding sqrt_of root_of root_at round_root isqrt count_leading_zeros of_bits to_bits
two = refl

largest : sqrt_of (of_bits binary64 0x7fef_ffff_ffff_ffff) ≡ of_bits binary64 0x5fef_ffff_ffff_ffff
unfolding sqrt_of root_of root_at round_root isqrt count_leading_zeros of_bits to_bits
largest = refl

minus_four : sqrt_of (fin true 1 (pos 2)) ≡ nan
unfolding sqrt_of
minus_four = refl

-- `max` at a NaN on either side, and at two zeros in either order
beside_nan : max_of nan minus_zero ≡ minus_zero
unfolding max_of under lt eq is_nan
beside_nan = refl

nan_beside : max_of minus_zero nan ≡ minus_zero
unfolding max_of under lt eq is_nan
nan_beside = refl

zeros : max_of minus_zero plus_zero ≡ plus_zero
unfolding max_of under lt eq is_nan
zeros = refl

zeros_turned : max_of plus_zero minus_zero ≡ plus_zero
unfolding max_of under lt eq is_nan
zeros_turned = refl

minus_infinity : abs_of (inf true) ≡ inf false
minus_infinity = refl
