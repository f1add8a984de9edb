-- The 64 bits of a double, split into sign, exponent and fraction (IEEE 754, 3.4). Definitions only.
use Rattle.std.specs.Prelude.{ℕ, ◌/◌, ◌%◌, ◌^◌}

-- the highest bit: 1 is negative
abbrev pub sign_of : ℕ → ℕ
sign_of b = b / 2 ^ 63

-- the 11 bits below it: 0 for zeros and subnormals, 2047 for infinities and NaNs
abbrev pub exponent_of : ℕ → ℕ
exponent_of b = b / 2 ^ 52 % 2 ^ 11

-- the 52 bits below those: the binary digits after the leading one
abbrev pub fraction_of : ℕ → ℕ
fraction_of b = b % 2 ^ 52
