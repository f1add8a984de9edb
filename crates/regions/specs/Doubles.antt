-- Doubles that the measures compute with, by name. Definitions only.
use Rattle.std.specs.Prelude.{ℕ, pos, Float}
use Rattle.std.specs.Float.{binary64}
use Rattle.std.specs.Float.Ieee.{of_bits, of_int}

-- 1.0
abbrev pub one : Float
one = of_bits binary64 0x3ff0_0000_0000_0000

-- 2.0
abbrev pub two : Float
two = of_bits binary64 0x4000_0000_0000_0000

-- a whole number in its nearest double
abbrev pub double : ℕ → Float
double n = of_int binary64 (pos n)
