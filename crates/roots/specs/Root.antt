-- The square root of a double (IEEE 754, 5.4.1): what it is, and how it is worked out. Definitions only.
use Rattle.std.specs.Prelude.{ℕ, zero, suc, ◌+◌, ◌-◌, ◌*◌, ◌/◌, ◌%◌, ◌^◌, ◌<◌, ◌≡◌, true, false, cond, T, leb, Float}
use Rattle.std.specs.Int.Count.{count_leading_zeros}
use Rattle.std.specs.Float.{nan, inf, fin, binary64}
use Rattle.std.specs.Float.Ieee.{up, down, fits, of_bits, to_bits}
use Rattle.std.specs.Float.Ieee.Scale.{finite}
use Rattle.std.specs.Float.Ieee.Positive.{positive}
use Rattle.roots.specs.Fields.{exponent_of, fraction_of}

-- ---- what a root is

-- the size of a finite x, counted in the smallest double: |x| is 2 ^ -1074 times this
abbrev pub parts : Float → ℕ
parts nan = 0
parts (inf s) = 0
parts (fin s m e) = m * up e * 2 ^ 1074 / down e

-- r, counted in parts, is the nearest to the root of n of all doubles, for an r that is a double: the middle between r and any other finite double q lies on q's side of the root.
-- It is said in squares of whole numbers: the middle is half of q + r, and 4 * n is the square of twice the root. No middle is the root, so there is no tie.
pub record IsRoot (n : ℕ) (r : Float) : Type 0 where
  pub number : T (positive r)
  pub less : (q : Float) → T (fits binary64 q) → T (finite q) → parts q < parts r → (parts q + parts r) * (parts q + parts r) < 4 * n
  pub more : (q : Float) → T (fits binary64 q) → T (finite q) → parts r < parts q → 4 * n < (parts q + parts r) * (parts q + parts r)

-- Both zeros are their own root, negatives and NaN have NaN, +infinity itself; a number above zero has the nearest double, which is above zero.
-- In parts the root of p is the root of p * 2 ^ 1074.
unfoldable pub SquareRoot : Float → Float → Type 0
SquareRoot nan r = r ≡ nan
SquareRoot (inf true) r = r ≡ nan
SquareRoot (inf false) r = r ≡ inf false
SquareRoot (fin s zero e) r = r ≡ fin s zero e
SquareRoot (fin true (suc m) e) r = r ≡ nan
SquareRoot (fin false (suc m) e) r = IsRoot (parts (fin false (suc m) e) * 2 ^ 1074) r

-- ---- the root as a function, digit by digit

-- the whole part of the root of an a below 4 ^ n
unfoldable pub isqrt : ℕ → ℕ → ℕ
isqrt zero a = 0
isqrt (suc n) a = let q = 2 * isqrt n (a / 4) in cond (leb ((q + 1) * (q + 1)) a) (q + 1) q

-- the whole number nearest to the root of a * 4 ^ 26, for an a of 53 or 54 binary digits
unfoldable pub round_root : ℕ → ℕ
round_root a = (isqrt 54 (a * 4 ^ 27) + 1) / 2

-- The double of as many parts as the root of a * 2 ^ (52 + e), for an a of 53 binary digits: half the exponent, and the rounded root, whose leading digit adds one to the exponent's field.
unfoldable pub root_at : ℕ → ℕ → Float
root_at a e = of_bits binary64 (e / 2 * 2 ^ 52 + round_root (a * 2 ^ (e % 2)))

-- The root of the double above zero with this exponent and this fraction. Its digits are brought to 53: a subnormal's by its leading zeros.
unfoldable pub root_of : ℕ → ℕ → Float
root_of zero t = let z = count_leading_zeros 64 t - 11 in root_at (t * 2 ^ z) (1022 - z)
root_of (suc e) t = root_at (2 ^ 52 + t) (e + 1022)

-- the square root of any double: the special cases of `SquareRoot`, and above zero the root of its exponent and fraction
unfoldable pub sqrt_of : Float → Float
sqrt_of nan = nan
sqrt_of (inf true) = nan
sqrt_of (inf false) = inf false
sqrt_of (fin s zero e) = fin s zero e
sqrt_of (fin true (suc m) e) = nan
sqrt_of (fin false (suc m) e) = let b = to_bits binary64 (fin false (suc m) e) in root_of (exponent_of b) (fraction_of b)
