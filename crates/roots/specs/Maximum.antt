-- The greater of two doubles (IEEE 754-2019, maximumNumber). Definitions only.
use Rattle.std.specs.Prelude.{Bool, false, ◌&&◌, ◌||◌, cond, Float}
use Rattle.std.specs.Float.{nan, inf, fin}
use Rattle.std.specs.Float.Ieee.{lt, eq, is_nan}

-- whether the sign is negative; a NaN has none here
abbrev pub negative : Float → Bool
negative nan = false
negative (inf s) = s
negative (fin s m e) = s

-- x lies below y: it is less, or they are equal and x is negative, which puts -0.0 below +0.0 and changes nothing else
unfoldable pub under : Float → Float → Bool
under x y = lt x y || (eq x y && negative x)

-- the one that does not lie below the other; beside a NaN the other one, and NaN for two NaNs
unfoldable pub max_of : Float → Float → Float
unfolding under
max_of x y = cond (is_nan x || under x y) y x
