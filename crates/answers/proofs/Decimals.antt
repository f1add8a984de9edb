-- The usual settings are the doubles nearest to their decimals: `round` gives the value of a format that is nearest to a fraction. Assumes nothing.
use mathlib.Core.Path.{◌≡◌, refl}
use mathlib.Core.Bool.{false}
use lib.Ieee.{binary64, of_bits, round}
use Rattle.answers.specs.Settings.{usual_damping, usual_tolerance}

pub damping_nearest : usual_damping ≡ round binary64 false 85 100
unfolding of_bits round
damping_nearest = refl

pub tolerance_nearest : usual_tolerance ≡ round binary64 false 1 1000000
unfolding of_bits round
tolerance_nearest = refl
