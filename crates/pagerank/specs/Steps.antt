-- What the steps of PageRank promise each other. Definitions only.
use Rattle.std.specs.Prelude.{◌≡◌, ℕ, ◌<◌, Bool, true, false, List, Float}
use Rattle.std.specs.Float.Ieee.{eq}
use Rattle.regions.specs.Region.{zero_f}
use Rattle.rounds.specs.Vectors.{entry}

-- if none is true, no out-weight of n nodes is zero
pub record NoneDangles (n : ℕ) (none : Bool) (outs : List Float) : Type 0 where
  pub sure : none ≡ true → (i : ℕ) → i < n → eq (entry outs i) zero_f ≡ false
