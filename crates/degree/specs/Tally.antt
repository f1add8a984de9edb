-- The walk that counts ends in the scores themselves. Definitions only.
use mathlib.Core.List.{List, [], ◌∷◌, foldl}
use Rattle.std.specs.Prelude.{ℕ, ◌-◌, ◌≤◌, ◌<◌, length, get_or, set, take, drop, Float}
use Rattle.std.specs.Float.{binary64, nan}
use Rattle.std.specs.Float.Ieee.{add}
use Rattle.regions.specs.Doubles.{one}

-- the scores with one more at v
abbrev pub plus_one : List Float → ℕ → List Float
plus_one w v = set w v (add binary64 (get_or w v nan) one)

-- the scores with one more at each of the first `many` ends
unfoldable pub tally : List ℕ → ℕ → List Float → List Float
tally ends many w = foldl plus_one w (take many ends)

-- both ends of each edge, one edge after the other
unfoldable pub in_turn : List ℕ → List ℕ → List ℕ
in_turn [] ts = []
in_turn (f ∷ fs) [] = []
in_turn (f ∷ fs) (t ∷ ts) = f ∷ t ∷ in_turn fs ts

-- the scores with one more at both ends of the first `many` edges
unfoldable pub pair_tally : List ℕ → List ℕ → ℕ → List Float → List Float
pair_tally fs ts many w = foldl plus_one w (in_turn (take many fs) (take many ts))

-- the scores with one more at both ends of the edges from `first` to before `end`
abbrev pub pairs_from : List ℕ → List ℕ → ℕ → ℕ → List Float → List Float
pairs_from fs ts first end w = pair_tally (drop first fs) (drop first ts) (end - first) w

-- what a walk over the first `many` ends asks: there are so many, and each has a score
pub record TallyPre (ends : List ℕ) (many : ℕ) (w : List Float) : Type 0 where
  pub some : many ≤ length ends
  pub inside : (i : ℕ) → i < many → get_or ends i 0 < length w
