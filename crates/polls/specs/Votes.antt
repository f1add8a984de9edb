-- One election: the votes, the first highest score, and what a neighbour of the elected loses (document 01, "VoteRank"). Definitions only.
use Rattle.std.specs.Prelude.{Bool, not, ◌&&◌, cond, ℕ, zero, suc, eqb, get_or, set, Float}
use mathlib.Core.List.{List, foldl}
use Rattle.std.specs.Float.{binary64, nan}
use Rattle.std.specs.Float.Ieee.{add, sub, lt}
use Rattle.regions.specs.Region.{zero_f}
use Rattle.roots.specs.Maximum.{max_of}
use Rattle.graph.specs.Edges.{Edge}

-- what v has after one edge more: from gains to's ability, undirected also the reverse
abbrev pub gains : Bool → (ℕ → Float) → ℕ → Float → Edge → Float
gains directed ability v sum e =
    let first = cond (eqb e.from v) (add binary64 sum (ability e.to)) sum in
    cond (not directed && eqb e.to v) (add binary64 first (ability e.from)) first

-- the votes for v: the edges in list order, self-loops included
unfoldable pub votes : Bool → (ℕ → Float) → List Edge → ℕ → Float
votes directed ability es v = foldl (gains directed ability v) zero_f es

-- of the nodes 0 to k the first with the highest score
unfoldable pub first_highest : (ℕ → Float) → ℕ → ℕ
first_highest score zero = 0
first_highest score (suc k) = let b = first_highest score k in cond (lt (score b) (score (suc k))) (suc k) b

-- an entry u of the elected node's row loses the decay, not below 0
abbrev pub weaker : Float → List Float → ℕ → List Float
weaker decay a u = set a u (max_of (sub binary64 (get_or a u nan) decay) zero_f)
