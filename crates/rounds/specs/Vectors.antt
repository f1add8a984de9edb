-- Vectors of an iterative measure: what an edge adds, how much a round changed, and where the two vectors stand in the workspace. Definitions only.
use Rattle.std.specs.Prelude.{◌≡◌, Bool, cond, ◌||◌, List, ℕ, ◌+◌, ◌≤◌, ◌<◌, eqb, length, get_or, set, Float}
use Rattle.std.specs.Float.{nan, binary64}
use Rattle.std.specs.Float.Ieee.{add, sub, mul, lt}
use Rattle.roots.specs.Root.{sqrt_of}
use Rattle.regions.specs.Region.{zero_f, part, Front}
use Rattle.graph.specs.Layout.{scores_at, next_at}
use Rattle.rounds.specs.Rounds.{after}

-- the entry i of a vector
abbrev pub entry : List Float → ℕ → Float
entry x i = get_or x i nan

-- y with its entry `row` grown by factor*x[col]
abbrev pub gains : Float → List Float → List Float → ℕ → ℕ → List Float
gains factor x y row col = set y row (add binary64 (entry y row) (mul binary64 factor (entry x col)))

-- an edge: y[row] gains factor*x[col]; undirected, with two different ends, then the reverse
unfoldable pub spreads : Bool → Float → List Float → List Float → ℕ → ℕ → List Float
spreads directed factor x y row col =
    cond (directed || eqb row col) (gains factor x y row col) (gains factor x (gains factor x y row col) col row)

-- d*d
abbrev pub squared : Float → Float
squared d = mul binary64 d d

-- a sum with one entry's squared change more
abbrev pub with_change : List Float → List Float → ℕ → Float → Float
with_change x y i sum = add binary64 sum (squared (sub binary64 (entry y i) (entry x i)))

-- the summed squared change from x to y, over n entries in order
unfoldable pub squared_change : ℕ → List Float → List Float → Float
squared_change n x y = after (with_change x y) n zero_f

-- the stop rule: the root of the summed squared change is below the tolerance
unfoldable pub settles : Float → ℕ → List Float → List Float → Bool
settles tolerance n x y = lt (sqrt_of (squared_change n x y)) tolerance

-- the vector that a round begins with, in the floats of a workspace
abbrev pub current_in : ℕ → List Float → List Float
current_in n w = part w scores_at n

-- the vector that a round makes, in the floats of a workspace
abbrev pub next_in : ℕ → List Float → List Float
next_in n w = part w (next_at n) n

-- w' is w with x and y in those two places
pub record Vectors (n : ℕ) (w x y w' : List Float) : Type 0 where
  pub front : Front w (n + n) w'
  pub current : current_in n w' ≡ x
  pub next : next_in n w' ≡ y

-- a workspace with room for the two vectors, and an edge between two nodes
pub record SpreadPre (n : ℕ) (w : List Float) (row col : ℕ) : Type 0 where
  pub room : n + n ≤ length w
  pub row_in : row < n
  pub col_in : col < n
