-- Neighbour rows in the workspace: n + 1 offsets at its front, and the entries behind them. Definitions only.
use Rattle.std.specs.Prelude.{◌≡◌, Bool, List, ℕ, ◌+◌, ◌*◌, ◌-◌, ◌≤◌, ◌<◌, length, get_or, take, drop, Float}
use Rattle.regions.specs.Region.{Front}
use Rattle.graph.specs.Edges.{edges_of, neighbours}
use Rattle.graph.specs.Pres.{Sound}

-- the row of v: the entries from its offset to the next one
unfoldable pub row_at : ℕ → List ℕ → ℕ → List ℕ
row_at n w v = take (get_or w (v + 1) 0 - get_or w v 0) (drop (n + 1 + get_or w v 0) w)

-- how much of the workspace the rows of n nodes and m edges take
abbrev pub rows_front : ℕ → ℕ → ℕ
rows_front n m = n + 1 + 2 * m

-- w holds n rows of nodes
pub record RowsFit (n : ℕ) (w : List ℕ) : Type 0 where
  pub rises : (v : ℕ) → v < n → get_or w v 0 ≤ get_or w (v + 1) 0
  pub inside : (v : ℕ) → v < n → n + 1 + get_or w (v + 1) 0 ≤ length w
  pub nodes : (v k : ℕ) → v < n → k < length (row_at n w v) → get_or (row_at n w v) k 0 < n

-- what `build_rows` asks: a sound graph, and room for its rows
pub record BuildPre (n : ℕ) (from to : List ℕ) (weight : List Float) (w : List ℕ) : Type 0 where
  pub sound : Sound n from to weight
  pub room : rows_front n (length from) ≤ length w

-- the rows of w' are the neighbour entries and end within their front, and behind it w is as it was
pub record Built (n : ℕ) (directed : Bool) (from to : List ℕ) (weight : List Float) (w w' : List ℕ) : Type 0 where
  pub front : Front w (rows_front n (length from)) w'
  pub fit : RowsFit n w'
  pub within : (v : ℕ) → v < n → n + 1 + get_or w' (v + 1) 0 ≤ rows_front n (length from)
  pub rows : (v : ℕ) → v < n → row_at n w' v ≡ neighbours directed (edges_of from to weight) v
