-- What the walks of `lists` ask and leave: entries placed before those of their list. Definitions only.
use Rattle.std.specs.Prelude.{◌≡◌, Bool, List, ℕ, ◌+◌, ◌*◌, ◌-◌, ◌≤◌, ◌<◌, length, get_or, set, Float}
use Rattle.std.specs.Float.{nan}
use Rattle.regions.specs.Region.{Front}
use Rattle.graph.specs.Edges.{Edge, Entry, toward, edge, edges_of, weighted}
use Rattle.graph.specs.Layout.{entries_at, beside_at}
use Rattle.graph.specs.Pres.{Sound}
use Rattle.rows.specs.Walks.{sum_to}
use Rattle.lists.specs.Lists.{lists_front}

-- where the list of v begins: the entries of the nodes before it are counted
abbrev pub start_of : Bool → List Edge → ℕ → ℕ
start_of directed es v = sum_to (λ u. length (weighted directed es u)) v

-- ---- placing: lists are filled from their far ends

-- the end of own's list, at w[own], moves back by one, and at that place stand the target `other` and, beside it, the edge's position `at`
abbrev pub with_entry : ℕ → ℕ → ℕ → ℕ → ℕ → List ℕ → List ℕ
with_entry n m own other at w =
    set (set (set w own (get_or w own 0 - 1)) (entries_at n + (get_or w own 0 - 1)) other) (beside_at n m + (get_or w own 0 - 1)) at

-- what `put` asks: a node whose list has a free place before its end, an edge's position, and room for the lists
pub record PutPre (n m own at : ℕ) (w : List ℕ) : Type 0 where
  pub room : lists_front n m ≤ length w
  pub node : own < n
  pub position : at < 32768
  pub some : 1 ≤ get_or w own 0
  pub inside : get_or w own 0 ≤ 2 * m

-- ---- all edges

-- what `place_entries` asks: a sound graph, room for its lists, and at each node the end of its list
pub record PlacePre (n : ℕ) (directed : Bool) (from to : List ℕ) (weight : List Float) (w : List ℕ) : Type 0 where
  pub sound : Sound n from to weight
  pub room : lists_front n (length from) ≤ length w
  pub ends : (v : ℕ) → v < n → get_or w v 0 ≡ start_of directed (edges_of from to weight) (v + 1)
  pub total : start_of directed (edges_of from to weight) n ≤ 2 * length from

-- what is read of a list past its end
abbrev pub no_entry : Entry
no_entry = toward 0 (edge 0 0 0 nan)

-- what it leaves: at each node the start of its list, from there its entries, and behind the lists w as it was
pub record Placed (n : ℕ) (directed : Bool) (from to : List ℕ) (weight : List Float) (w w' : List ℕ) : Type 0 where
  pub front : Front w (lists_front n (length from)) w'
  pub last : get_or w' n 0 ≡ get_or w n 0
  pub starts : (v : ℕ) → v < n → get_or w' v 0 ≡ start_of directed (edges_of from to weight) v
  pub targets : (v k : ℕ) → v < n → k < length (weighted directed (edges_of from to weight) v) → get_or w' (entries_at n + (start_of directed (edges_of from to weight) v + k)) 0 ≡ (get_or (weighted directed (edges_of from to weight) v) k no_entry).target
  pub positions : (v k : ℕ) → v < n → k < length (weighted directed (edges_of from to weight) v) → get_or w' (beside_at n (length from) + (start_of directed (edges_of from to weight) v + k)) 0 ≡ (get_or (weighted directed (edges_of from to weight) v) k no_entry).edge.at
