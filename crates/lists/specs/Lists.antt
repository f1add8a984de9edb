-- Weighted lists in the workspace: n + 1 offsets at its front, then 2m targets and 2m edge positions. Definitions only.
use Rattle.std.specs.Prelude.{◌≡◌, Bool, ℕ, ◌+◌, ◌*◌, ◌-◌, ◌≤◌, ◌<◌, length, get_or, Float}
use mathlib.Core.List.{List, map, foldl}
use Rattle.std.specs.Float.{nan, binary64}
use Rattle.std.specs.Float.Ieee.{add}
use Rattle.regions.specs.Region.{Front, Frame, list_of, zero_f}
use Rattle.graph.specs.Edges.{Edge, Entry, edges_of, weighted}
use Rattle.graph.specs.Layout.{entries_at, beside_at, out_weights_at}
use Rattle.graph.specs.Pres.{Sound}

-- an entry as the workspace holds it: the node it leads to, and the position of its edge
pub record Place : Type 0 where
  pub target : ℕ
  pub at : ℕ

-- such an entry from its parts
abbrev pub place : ℕ → ℕ → Place
place u k = record { target = u; at = k }

-- an entry of a weighted list, so held
abbrev pub place_of : Entry → Place
place_of x = place x.target x.edge.at

-- what stands at the jth place of the entries
abbrev pub place_at : ℕ → ℕ → List ℕ → ℕ → Place
place_at n m w j = place (get_or w (entries_at n + j) 0) (get_or w (beside_at n m + j) 0)

-- how many entries v has: from its offset to the next one
abbrev pub long_at : List ℕ → ℕ → ℕ
long_at w v = get_or w (v + 1) 0 - get_or w v 0

-- the list of v
unfoldable pub list_at : ℕ → ℕ → List ℕ → ℕ → List Place
list_at n m w v = list_of (λ k. place_at n m w (get_or w v 0 + k)) (long_at w v)

-- ---- what a round reads of an entry

-- a share: the node that the entry leads to, and its weight
pub record Share : Type 0 where
  pub target : ℕ
  pub weight : Float

-- a share from its parts
abbrev pub share : ℕ → Float → Share
share u x = record { target = u; weight = x }

-- the share of an entry of a weighted list
abbrev pub share_of : Entry → Share
share_of x = share x.target x.edge.weight

-- the share of an entry in the workspace: the weight is read in the lent slice
abbrev pub share_at : List Float → Place → Share
share_at weight p = share p.target (get_or weight p.at nan)

-- the shares of the weighted list of v, in edge order
abbrev pub shares_of : Bool → List Edge → ℕ → List Share
shares_of directed es v = map share_of (weighted directed es v)

-- the same, read in the workspace
abbrev pub shares_at : ℕ → ℕ → List Float → List ℕ → ℕ → List Share
shares_at n m weight w v = map (share_at weight) (list_at n m w v)

-- a sum of weights with one share more
abbrev pub with_share : Float → Share → Float
with_share sum x = add binary64 sum x.weight

-- their weights, added from +0.0 in order
unfoldable pub weight_of : List Share → Float
weight_of xs = foldl with_share zero_f xs

-- ---- what is built

-- how much of the workspace the lists of n nodes and m edges take
abbrev pub lists_front : ℕ → ℕ → ℕ
lists_front n m = beside_at n m + 2 * m

-- w holds n lists whose targets are nodes and whose positions are those of m edges
pub record ListsFit (n m : ℕ) (w : List ℕ) : Type 0 where
  pub room : lists_front n m ≤ length w
  pub rises : (v : ℕ) → v < n → get_or w v 0 ≤ get_or w (v + 1) 0
  pub inside : (v : ℕ) → v < n → get_or w (v + 1) 0 ≤ 2 * m
  pub nodes : (v j : ℕ) → v < n → get_or w v 0 ≤ j → j < get_or w (v + 1) 0 → get_or w (entries_at n + j) 0 < n
  pub edges : (v j : ℕ) → v < n → get_or w v 0 ≤ j → j < get_or w (v + 1) 0 → get_or w (beside_at n m + j) 0 < m

-- what building asks: a sound graph, and room for its lists
pub record BuildPre (n : ℕ) (from to : List ℕ) (weight : List Float) (w : List ℕ) : Type 0 where
  pub sound : Sound n from to weight
  pub room : lists_front n (length from) ≤ length w

-- the lists of w' are the weighted lists of the edges, and behind them w is as it was
pub record Built (n : ℕ) (directed : Bool) (from to : List ℕ) (weight : List Float) (w w' : List ℕ) : Type 0 where
  pub front : Front w (lists_front n (length from)) w'
  pub fit : ListsFit n (length from) w'
  pub lists : (v : ℕ) → v < n → list_at n (length from) w' v ≡ map place_of (weighted directed (edges_of from to weight) v)

-- what the out-weights ask: the lists of n nodes in w, their weights, and room for n sums
pub record OutPre (n m : ℕ) (weight : List Float) (w : List ℕ) (wf : List Float) : Type 0 where
  pub fit : ListsFit n m w
  pub weights : length weight ≡ m
  pub room : out_weights_at n + n ≤ length wf

-- the n out-weights stand in their region, every other place of wf is as it was
pub record OutWeights (n m : ℕ) (weight : List Float) (w : List ℕ) (wf wf' : List Float) : Type 0 where
  pub frame : Frame wf (out_weights_at n) n wf'
  pub at : (d : Float) (v : ℕ) → v < n → get_or wf' (out_weights_at n + v) d ≡ weight_of (shares_at n m weight w v)
