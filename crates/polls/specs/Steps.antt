-- What the steps of an election ask and leave: the abilities stand at the front of the floats, the votes behind them. Definitions only.
use Rattle.std.specs.Prelude.{◌≡◌, Bool, cond, ℕ, ◌+◌, ◌*◌, ◌≤◌, ◌<◌, length, get_or, set, take, Float}
use mathlib.Core.List.{List, foldl}
use Rattle.std.specs.Float.{binary64, nan}
use Rattle.std.specs.Float.Ieee.{add}
use Rattle.regions.specs.Region.{zero_f, Frame}
use Rattle.graph.specs.Edges.{listed, edges_of}
use Rattle.graph.specs.Pres.{Sized, Inside}
use Rattle.rows.specs.Rows.{row_at, RowsFit}
use Rattle.polls.specs.Votes.{votes, weaker}

-- ---- one edge

-- what `vote` asks: ends that are nodes, and room for n abilities and n votes
pub record VotePre (n f t : ℕ) (w : List Float) : Type 0 where
  pub from : f < n
  pub to : t < n
  pub room : 2 * n ≤ length w

-- the votes for v grow by the ability of x
abbrev pub gained : ℕ → ℕ → ℕ → List Float → List Float
gained n v x w = set w (n + v) (add binary64 (get_or w (n + v) nan) (get_or w x nan))

-- from gains to's ability, undirected also the reverse
unfoldable pub voted : ℕ → Bool → ℕ → ℕ → List Float → List Float
voted n directed f t w = cond directed (gained n f t w) (gained n t f (gained n f t w))

-- ---- all edges

-- what `tally` asks: edge slices of one length, ends that are nodes, and room for n abilities and n votes
pub record TallyPre (n : ℕ) (from to : List ℕ) (weight : List Float) (w : List Float) : Type 0 where
  pub sized : Sized from to weight
  pub ends : Inside n from to
  pub room : 2 * n ≤ length w

-- what `count_votes` asks: the same, and no votes yet
pub record CountPre (n : ℕ) (from to : List ℕ) (weight : List Float) (w : List Float) : Type 0 where
  pub pre : TallyPre n from to weight w
  pub clear : (v : ℕ) → v < n → get_or w (n + v) nan ≡ zero_f

-- the n places from n hold the votes that the abilities at the front give
pub record Tallied (n : ℕ) (directed : Bool) (from to : List ℕ) (weight : List Float) (w w' : List Float) : Type 0 where
  pub frame : Frame w n n w'
  pub at : (v : ℕ) → v < n → get_or w' (n + v) nan ≡ votes directed (λ u. get_or w u nan) (edges_of from to weight) v

-- ---- the elected score 0

-- what `silence` asks: k nodes at the front of the elected, and room for n abilities and n votes
pub record SilencePre (n k : ℕ) (elected : List ℕ) (w : List Float) : Type 0 where
  pub some : k ≤ length elected
  pub nodes : (i : ℕ) → i < k → get_or elected i 0 < n
  pub room : 2 * n ≤ length w

-- what it leaves: the votes for each of these k are +0.0, and every other place is as it was
pub record Silenced (n k : ℕ) (elected : List ℕ) (w w' : List Float) : Type 0 where
  pub frame : Frame w n n w'
  pub at : (v : ℕ) → v < n → get_or w' (n + v) nan ≡ cond (listed v (take k elected)) zero_f (get_or w (n + v) nan)

-- ---- the elected node's neighbours

-- what `weaken` asks: the rows of n nodes, a node, and room for n abilities
pub record WeakenPre (n v : ℕ) (rows : List ℕ) (w : List Float) : Type 0 where
  pub fit : RowsFit n rows
  pub node : v < n
  pub room : n ≤ length w

-- the abilities after v was elected: its own is +0.0, and then each entry of its row loses the decay, not below 0
unfoldable pub weakened : ℕ → Float → ℕ → List ℕ → List Float → List Float
weakened n decay v rows w = foldl (weaker decay) (set w v zero_f) (row_at n rows v)
