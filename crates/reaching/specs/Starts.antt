-- What taking back a search and a search from every node ask and leave: hop distances from D of the workspace, the queue from Q. Definitions only.
use Rattle.std.specs.Prelude.{◌≡◌, ℕ, ◌+◌, ◌<◌, ◌≤◌, Bool, ◌≢◌, ◌⊎◌, List, length, slice_index, Float}
use Rattle.regions.specs.Region.{over, list_of, Frame2}
use Rattle.graph.specs.Edges.{Edge}
use Rattle.hops.specs.Hops.{unreached}
use Rattle.hops.specs.Search.{graph_of}
use Rattle.reach.specs.Search.{Ground}
use Rattle.reaching.specs.Reaching.{reach_score}

-- ---- back to the beginning

-- what `undo` asks: a queue of `tail` nodes, whose distances stand before it
pub record UndoPre (tail D Q : ℕ) (w : List ℕ) : Type 0 where
  pub room : Q + tail ≤ length w
  pub before : (i : ℕ) → i < tail → D + slice_index w (Q + i) < Q

-- the nodes at the first `tail` places of the queue have no distance, and all else is as it was
pub record Undone (tail D Q : ℕ) (w w' : List ℕ) : Type 0 where
  pub long : length w' ≡ length w
  pub far : (i : ℕ) → i < tail → slice_index w' (D + slice_index w (Q + i)) ≡ unreached
  -- a number that differs has become that of no distance
  pub either : (k : ℕ) → (slice_index w' k ≡ slice_index w k) ⊎ (slice_index w' k ≡ unreached)
  pub kept : (k : ℕ) → ((i : ℕ) → i < tail → k ≢ D + slice_index w (Q + i)) → slice_index w' k ≡ slice_index w k

-- ---- all starts

-- what `reach_all` asks: the rows of some graph in w, none of its nodes with a distance, and room for the scores
pub record AllPre (n D Q : ℕ) (w : List ℕ) (scores : List Float) : Type 0 where
  pub directed : Bool
  pub edges : List Edge
  pub ground : Ground (graph_of n directed edges) w D Q
  pub small : n ≤ 4096
  pub room : n ≤ length scores

-- what it leaves, of every graph whose rows stand in w: the score of each node; w differs at distances and queue only
pub record AllPost (n limit D Q : ℕ) (w : List ℕ) (scores : List Float) (w' : List ℕ) (scores' : List Float) : Type 0 where
  pub kept : Frame2 w D n Q n w'
  pub long : length scores' ≡ length scores
  pub scored : (directed : Bool) (es : List Edge) → Ground (graph_of n directed es) w D Q → scores' ≡ over (list_of (reach_score (graph_of n directed es) limit) n) scores
