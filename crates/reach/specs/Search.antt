-- What the steps of a search within a hop limit ask and leave: hop distances from D of the workspace, its queue from Q. Definitions only.
use Rattle.std.specs.Prelude.{◌≡◌, ◌≢◌, Bool, cond, List, ℕ, ◌+◌, ◌≤◌, ◌<◌, eqb, length, get_or, set}
use Rattle.regions.specs.Region.{Frame2}
use Rattle.graph.specs.Edges.{Edge, Graph, entries}
use Rattle.hops.specs.Sum.{sum_over, below, only_if}
use Rattle.hops.specs.Hops.{unreached, Valid}
use Rattle.hops.specs.Search.{graph_of, RowsOf, Search}
use Rattle.reach.specs.Reach.{in_reach}

-- ---- one entry

-- what `meet` asks: w has the distance of x and, if x has none yet, the place of the queue
pub record MeetPre (x D place : ℕ) (w : List ℕ) : Type 0 where
  pub distance : D + x < length w
  pub slot : get_or w (D + x) 0 ≡ unreached → place < length w

-- x has no distance yet
abbrev pub unmet : ℕ → ℕ → List ℕ → Bool
unmet x D w = eqb (get_or w (D + x) 0) unreached

-- w after x was met: if it had no distance, it has `further`, and stands at `place` of the queue
abbrev pub met : ℕ → ℕ → ℕ → ℕ → List ℕ → List ℕ
met x further D place w = cond (unmet x D w) (set (set w (D + x) further) place x) w

-- what `meet` leaves: x met, and by how many the queue grows
pub record Met (x further D place : ℕ) (w w' : List ℕ) (r : ℕ) : Type 0 where
  pub stored : w' ≡ met x further D place w
  pub more : r ≡ only_if (unmet x D w) 1

-- ---- the entries of one node

-- the search from s stands at place `head` of its queue, whose node is u: with some counts it is a search that counts ways
pub record Walk (g : Graph) (s : ℕ) (w : List ℕ) (D Q head tail u j : ℕ) : Type 0 where
  pub counts : List ℕ
  pub most : ℕ
  pub search : Search g most s w counts D Q head tail u j

-- every distance is within the limit
abbrev pub Near : ℕ → ℕ → ℕ → List ℕ → Type 0
Near n limit D w = (v : ℕ) → v < n → get_or w (D + v) 0 ≢ unreached → get_or w (D + v) 0 ≤ limit

-- there is a graph whose search stands at u, and `further` is one hop on
pub record SpreadPre (n u further D Q tail : ℕ) (w : List ℕ) : Type 0 where
  pub directed : Bool
  pub edges : List Edge
  pub start : ℕ
  pub head : ℕ
  pub walk : Walk (graph_of n directed edges) start w D Q head tail u 0
  pub far : further ≡ get_or w (D + u) 0 + 1

-- of every graph and start whose search it goes on with: all entries of u have been looked at
pub record SpreadPost (n u further D Q tail : ℕ) (w w' : List ℕ) (r : ℕ) : Type 0 where
  pub kept : Frame2 w D n Q n w'
  pub near : (limit : ℕ) → further ≤ limit → Near n limit D w → Near n limit D w'
  pub walked : (directed : Bool) (es : List Edge) (s head : ℕ) → Walk (graph_of n directed es) s w D Q head tail u 0
      → Walk (graph_of n directed es) s w' D Q head r u (length (entries (graph_of n directed es) u))

-- ---- one start

-- the queue holds, in its first `tail` places, the nodes within the limit of s, and only they have a distance
pub record Within (g : Graph) (limit s : ℕ) (w : List ℕ) (D Q tail : ℕ) : Type 0 where
  pub taken : tail ≤ g.nodes
  pub queued : (i : ℕ) → i < tail → get_or w (Q + i) 0 < g.nodes
  -- a node with a distance stands in the queue
  pub labelled : (v : ℕ) → v < g.nodes → get_or w (D + v) 0 ≢ unreached → (i : ℕ) × (i < tail) × (get_or w (Q + i) 0 ≡ v)
  pub many : tail ≡ sum_over (below g.nodes) (λ v. only_if (in_reach g limit s v) 1)

-- what `reach_within` asks: a search that begins, of some graph and start, with every distance within the limit
pub record WithinPre (n limit D Q : ℕ) (w : List ℕ) : Type 0 where
  pub directed : Bool
  pub edges : List Edge
  pub start : ℕ
  pub walk : Walk (graph_of n directed edges) start w D Q 0 1 (get_or w (Q + 0) 0) 0
  pub near : Near n limit D w

-- what it leaves, of every graph and start whose search begins so: the queue has the r nodes within the limit; w differs at distances and queue only
pub record WithinPost (n limit D Q : ℕ) (w w' : List ℕ) (r : ℕ) : Type 0 where
  pub kept : Frame2 w D n Q n w'
  pub reached : (directed : Bool) (es : List Edge) (s : ℕ) → Walk (graph_of n directed es) s w D Q 0 1 (get_or w (Q + 0) 0) 0 → Near n limit D w
      → Within (graph_of n directed es) limit s w' D Q r

-- the rows of g stand in w, then n distances, then n places of a queue; no node has a distance
pub record Ground (g : Graph) (w : List ℕ) (D Q : ℕ) : Type 0 where
  pub valid : Valid g
  pub rows : RowsOf g w D
  pub front : g.nodes + 1 ≤ D
  pub apart : D + g.nodes ≤ Q
  pub room : Q + g.nodes ≤ length w
  pub far : (v : ℕ) → v < g.nodes → get_or w (D + v) 0 ≡ unreached

-- what `reach_from` asks: the rows of some graph in w, none of its nodes with a distance, and a start
pub record FromPre (n s D Q : ℕ) (w : List ℕ) : Type 0 where
  pub directed : Bool
  pub edges : List Edge
  pub ground : Ground (graph_of n directed edges) w D Q
  pub start : s < n

-- what it leaves, of every graph whose rows stand in w: the queue has the r nodes within the limit of s; w differs at distances and queue only
pub record FromPost (n limit s D Q : ℕ) (w w' : List ℕ) (r : ℕ) : Type 0 where
  pub kept : Frame2 w D n Q n w'
  pub reached : (directed : Bool) (es : List Edge) → Ground (graph_of n directed es) w D Q → Within (graph_of n directed es) limit s w' D Q r
