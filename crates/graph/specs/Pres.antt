-- What the checks before it let a later step of a call take for granted. Definitions only.
use Rattle.std.specs.Prelude.{◌≡◌, false, List, ℕ, ◌≤◌, ◌<◌, length, get_or, Float}
use Rattle.graph.specs.declared.Fronts.{Fronts}
use Rattle.answers.specs.Settings.{node_limit, edge_limit}
use Rattle.graph.specs.Fronts.{usual_fronts}
use Rattle.graph.specs.Refusals.{Tests}
use Rattle.graph.specs.Given.{Given}

-- the edge slices are of one length
pub record Sized (from to : List ℕ) (weight : List Float) : Type 0 where
  pub tos : length to ≡ length from
  pub weights : length weight ≡ length from

-- no number of the list is above k
pub record AtMost (xs : List ℕ) (k : ℕ) : Type 0 where
  pub at : (i : ℕ) → i < length xs → get_or xs i 0 ≤ k

-- n nodes and m edges are within the limits
pub record Limits (n m : ℕ) : Type 0 where
  pub nodes : n ≤ node_limit
  pub edges : m ≤ edge_limit

-- every end is a node
pub record Inside (n : ℕ) (from to : List ℕ) : Type 0 where
  pub froms : (i : ℕ) → i < length from → get_or from i 0 < n
  pub tos : (i : ℕ) → i < length from → get_or to i 0 < n

-- a workspace of the lengths a, b and c has room for the used fronts
pub record Roomy (f : Fronts) (a b c : ℕ) : Type 0 where
  pub r32 : f.narrow ≤ a
  pub r64 : f.wide ≤ b
  pub rf : f.floats ≤ c

-- no row of the table holds
pub record Passed (t : Tests) : Type 0 where
  pub size : t.size ≡ false
  pub empty : t.empty ≡ false
  pub node : t.node ≡ false
  pub number : t.number ≡ false
  pub damping : t.damping ≡ false
  pub rounds : t.rounds ≡ false
  pub lengths : t.lengths ≡ false
  pub start : t.start ≡ false
  pub room : t.room ≡ false

-- the graph is sound: within the limits, its slices of one length, every end a node
pub record Sound (n : ℕ) (from to : List ℕ) (weight : List Float) : Type 0 where
  pub sized : Sized from to weight
  pub limits : Limits n (length from)
  pub ends : Inside n from to

-- a call's graph is sound, and its workspace has room for the usual fronts
pub record Ready {R : Type 0} (g : Given R) : Type 0 where
  pub sound : Sound g.nodes g.from g.to g.weight
  pub roomy : Roomy (usual_fronts g.nodes (length g.from)) (length g.w32) (length g.w64) (length g.wf)
