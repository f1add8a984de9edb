-- Laplacian centrality (document 01, "Laplacian"; graphina's other.rs): d*d + d + twice the neighbours' d, d the number of a node's entries, not its degree. Definitions only.
use Rattle.std.specs.Prelude.{ℕ, false, List, length, nat_lt, Float}
use mathlib.Core.List.{foldl}
use Rattle.std.specs.Float.{binary64}
use Rattle.std.specs.Float.Ieee.{add, mul}
use Rattle.regions.specs.Doubles.{double, two}
use Rattle.regions.specs.Region.{over, list_of}
use Rattle.answers.specs.Answers.{Said, done}
use Rattle.graph.specs.Edges.{neighbours}
use Rattle.graph.specs.Given.{Given, edges_in}
use Rattle.graph.specs.Refusals.{plainly}
use Rattle.graph.specs.Left.{Left, wiped, unless_refused}

-- the number of entries of v, in its nearest double
abbrev pub entry_count : (ℕ → List ℕ) → ℕ → Float
entry_count rows v = double (length (rows v))

-- the sum before the neighbours
abbrev pub own_part : Float → Float
own_part d = add binary64 (mul binary64 d d) d

-- the sum with one neighbour more
abbrev pub with_neighbour : (ℕ → List ℕ) → Float → ℕ → Float
with_neighbour rows sum u = add binary64 sum (mul binary64 two (entry_count rows u))

-- the score of v: its neighbours added in the order of their entries
unfoldable pub laplacian_score : (ℕ → List ℕ) → ℕ → Float
laplacian_score rows v = foldl (with_neighbour rows) (own_part (entry_count rows v)) (rows v)

-- the n scores of a graph
unfoldable pub laplacian_scores : {R : Type 0} → Given R → List Float
laplacian_scores g = list_of (laplacian_score (neighbours g.directed (edges_in g))) g.nodes

-- what `laplacian` leaves
unfoldable pub laplacian_outcome : Given (List Float) → Left (Said (Unit {0})) (List Float)
laplacian_outcome g =
    unless_refused g (plainly g false false (nat_lt (length g.results) g.nodes)) (wiped g (done tt) (over (laplacian_scores g) g.results))
