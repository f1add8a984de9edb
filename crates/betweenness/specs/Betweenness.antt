-- Betweenness centrality (Brandes 2001; graphina's betweenness.rs; document 01, "Betweenness"). Definitions only.
use Rattle.std.specs.Prelude.{ℕ, ◌-◌, ◌*◌, Bool, true, false, cond, List, map, length, from_bits, nat_lt, Float}
use Rattle.std.specs.Float.{binary64}
use Rattle.std.specs.Float.Ieee.{mul, div}
use Rattle.regions.specs.Doubles.{double, one}
use Rattle.regions.specs.Region.{over}
use Rattle.answers.specs.declared.Answer.TheVariants.{Paths}
use Rattle.answers.specs.Answers.{Said, done}
use Rattle.graph.specs.Edges.{Graph}
use Rattle.graph.specs.Given.{Given, graph_in}
use Rattle.graph.specs.Refusals.{plainly}
use Rattle.graph.specs.Left.{Left, wiped, unless_refused, late_refusal}
use Rattle.hops.specs.Hops.{path_limit}
use Rattle.brandes.specs.Shares.{scores_after, some_exceeds}

-- 0.5
abbrev pub half : Float
half = from_bits binary64 0x3fe0_0000_0000_0000

-- normalized: times 1/((n-1)(n-2)), only if n > 2; raw undirected: times 0.5; raw directed: as it is
unfoldable pub scaled : ℕ → Bool → Bool → Float → Float
scaled n directed true x = cond (nat_lt 2 n) (mul binary64 x (div binary64 one (double ((n - 1) * (n - 2))))) x
scaled n directed false x = cond directed x (mul binary64 x half)

-- the score of each node
unfoldable pub betweenness_scores : Bool → Graph → List Float
betweenness_scores normalized g = map (scaled g.nodes g.directed normalized) (scores_after g g.nodes)

-- what `betweenness` leaves
unfoldable pub betweenness_outcome : Bool → Given (List Float) → Left (Said (Unit {0})) (List Float)
betweenness_outcome normalized g =
    unless_refused g (plainly g true false (nat_lt (length g.results) g.nodes))
    (cond (some_exceeds path_limit (graph_in g) g.nodes) (late_refusal g Paths) (wiped g (done tt) (over (betweenness_scores normalized (graph_in g)) g.results)))
