-- Reaching centralities (document 01, "Reaching"; Mones et al.; graphina's other.rs): the other nodes within a hop limit. Definitions only.
use Rattle.std.specs.Prelude.{ℕ, ◌-◌, false, cond, List, length, nat_lt, Float}
use Rattle.std.specs.Float.{binary64}
use Rattle.std.specs.Float.Ieee.{div}
use Rattle.regions.specs.Doubles.{double}
use Rattle.regions.specs.Region.{zero_f, over, list_of}
use Rattle.answers.specs.Answers.{Said, done}
use Rattle.graph.specs.Edges.{Graph}
use Rattle.graph.specs.Given.{Given, graph_in}
use Rattle.graph.specs.Left.{Left, wiped, unless_refused}
use Rattle.graph.specs.Refusals.{plainly}
use Rattle.reach.specs.Reach.{others_in}

-- k of the n - 1 other nodes; 0 if there is none
abbrev pub share_of : ℕ → ℕ → Float
share_of n k = cond (nat_lt 1 n) (div binary64 (double k) (double (n - 1))) zero_f

-- the score of s
unfoldable pub reach_score : Graph → ℕ → ℕ → Float
reach_score g limit s = share_of g.nodes (others_in g limit s)

-- what `local_reaching` leaves
unfoldable pub reaching_outcome : ℕ → Given (List Float) → Left (Said (Unit {0})) (List Float)
reaching_outcome limit g =
    unless_refused g (plainly g false false (nat_lt (length g.results) g.nodes))
    (wiped g (done tt) (over (list_of (reach_score (graph_in g) limit) g.nodes) g.results))

-- what `global_reaching` leaves: the limit is n
abbrev pub global_outcome : Given (List Float) → Left (Said (Unit {0})) (List Float)
global_outcome g = reaching_outcome g.nodes g
