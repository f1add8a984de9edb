-- The survey (document 01, "Survey"; Brandes 2001): for each node the fewest hops from one start, and the number of hop sequences of that length.
-- Definitions only.
use Rattle.std.specs.Prelude.{Bool, true, ◌||◌, cond, List, ℕ, ltb, leb, length}
use Rattle.regions.specs.Region.{over, list_of}
use Rattle.answers.specs.declared.Answer.TheVariants.{Paths}
use Rattle.answers.specs.Answers.{Said, done}
use Rattle.graph.specs.Edges.{Graph}
use Rattle.graph.specs.Given.{Given, graph_in}
use Rattle.graph.specs.Left.{Left, wiped, late_refusal, unless_refused}
use Rattle.graph.specs.Refusals.{plainly}
use Rattle.hops.specs.Hops.{dist, count, exceeds, path_limit}

-- the two result slices
pub record Results : Type 0 where
  pub distances : List ℕ
  pub counts : List ℕ

-- the two, from their lists
abbrev pub results : List ℕ → List ℕ → Results
results d c = record { distances = d; counts = c }

-- a result slice of one of these lengths has no room for n numbers
abbrev pub too_short : ℕ → ℕ → ℕ → Bool
too_short n a b = ltb a n || ltb b n

-- the distances and counts from s to the n nodes, written over the fronts of two slices
unfoldable pub surveyed : Graph → ℕ → Results → Results
surveyed g s r = results (over (list_of (dist g s) g.nodes) r.distances) (over (list_of (count g s) g.nodes) r.counts)

-- what `survey` leaves: PATHS if a path count from s exceeds 2^53, else the distances and counts
unfoldable pub survey_outcome : ℕ → Given Results → Left (Said (Unit {0})) Results
survey_outcome s g =
    unless_refused g (plainly g true (leb g.nodes s) (too_short g.nodes (length g.results.distances) (length g.results.counts)))
    (cond (exceeds path_limit (graph_in g) s) (late_refusal g Paths) (wiped g (done tt) (surveyed (graph_in g) s g.results)))
