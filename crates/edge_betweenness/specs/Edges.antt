-- Edge betweenness (Brandes 2001; graphina's betweenness.rs; document 01, "Edge betweenness"). Definitions only.
use Rattle.std.specs.Prelude.{Bool, true, false, cond, not, ◌&&◌, ◌||◌, List, map, ℕ, ltb, length, Float}
use Rattle.regions.specs.Region.{over}
use Rattle.answers.specs.declared.Answer.TheVariants.{Paths}
use Rattle.answers.specs.Answers.{Said, done}
use Rattle.graph.specs.Edges.{Graph}
use Rattle.graph.specs.Given.{Given, graph_in}
use Rattle.graph.specs.Refusals.{plainly}
use Rattle.graph.specs.Left.{Left, wiped, unless_refused, late_refusal}
use Rattle.hops.specs.Hops.{path_limit}
use Rattle.brandes.specs.Shares.{some_exceeds}
use Rattle.crossings.specs.Totals.{totals_after, scaled_total}

-- the scaled total of the ordered pair (a, b)
abbrev pub pair_score : Bool → Graph → ℕ → ℕ → Float
pair_score normalized g a b = scaled_total g.nodes g.directed normalized (totals_after g g.nodes a b)

-- each edge's forward result: its pair's total, scaled
unfoldable pub forward_scores : Bool → Graph → List Float
forward_scores normalized g = map (λ e. pair_score normalized g e.from e.to) g.edges

-- each edge's back result: the reversed pair's total, scaled
unfoldable pub back_scores : Bool → Graph → List Float
back_scores normalized g = map (λ e. pair_score normalized g e.to e.from) g.edges

-- the two result slices
pub record EdgeScores : Type 0 where
  pub forward : List Float
  pub back : List Float

-- the two from their lists
abbrev pub edge_scores : List Float → List Float → EdgeScores
edge_scores f b = record { forward = f; back = b }

-- ROOM: forward has no m places or, undirected, back has not
abbrev pub scores_short : Given EdgeScores → Bool
scores_short g = ltb (length g.results.forward) (length g.from) || (not g.directed && ltb (length g.results.back) (length g.from))

-- the forward results over `forward` and, undirected, the back results over `back`; a directed call leaves `back` as it was
abbrev pub edge_results : Bool → Given EdgeScores → EdgeScores
edge_results normalized g =
    edge_scores (over (forward_scores normalized (graph_in g)) g.results.forward) (cond g.directed g.results.back (over (back_scores normalized (graph_in g)) g.results.back))

-- what `edge_betweenness` leaves
unfoldable pub edge_betweenness_outcome : Bool → Given EdgeScores → Left (Said (Unit {0})) EdgeScores
edge_betweenness_outcome normalized g =
    unless_refused g (plainly g true false (scores_short g))
    (cond (some_exceeds path_limit (graph_in g) g.nodes) (late_refusal g Paths) (wiped g (done tt) (edge_results normalized g)))
