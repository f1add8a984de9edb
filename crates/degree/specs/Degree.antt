-- The degrees (document 01, "Degree"; graphina's degree.rs): how many ends of the edges are a node. Definitions only.
use Rattle.std.specs.Prelude.{Bool, true, false, not, ◌&&◌, List, [], ◌∷◌, ℕ, ◌+◌, eqb, ltb, length, Float}
use Rattle.regions.specs.Doubles.{double}
use Rattle.regions.specs.Region.{over, list_of}
use Rattle.answers.specs.Answers.{Said, done}
use Rattle.graph.specs.Edges.{Edge, one_if}
use Rattle.graph.specs.Fronts.{no_fronts}
use Rattle.graph.specs.Given.{Given, edges_in}
use Rattle.graph.specs.Left.{Left, wiped_by, unless_refused}
use Rattle.graph.specs.Refusals.{first_refusal, ends_tests}

-- how many ends of the edges are v; `froms` and `tos` say which ends count. A self-loop has two ends at its node
unfoldable pub end_count : Bool → Bool → List Edge → ℕ → ℕ
end_count froms tos [] v = 0
end_count froms tos (e ∷ es) v = one_if (froms && eqb e.from v) + one_if (tos && eqb e.to v) + end_count froms tos es v

-- that number as a double: it is at most twice 32,768, so nothing is rounded
abbrev pub end_score : Bool → Bool → List Edge → ℕ → Float
end_score froms tos es v = double (end_count froms tos es v)

-- the n scores of a graph
unfoldable pub end_scores : {R : Type 0} → Bool → Bool → Given R → List Float
end_scores froms tos g = list_of (end_score froms tos (edges_in g)) g.nodes

-- what a call leaves that counts these ends
unfoldable pub ends_outcome : Bool → Bool → Given (List Float) → Left (Said (Unit {0})) (List Float)
ends_outcome froms tos g =
    unless_refused g (first_refusal (ends_tests g.nodes g.from g.to g.weight false false (ltb (length g.results) g.nodes)))
    (wiped_by no_fronts g (done tt) (over (end_scores froms tos g) g.results))

-- degree: both ends of every edge
abbrev pub degree_outcome : Given (List Float) → Left (Said (Unit {0})) (List Float)
degree_outcome g = ends_outcome true true g

-- in-degree: the tos; undirected, both
abbrev pub in_degree_outcome : Given (List Float) → Left (Said (Unit {0})) (List Float)
in_degree_outcome g = ends_outcome (not g.directed) true g

-- out-degree: the froms; undirected, both
abbrev pub out_degree_outcome : Given (List Float) → Left (Said (Unit {0})) (List Float)
out_degree_outcome g = ends_outcome true (not g.directed) g
