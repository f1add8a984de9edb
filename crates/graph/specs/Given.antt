-- What a call is given: the graph, its result slices and the workspace as they are at entry. Definitions only.
use Rattle.std.specs.Prelude.{Bool, List, ℕ, Float}
use Rattle.graph.specs.declared.Graph.{Graph as Lent}
use Rattle.graph.specs.Edges.{Edge, edges_of, Graph, graph_from}

-- what a call is given; R is what the result slices hold: of a call with one, its list
pub record Given (R : Type 0) : Type 0 where
  pub nodes : ℕ
  pub directed : Bool
  pub from : List ℕ
  pub to : List ℕ
  pub weight : List Float
  pub results : R
  pub w32 : List ℕ
  pub w64 : List ℕ
  pub wf : List Float

-- what a call is given, from its parameters in their order
abbrev pub given : {R : Type 0} → ℕ → Bool → List ℕ → List ℕ → List Float → R → List ℕ → List ℕ → List Float → Given R
given n d f t x r w32 w64 wf = record { nodes = n; directed = d; from = f; to = t; weight = x; results = r; w32 = w32; w64 = w64; wf = wf }

-- what a call is given, from the graph it was lent, its result slices and its workspace
abbrev pub lent : {R : Type 0} → Lent → R → List ℕ → List ℕ → List Float → Given R
lent g r w32 w64 wf = given g.nodes g.directed g.from.now g.to.now g.weight.now r w32 w64 wf

-- the graph that was lent, as the definitions have it
abbrev pub lent_graph : Lent → Graph
lent_graph g = graph_from g.nodes g.directed g.from.now g.to.now g.weight.now

-- what a definition over the parts of a graph says of the graph that was lent
abbrev pub of_graph : {X : Type 1} → (ℕ → Bool → List ℕ → List ℕ → List Float → X) → Lent → X
of_graph says g = says g.nodes g.directed g.from.now g.to.now g.weight.now

-- the same of a definition that asks no direction
abbrev pub of_edges : {X : Type 1} → (ℕ → List ℕ → List ℕ → List Float → X) → Lent → X
of_edges says g = says g.nodes g.from.now g.to.now g.weight.now

-- the edges that the three slices hold
abbrev pub edges_in : {R : Type 0} → Given R → List Edge
edges_in g = edges_of g.from g.to g.weight

-- the graph that was lent
abbrev pub graph_in : {R : Type 0} → Given R → Graph
graph_in g = graph_from g.nodes g.directed g.from g.to g.weight
