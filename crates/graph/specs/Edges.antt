-- The graph as lent: its edges with their positions, the neighbour entries of a node, its weighted list and out-weight
-- (document 01, "The graph as lent", "PageRank"). Definitions only.
use Rattle.std.specs.Prelude.{Bool, true, false, not, ◌&&◌, ◌||◌, cond, ℕ, suc, eqb, Float}
use mathlib.Core.List.{List, [], ◌∷◌, ◌++◌, foldl}
use Rattle.std.specs.Float.{binary64}
use Rattle.std.specs.Float.Ieee.{add}
use Rattle.regions.specs.Region.{zero_f}

-- 1 if it holds, else 0
abbrev pub one_if : Bool → ℕ
one_if true = 1
one_if false = 0

-- whether v stands in a list
unfoldable pub listed : ℕ → List ℕ → Bool
listed v [] = false
listed v (x ∷ xs) = eqb x v || listed v xs

-- an edge: its position in the lent slices, its ends and its weight
pub record Edge : Type 0 where
  pub at : ℕ
  pub from : ℕ
  pub to : ℕ
  pub weight : Float

-- an edge from its parts
abbrev pub edge : ℕ → ℕ → ℕ → Float → Edge
edge k f t x = record { at = k; from = f; to = t; weight = x }

-- the edges of three lists, the first of them at position k
unfoldable pub edges_from : ℕ → List ℕ → List ℕ → List Float → List Edge
edges_from k [] ts xs = []
edges_from k (f ∷ fs) [] xs = []
edges_from k (f ∷ fs) (t ∷ ts) [] = []
edges_from k (f ∷ fs) (t ∷ ts) (x ∷ xs) = edge k f t x ∷ edges_from (suc k) fs ts xs

-- the three lent slices as one list of edges, in list order
abbrev pub edges_of : List ℕ → List ℕ → List Float → List Edge
edges_of fs ts xs = edges_from 0 fs ts xs

-- a graph: its nodes are the numbers below `nodes`, and an undirected one lets each edge be taken both ways
pub record Graph : Type 0 where
  pub nodes : ℕ
  pub directed : Bool
  pub edges : List Edge

-- the graph of n nodes whose edges the three lent slices hold
abbrev pub graph_from : ℕ → Bool → List ℕ → List ℕ → List Float → Graph
graph_from n directed fs ts xs = record { nodes = n; directed = directed; edges = edges_of fs ts xs }

-- ---- neighbour entries

-- what the edges give, the newest first
unfoldable pub newest_first : (Edge → List ℕ) → List Edge → List ℕ
newest_first gives [] = []
newest_first gives (e ∷ es) = newest_first gives es ++ gives e

-- x alone, or nothing
abbrev pub only : {A : Type 0} → Bool → A → List A
only true x = x ∷ []
only false x = []

-- an edge leads to v from another node
abbrev pub enters_from : ℕ → Edge → Bool
enters_from v e = eqb e.to v && not (eqb e.from v)

-- an edge whose from is v gives its `to`
abbrev pub gives_out : ℕ → Edge → List ℕ
gives_out v e = only (eqb e.from v) e.to

-- an edge whose to is v and whose from is not v gives its `from`
abbrev pub gives_in : ℕ → Edge → List ℕ
gives_in v e = only (enters_from v e) e.from

-- the neighbour entries of v: the edges from it, newest first, then, undirected, those to it from another node, newest first
unfoldable pub neighbours : Bool → List Edge → ℕ → List ℕ
neighbours directed es v = newest_first (gives_out v) es ++ cond directed [] (newest_first (gives_in v) es)

-- the neighbour entries of v in a graph
abbrev pub entries : Graph → ℕ → List ℕ
entries g v = neighbours g.directed g.edges v

-- ---- weighted lists

-- an entry of a weighted list: the node it leads to, and the edge that gives it
pub record Entry : Type 0 where
  pub target : ℕ
  pub edge : Edge

-- an entry from its parts
abbrev pub toward : ℕ → Edge → Entry
toward u e = record { target = u; edge = e }

-- what an edge gives to the list of v: its `to` if it is from v; undirected, its `from` if it leads to v from another node
abbrev pub weighted_gives : Bool → ℕ → Edge → List Entry
weighted_gives directed v e = only (eqb e.from v) (toward e.to e) ++ cond directed [] (only (enters_from v e) (toward e.from e))

-- the weighted list of v, in edge order
unfoldable pub weighted : Bool → List Edge → ℕ → List Entry
weighted directed [] v = []
weighted directed (e ∷ es) v = weighted_gives directed v e ++ weighted directed es v

-- a sum of weights with one entry more
abbrev pub with_weight : Float → Entry → Float
with_weight sum x = add binary64 sum x.edge.weight

-- the out-weight of v: the weights of its list, added from +0.0 in that order
unfoldable pub out_weight : Bool → List Edge → ℕ → Float
out_weight directed es v = foldl with_weight zero_f (weighted directed es v)
