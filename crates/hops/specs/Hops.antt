-- Hop sequences, the fewest hops from node to node, the number of sequences of that length, and the graph with every edge turned round
-- (Brandes 2001; document 01, "Survey"). Definitions only.
use Rattle.std.specs.Prelude.{Bool, true, false, not, ◌||◌, ℕ, zero, suc, ◌≤◌, ◌<◌, eqb, ltb, length, get_or}
use mathlib.Core.List.{List, [], ◌∷◌, ◌++◌, map, Memᴰ}
use Rattle.graph.specs.Edges.{Edge, edge, Graph, entries}
use Rattle.hops.specs.Sum.{sum_over, same, only_if}

-- A hop from v is a position in the neighbour entries of v, so that parallel edges are different hops. `Hops g a p b`: the hops p, one after the
-- other, lead from a to b.
pub data Hops (g : Graph) : ℕ → List ℕ → ℕ → Type 0 where
  stay : {a : ℕ} → Hops g a [] a
  hop : {a b i : ℕ} {p : List ℕ} → i < length (entries g a) → Hops g (get_or (entries g a) i 0) p b → Hops g a (i ∷ p) b

-- the number of hop sequences of length k from a to b (`how_many`: it is the length of a list of them all, each once)
unfoldable pub walks : Graph → ℕ → ℕ → ℕ → ℕ
walks g zero a b = same a b
walks g (suc k) a b = sum_over (entries g a) (λ x. walks g k x b)

-- ---- the fewest hops

-- what stands for "not reached"
abbrev pub unreached : ℕ
unreached = 4294967295

-- the first of k, k + 1, .. k + m - 1 at which f is not 0; `unreached` if there is none
unfoldable pub seek : (ℕ → ℕ) → ℕ → ℕ → ℕ
seek f zero k = unreached
seek f (suc m) k = elim (f k) [ zero ↦ seek f m (suc k) | suc x ↦ k ]

-- the fewest hops from a to b, looked for below the number of nodes (`fewest_lt`: no fewest number is as large); `unreached` where no hops lead there
unfoldable pub dist : Graph → ℕ → ℕ → ℕ
dist g a b = seek (λ k. walks g k a b) g.nodes 0

-- the number of hop sequences of that length: 0 where there is none
unfoldable pub count : Graph → ℕ → ℕ → ℕ
count g a b = only_if (not (eqb (dist g a b) unreached)) (walks g (dist g a b) a b)

-- ---- the list of all hop sequences

-- the sequences whose first hop is an entry of the list, the jth counted as hop i + j, and which go on from its node x by one of r x
unfoldable pub each : (ℕ → List (List ℕ)) → ℕ → List ℕ → List (List ℕ)
each r i [] = []
each r i (x ∷ xs) = map (λ p. i ∷ p) (r x) ++ each r (suc i) xs

-- the sequence of no hops, or nothing
abbrev pub nil_if : Bool → List (List ℕ)
nil_if true = [] ∷ []
nil_if false = []

-- the hop sequences of length k from a to b
unfoldable pub routes : Graph → ℕ → ℕ → ℕ → List (List ℕ)
routes g zero a b = nil_if (eqb a b)
routes g (suc k) a b = each (λ x. routes g k x b) 0 (entries g a)

-- every element stands in the list once
abbrev pub Distinct : List (List ℕ) → Type 0
Distinct [] = Unit {0}
Distinct (p ∷ ps) = (¬ Memᴰ p ps) × Distinct ps

-- ---- too many paths

-- PATHS: the count from s of a node below n exceeds the limit
unfoldable pub exceeds_below : ℕ → ℕ → Graph → ℕ → Bool
exceeds_below zero limit g s = false
exceeds_below (suc n) limit g s = exceeds_below n limit g s || ltb limit (count g s n)

-- a path count from s exceeds the limit
unfoldable pub exceeds : ℕ → Graph → ℕ → Bool
exceeds limit g s = exceeds_below g.nodes limit g s

-- 2^53, the most paths that are counted
abbrev pub path_limit : ℕ
path_limit = 9007199254740992

-- ---- the edges turned round

-- an edge from the node it led to, to the node it came from, at its position and with its weight
abbrev pub turn : Edge → Edge
turn e = edge e.at e.to e.from e.weight

-- the graph with every edge turned round
unfoldable pub turned : Graph → Graph
turned g = record { nodes = g.nodes; directed = g.directed; edges = map turn g.edges }

-- ---- a graph that can be searched

-- both ends of every edge are nodes
abbrev pub EndsIn : ℕ → List Edge → Type 0
EndsIn n [] = Unit {0}
EndsIn n (e ∷ es) = (e.from < n) × (e.to < n) × EndsIn n es

-- its ends are nodes, and every number of hops is below what stands for "not reached"
pub record Valid (g : Graph) : Type 0 where
  pub inside : EndsIn g.nodes g.edges
  pub few : g.nodes ≤ unreached
