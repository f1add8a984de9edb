-- The breadth-first order from a node, level by level and first come first, and the predecessor entries in the order in which it enters them
-- (Brandes 2001; graphina's betweenness.rs; document 01, "Betweenness"). Definitions only.
use Rattle.std.specs.Prelude.{cond, ℕ, zero, suc, ◌+◌, eqb}
use mathlib.Core.List.{List, [], ◌∷◌, ◌++◌, foldl}
use Rattle.graph.specs.Edges.{listed, Graph, entries, only}
use Rattle.hops.specs.Hops.{dist}

-- a list with x at its end, unless it holds x
abbrev pub admit : List ℕ → ℕ → List ℕ
admit l x = cond (listed x l) l (l ++ (x ∷ []))

-- a list with those of xs behind it that it does not hold, each where it first comes
abbrev pub joined : List ℕ → List ℕ → List ℕ
joined l xs = foldl admit l xs

-- the entries of the nodes of a list, node by node
unfoldable pub entries_of : Graph → List ℕ → List ℕ
entries_of g [] = []
entries_of g (v ∷ vs) = entries g v ++ entries_of g vs

-- the nodes within k hops of s: s, then the entries of the nodes within k - 1 hops, each where it first comes
unfoldable pub levels : Graph → ℕ → ℕ → List ℕ
levels g s zero = s ∷ []
levels g s (suc k) = joined (s ∷ []) (entries_of g (levels g s k))

-- the breadth-first order from s: no node that can be reached is further than the number of nodes
abbrev pub order : Graph → ℕ → List ℕ
order g s = levels g s g.nodes

-- ---- predecessor entries

-- v, once for each of the entries that are w
unfoldable pub copies : ℕ → ℕ → List ℕ → List ℕ
copies v w [] = []
copies v w (x ∷ xs) = only (eqb x w) v ++ copies v w xs

-- what v, by some of its entries, enters among the predecessors of w: nothing, unless it is one hop nearer by the distances d
abbrev pub entered_by : (ℕ → ℕ) → ℕ → ℕ → List ℕ → List ℕ
entered_by d w v seen = cond (eqb (d v + 1) (d w)) (copies v w seen) []

-- the predecessor entries of w that the nodes of a list enter, in the list's order
unfoldable pub entered : Graph → (ℕ → ℕ) → ℕ → List ℕ → List ℕ
entered g d w [] = []
entered g d w (v ∷ vs) = entered_by d w v (entries g v) ++ entered g d w vs

-- the predecessor entries of w from s, in the order in which they are entered
abbrev pub predecessors : Graph → ℕ → ℕ → List ℕ
predecessors g s w = entered g (dist g s) w (order g s)
