-- When a graph, a number or the room is refused: the sentences of document 01's table, each as a test. Definitions only.
use Rattle.std.specs.Prelude.{Bool, true, false, not, ◌||◌, cond, List, [], ◌∷◌, ℕ, suc, eqb, ltb, length, Float, Option, Some, None}
use Rattle.std.specs.Float.Ieee.Scale.{finite}
use Rattle.graph.specs.declared.Fault.{Fault}
use Rattle.graph.specs.declared.Fault.TheVariants.{From, To}
use Rattle.graph.specs.declared.Fronts.{Fronts}
use Rattle.answers.specs.Settings.{node_limit, edge_limit}
use Rattle.graph.specs.Edges.{Edge}

-- SIZE: n > 4,096, m > 32,768, or edge slices of unequal length
unfoldable pub size_wrong : ℕ → List ℕ → List ℕ → List Float → Bool
size_wrong n from to weight =
    ltb node_limit n
    || ltb edge_limit (length from)
    || not (eqb (length to) (length from))
    || not (eqb (length weight) (length from))

-- the first of the edges with an end that is n or more, its from before its to
unfoldable pub first_fault : ℕ → List Edge → Option Fault
first_fault n [] = None
first_fault n (e ∷ es) = cond (ltb e.from n) (cond (ltb e.to n) (first_fault n es) (Some (To e.at))) (Some (From e.at))

-- whether there is one
abbrev pub some_fault : Option Fault → Bool
some_fault None = false
some_fault (Some f) = true

-- NODE: an endpoint is n or more
unfoldable pub node_wrong : ℕ → List Edge → Bool
node_wrong n es = some_fault (first_fault n es)

-- the first of the numbers, counted from i, that is an infinity or a NaN
unfoldable pub first_odd : ℕ → List Float → Option ℕ
first_odd i [] = None
first_odd i (x ∷ xs) = cond (finite x) (first_odd (suc i) xs) (Some i)

-- whether there is one
abbrev pub some_found : Option ℕ → Bool
some_found None = false
some_found (Some i) = true

-- NUMBER, for the numbers of a slice: one is an infinity or a NaN
unfoldable pub number_wrong : List Float → Bool
number_wrong xs = some_found (first_odd 0 xs)

-- ROOM, for a workspace of the lengths a, b and c: one is shorter than its used front
unfoldable pub work_wrong : Fronts → ℕ → ℕ → ℕ → Bool
work_wrong f a b c = ltb a f.narrow || ltb b f.wide || ltb c f.floats
