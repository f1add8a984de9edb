-- The edge lines of a job text: the edges up to the first faulty line, and the number of that line.
-- Definitions only. Document 01, "The command program".
use Rattle.std.specs.Prelude.{ℕ, zero, suc, ◌+◌, min, ◌≡◌, cond, List, [], ◌∷◌, map, length, ltb, Option, Some, None, Result, Ok, Err}
use Rattle.std.proofs.lemmas.List.Edits.{sets}
use Rattle.lines.specs.Lines.{edge_line}
use Rattle.lines.specs.declared.Edge.{Edge}
use Rattle.lines.specs.declared.FaultyLine.{FaultyLine}

-- the edges read, and whether all were: the faulty line where one is
pub record Edges : Type 0 where
  pub given : List Edge
  pub read : Result (Unit {0}) FaultyLine

-- the number of edge k's line, k from 0: the eight lines of the head stand before it
abbrev pub line_of : ℕ → FaultyLine
line_of k = record { number = k + 9 }

-- an edge, and after it those of the lines that follow; a faulty line decides, by its number
abbrev pub edge_then : Option (Edge × ℕ) → FaultyLine → (ℕ → Edges) → Edges
edge_then (Some x) fault go = record { given = x.0 ∷ (go x.1).given; read = (go x.1).read }
edge_then None fault go = record { given = []; read = Err fault }

-- The m edge lines from `at` on, after k edges. A line after the last one is faulty.
unfoldable pub edges_from : List ℕ → ℕ → ℕ → ℕ → Edges
edges_from s zero k at = record { given = []; read = cond (ltb at (length s)) (Err (line_of k)) (Ok tt) }
edges_from s (suc m) k at = edge_then (edge_line s at) (line_of k) (λ next. edges_from s m (k + 1) next)

-- An end as a slice of 32 bits holds it. One of 2 ^ 32 or more stands as 2 ^ 32 - 1, which is no node of a graph that
-- a job may have: it is refused as a node, as it would be itself.
abbrev pub end_of : ℕ → ℕ
end_of x = min x 4294967295

-- an edge's from, so held
abbrev pub from_of : Edge → ℕ
from_of g = end_of g.from

-- an edge's to, so held
abbrev pub to_of : Edge → ℕ
to_of g = end_of g.to

-- a weight as its bits
abbrev pub bits_of : Edge → ℕ
bits_of g = g.weight

-- the edges stored from the beginning of the three slices, as far as these reach
pub record Stored (edges : List Edge) (from₀ to₀ bits₀ from to bits : List ℕ) : Type 0 where
  pub from_is : from ≡ sets from₀ 0 (map from_of edges)
  pub to_is : to ≡ sets to₀ 0 (map to_of edges)
  pub bits_is : bits ≡ sets bits₀ 0 (map bits_of edges)
