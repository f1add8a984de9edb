-- The nodes within a hop limit of a node (document 01, "Reaching"). Definitions only.
use Rattle.std.specs.Prelude.{Bool, not, ◌&&◌, ℕ, eqb, leb}
use Rattle.graph.specs.Edges.{Graph}
use Rattle.hops.specs.Sum.{sum_over, below, only_if}
use Rattle.hops.specs.Hops.{unreached, dist}

-- some hops lead from s to v, and the fewest are at most the limit
abbrev pub in_reach : Graph → ℕ → ℕ → ℕ → Bool
in_reach g limit s v = not (eqb (dist g s v) unreached) && leb (dist g s v) limit

-- how many other nodes are within the limit of s
unfoldable pub others_in : Graph → ℕ → ℕ → ℕ
others_in g limit s = sum_over (below g.nodes) (λ v. only_if (not (eqb v s) && in_reach g limit s v) 1)
