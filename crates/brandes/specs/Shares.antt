-- Brandes' accumulation in doubles, each operation rounded once, in the Rust's order, from one start and from all (document 01, "Betweenness"). Definitions only.
use Rattle.std.specs.Prelude.{ℕ, zero, suc, Bool, false, cond, ◌||◌, List, replicate, ◌==◌, slice_index_or, slice_set, Float}
use mathlib.Core.List.{foldl, foldr}
use Rattle.std.specs.Float.{nan, binary64}
use Rattle.std.specs.Float.Ieee.{add, mul, div}
use Rattle.regions.specs.Doubles.{double, one}
use Rattle.regions.specs.Region.{zero_f}
use Rattle.graph.specs.Edges.{Graph}
use Rattle.hops.specs.Hops.{count, exceeds}
use Rattle.predecessors.specs.Order.{order, predecessors}

-- what a predecessor entry v of w takes: (count[v]/count[w]) * grown, where grown is 1 + delta[w]
abbrev pub share : Float → Float → Float → Float
share countV countW grown = mul binary64 (div binary64 countV countW) grown

-- a list with its number at i grown by x
abbrev pub grow : List Float → ℕ → Float → List Float
grow l i x = slice_set l i (add binary64 (slice_index_or l i nan) x)

-- delta and the scores, while the nodes leave
pub record Sums : Type 0 where
  pub delta : List Float
  pub scores : List Float

-- the two from their lists
abbrev pub sums : List Float → List Float → Sums
sums d c = record { delta = d; scores = c }

-- delta, after each predecessor entry v of w took (count[v]/count[w])*(1+delta[w])
unfoldable pub passed : (ℕ → Float) → (ℕ → List ℕ) → ℕ → List Float → List Float
passed counts predecessors w delta =
    foldl (λ d v. grow d v (share (counts v) (counts w) (add binary64 one (slice_index_or delta w nan)))) delta (predecessors w)

-- w leaves: its predecessors take their shares, and unless it is the start s its score grows by delta[w]
unfoldable pub leave : (ℕ → Float) → (ℕ → List ℕ) → ℕ → ℕ → Sums → Sums
leave counts predecessors s w x =
    sums (passed counts predecessors w x.delta) (cond (w == s) x.scores (grow x.scores w (slice_index_or x.delta w nan)))

-- ---- the starts

-- the number of fewest hop sequences from s to v, as a double
abbrev pub ways : Graph → ℕ → ℕ → Float
ways g s v = double (count g s v)

-- from one start s: delta is +0.0 at each node and the scores go on from those given, then the nodes leave in reverse breadth-first order
unfoldable pub from_start : Graph → ℕ → List Float → Sums
from_start g s scores = foldr (leave (ways g s) (predecessors g s) s) (sums (replicate g.nodes zero_f) scores) (order g s)

-- the scores after the starts 0 to k - 1
unfoldable pub scores_after : Graph → ℕ → List Float
scores_after g zero = replicate g.nodes zero_f
scores_after g (suc k) = (from_start g k (scores_after g k)).scores

-- PATHS: a path count from one of the starts 0 to k - 1 exceeds the limit
unfoldable pub some_exceeds : ℕ → Graph → ℕ → Bool
some_exceeds limit g zero = false
some_exceeds limit g (suc k) = some_exceeds limit g k || exceeds limit g k
