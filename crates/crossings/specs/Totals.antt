-- The totals of ordered pairs of nodes, while nodes leave, from one start and from all, and scaled (Brandes 2001; graphina's betweenness.rs; document 01, "Edge betweenness"). Definitions only.
use Rattle.std.specs.Prelude.{ℕ, zero, suc, ◌-◌, ◌*◌, Bool, cond, ◌&&◌, List, replicate, ◌==◌, nat_lt, slice_index_or, Float}
use mathlib.Core.List.{foldl, foldr}
use Rattle.std.specs.Float.{nan, binary64}
use Rattle.std.specs.Float.Ieee.{add, mul, div}
use Rattle.regions.specs.Doubles.{double, one, two}
use Rattle.regions.specs.Region.{zero_f}
use Rattle.graph.specs.Edges.{Graph}
use Rattle.predecessors.specs.Order.{order, predecessors}
use Rattle.brandes.specs.Shares.{share, passed, ways}

-- delta and the total of each ordered pair, while the nodes leave
pub record Totals : Type 0 where
  pub delta : List Float
  pub total : ℕ → ℕ → Float

-- the total t of the pair (a, b), after the predecessor entry v of w added its share to the pair (v, w)
abbrev pub crossing : (ℕ → Float) → ℕ → Float → ℕ → ℕ → Float → ℕ → Float
crossing counts w grown a b t v = cond (v == a && w == b) (add binary64 t (share (counts v) (counts w) grown)) t

-- w leaves: each predecessor entry v takes its share, and the pair (v, w) the same
unfoldable pub leave_by : (ℕ → Float) → (ℕ → List ℕ) → ℕ → Totals → Totals
leave_by counts entries w x =
    record {
      delta = passed counts entries w x.delta;
      total = λ a b. foldl (crossing counts w (add binary64 one (slice_index_or x.delta w nan)) a b) (x.total a b) (entries w);
    }

-- ---- the starts

-- from one start s: delta is +0.0 at each node and the totals go on from those given, then the nodes leave in reverse breadth-first order
unfoldable pub totals_from : Graph → ℕ → (ℕ → ℕ → Float) → Totals
totals_from g s total = foldr (leave_by (ways g s) (predecessors g s)) (record { delta = replicate g.nodes zero_f; total = total }) (order g s)

-- the totals after the starts 0 to k - 1
unfoldable pub totals_after : Graph → ℕ → ℕ → ℕ → Float
totals_after g zero a b = zero_f
totals_after g (suc k) a b = (totals_from g k (totals_after g k)).total a b

-- ---- the scaling

-- normalized and n > 1: times 1/(n(n-1)) directed, 2/(n(n-1)) undirected; else as it is
unfoldable pub scaled_total : ℕ → Bool → Bool → Float → Float
scaled_total n directed normalized x =
    cond (normalized && nat_lt 1 n) (mul binary64 x (div binary64 (cond directed one two) (double (n * (n - 1))))) x
