-- The numbers of the pairs beside the rows, and the totals at them: kept where the rows, the numbers and the totals stay. Assumes nothing.
use mathlib.Core.Path.{◌≡◌, sym, ap, ◌∙◌}
use mathlib.Core.List.{List, Memᴰ}
use Prim.Native.Nat.{ℕ, ◌+◌, ◌*◌, ◌≤◌, ◌<◌}
use native.Mathlib.Omega.{arith}
use lib.ListN.{get_or}
use lib.Ieee.{Float, nan}
use Rattle.graph.specs.Edges.{Graph, entries}
use Rattle.graph.specs.Layout.{beside_at, distances_at, totals_at}
use Rattle.hops.specs.Search.{RowsOf}
use Rattle.pairs.specs.Numbers.{first_at, number_in, Numbered}
use Rattle.pairs.proofs.Numbers.{row_before, number_below}
use Rattle.pair_starts.specs.Starts.{TotalsHeld}

module _ {g : Graph} (m : ℕ) {w : List ℕ} {top : ℕ} (R : RowsOf g w top) (most : get_or w g.nodes 0 ≤ 2 * m) where
  -- the rows end before the numbers beside them
  pub rows_low : RowsOf g w (beside_at g.nodes m)
  rows_low = record { long = R.long; inside = λ v h. omega (arith, R.long v h, row_before R v g.nodes h (omega arith)); entry = R.entry }

  pub number_low : (v x : ℕ) → v < g.nodes → Memᴰ x (entries g v) → number_in w g v x < 2 * m
  number_low v x h k = omega (arith, number_below R v x h k)

  -- the numbers stand where they stood
  pub numbered_after : (w' : List ℕ) → ((i : ℕ) → i < distances_at g.nodes m → get_or w' i 0 ≡ get_or w i 0) → Numbered g (number_in w g) w (beside_at g.nodes m) → Numbered g (number_in w' g) w' (beside_at g.nodes m)
  numbered_after w' same N v j h l =
      ap (λ (o : ℕ). get_or w' (beside_at g.nodes m + (o + j)) 0) (same v (omega arith))
      ∙ same (beside_at g.nodes m + (get_or w v 0 + j)) (omega (arith, row_before R v g.nodes h (omega arith)))
      ∙ N v j h l
      ∙ ap (λ (o : ℕ). o + first_at (get_or (entries g v) j 0) (entries g v)) (sym (same v (omega arith)))

  -- the totals stand where they stood
  pub totals_after_lem : {f f' : List Float} {total : ℕ → ℕ → Float} (w' : List ℕ) → ((v : ℕ) → v < g.nodes → get_or w' v 0 ≡ get_or w v 0) → ((i : ℕ) → i < 2 * m → get_or f' (totals_at g.nodes + i) nan ≡ get_or f (totals_at g.nodes + i) nan)
      → TotalsHeld g w f total → TotalsHeld g w' f' total
  totals_after_lem {f} {f'} w' same kept T =
      record {
        at = λ v x h k.
            ap (λ (o : ℕ). get_or f' (totals_at g.nodes + (o + first_at x (entries g v))) nan) (same v h)
            ∙ kept (number_in w g v x) (number_low v x h k)
            ∙ T.at v x h k;
      }
