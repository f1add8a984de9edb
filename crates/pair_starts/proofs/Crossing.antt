-- One start with pairs: from the workspace between two starts through search, accumulation and taking back to the next. Assumes nothing.
use mathlib.Core.Path.{◌≡◌, refl, ◌∙◌}
use mathlib.Core.List.{List, foldr, Memᴰ}
use Prim.Native.Nat.{ℕ, ◌+◌, ◌*◌, ◌<◌}
use native.Mathlib.Omega.{arith}
use lib.ListN.{length, get_or}
use lib.Ieee.{Float, nan}
use Rattle.regions.specs.Region.{zero_f, part, Front}
use Rattle.regions.proofs.Frames.{frame2_front}
use Rattle.graph.specs.Edges.{Graph, entries}
use Rattle.graph.specs.Fronts.{usual_fronts}
use Rattle.graph.specs.Layout.{distances_at, queue_at, totals_at}
use Rattle.hops.specs.Hops.{unreached, dist}
use Rattle.hops.specs.Search.{RowsOf, Forgotten}
use Rattle.predecessors.specs.Order.{predecessors}
use Rattle.brandes.specs.Steps.{held_predecessors, Released}
use Rattle.predecessors.specs.Tracks.{Traced, Stays}
use Rattle.pairs.specs.Numbers.{number_in}
use Rattle.pair_search.specs.Pairs.{Paired, HeldPairs}
use Rattle.crossings.specs.Crossings.{held_pairs, left_across, AcrossPre}
use Rattle.pairs.proofs.Numbers.{rows_rise, number_injective}
use Rattle.crossings.proofs.Across.{across_pre, total_is, crossed_delta, crossed_frame}
use Rattle.starts.proofs.Starting.{low_next, release_pre, still_next}
use Rattle.crossings.specs.Totals.{totals_from}
use Rattle.starts.specs.Starts.{tracks_at}
use Rattle.pair_starts.specs.Starts.{paired_at, StillPairs, TotalsHeld}
use Rattle.pair_starts.proofs.Numbering.{number_low, numbered_after, totals_after_lem}

module _ {g : Graph} {m s : ℕ} {w c : List ℕ} {f : List Float} (S : StillPairs g m w c f) (h : s < g.nodes) where
  rows : RowsOf g w (distances_at g.nodes m)
  rows = (S.still.space s h).rows

  pub paired : Paired g.nodes (paired_at g.nodes m) w
  paired =
      record {
        before = λ v l. omega (arith, rows_rise rows (v + 1) g.nodes (omega arith) (omega arith), S.most);
        lasts = omega arith;
        ends = omega (arith, S.still.top);
      }

  module _ {w1 c1 : List ℕ} {tail : ℕ} (stays : Stays g.nodes (tracks_at g.nodes m) w c w1 c1)
      (R : Traced g (tracks_at g.nodes m) s w1 c1 tail)
      (f1 : List Float) (front1 : Front f (usual_fronts g.nodes m).floats f1)
      {w2 c2 : List ℕ} (X : Forgotten tail (distances_at g.nodes m) (queue_at g.nodes m) w1 c1 w2 c2)
      {w3 : List ℕ} {f2 : List Float} (Y : Released (tracks_at g.nodes m) tail w2 f1 w3 f2) where
    -- the rows and the numbers are as they were
    low : (i : ℕ) → i < distances_at g.nodes m → get_or w3 i 0 ≡ get_or w i 0
    low i l = low_next S.still stays R f1 front1 X Y i l

    pub pairs_next : ((x : ℕ) → x < g.nodes → dist g s x ≡ unreached → get_or f1 (g.nodes + x) nan ≡ zero_f) → StillPairs g m w3 c2 f2
    pairs_next kept-delta =
        record {
          still = still_next S.still stays R f1 front1 X Y kept-delta;
          most = omega (arith, S.most, low g.nodes (omega arith));
          numbered = numbered_after m rows S.most w3 low S.numbered;
          room = omega (arith, S.room, front1.long, Y.long_floats);
        }

    pub totals_next : {total : ℕ → ℕ → Float} → TotalsHeld g w f1 total → TotalsHeld g w3 f2 total
    totals_next T =
        totals_after_lem m rows S.most w3 (λ v l. low v (omega arith))
        (λ i l. Y.kept_floats (4 * g.nodes + i) (λ k q e. omega (arith, (release_pre S.still stays R f1 front1 X).queued k q))) T

-- ---- the accumulation

module _ {g : Graph} {m s : ℕ} {w c : List ℕ} {f : List Float} (S : StillPairs g m w c f) (h : s < g.nodes)
    {w1 c1 : List ℕ} {tail : ℕ} (R : Traced g (tracks_at g.nodes m) s w1 c1 tail)
    (H : HeldPairs g.nodes (paired_at g.nodes m) (number_in w g) w1 (predecessors g s)) where
  places : (a b : ℕ) → a < g.nodes → Memᴰ b (entries g a) → number_in w g a b < 2 * m
  places = number_low m (rows S h) S.most

  inside : (a b : ℕ) → a < g.nodes → Memᴰ b (entries g a) → totals_at g.nodes + number_in w g a b < length f
  inside a b l k = omega (arith, places a b l k, S.room)

  pub across_asks : AcrossPre (paired_at g.nodes m) tail w1 c1 f
  across_asks = across_pre (number_in w g) (paired_at g.nodes m) refl R H (omega arith) (omega arith) S.still.floats inside

  module _ (f1 : List Float)
      (acc : f1 ≡ foldr (left_across g.nodes (totals_at g.nodes) c1 (held_predecessors (tracks_at g.nodes m) w1) (held_pairs (paired_at g.nodes m) w1)) f (part w1 (queue_at g.nodes m) tail)) where
    pub total_front : Front f (usual_fronts g.nodes m).floats f1
    total_front =
        frame2_front (usual_fronts g.nodes m).floats (omega arith) (omega arith)
        (crossed_frame (number_in w g) (paired_at g.nodes m) refl R H (omega arith) (totals_at g.nodes) (omega arith) f f1 acc (2 * m) places)

    pub total_kept : (x : ℕ) → x < g.nodes → dist g s x ≡ unreached → get_or f1 (g.nodes + x) nan ≡ zero_f
    total_kept x l e = crossed_delta (number_in w g) (paired_at g.nodes m) refl R H (omega arith) (totals_at g.nodes) (omega arith) f f1 acc x l e ∙ S.still.deltas x l

    pub totalled : {total : ℕ → ℕ → Float} → TotalsHeld g w f total → TotalsHeld g w f1 (totals_from g s total).total
    unfolding totals_from
    totalled T =
        record {
          at =
              total_is (number_in w g) (paired_at g.nodes m) refl R H (omega arith) (totals_at g.nodes) (omega arith) f f1 acc (number_injective (rows S h)) S.still.floats inside
              S.still.deltas T.at;
        }
