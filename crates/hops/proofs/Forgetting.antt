-- Taking back a search: node by node of its queue, until no node has a distance or a count. Assumes nothing.
use mathlib.Core.Path.{◌≡◌, refl, sym, ap, ◌∙◌}
use mathlib.Core.Logic.{◌≢◌, ◌⊎◌, inl, inr}
use mathlib.Core.List.{List}
use Prim.Native.Nat.{ℕ, ◌+◌, ◌<◌}
use native.Mathlib.Omega.{arith}
use lib.ListN.{length, get_or, set, length-set}
use Rattle.regions.proofs.Fronts.{front_by, hit, miss}
use Rattle.regions.proofs.Frames.{frame2_by}
use Rattle.graph.specs.Edges.{Graph}
use Rattle.hops.specs.Hops.{unreached, dist}
use Rattle.hops.specs.Search.{Space, Fresh, Kept, Found, ForgetPre, Forgotten}
use Rattle.hops.proofs.Sums.{eq_or_ne}
use Rattle.hops.proofs.Dist.{count_unreached}
use Rattle.hops.proofs.Search.{space_after}

pub forgotten_none : (D Q : ℕ) (w c : List ℕ) → Forgotten 0 D Q w c w c
forgotten_none D Q w c =
    record {
      long = refl;
      long_counts = refl;
      far = λ i l. absurd (omega arith);
      none = λ i l. absurd (omega arith);
      kept = λ k h. refl;
      kept_counts = λ k h. refl;
    }

module _ {tail D Q : ℕ} {w₀ c₀ : List ℕ} (pre : ForgetPre tail D Q w₀ c₀) {i : ℕ} {w c : List ℕ} (F : Forgotten i D Q w₀ c₀ w c) (l : i < tail) where
  -- the queue is as it was
  pub queue_kept : get_or w (Q + i) 0 ≡ get_or w₀ (Q + i) 0
  queue_kept = F.kept (Q + i) (λ k h e. omega (arith, pre.before k (omega arith)))

  pub in_queue : Q + i < length w
  in_queue = omega (arith, pre.room, F.long)

  pub distance_in : D + get_or w (Q + i) 0 < length w
  distance_in = omega (arith, pre.room, F.long, queue_kept, pre.before i l)

  pub count_in_lem : get_or w (Q + i) 0 < length c
  count_in_lem = omega (arith, F.long_counts, queue_kept, pre.counted i l)

  pub forgotten_more : Forgotten (i + 1) D Q w₀ c₀ (set w (D + get_or w (Q + i) 0) unreached) (set c (get_or w (Q + i) 0) 0)
  forgotten_more =
      record {
        long = length-set w (D + v) unreached ∙ F.long;
        long_counts = length-set c v 0 ∙ F.long_counts;
        far = λ k h. far' k h (eq_or_ne (get_or w₀ (Q + k) 0) v) (eq_or_ne k i);
        none = λ k h. none' k h (eq_or_ne (get_or w₀ (Q + k) 0) v) (eq_or_ne k i);
        kept = λ k h. miss w (D + v) unreached k (λ e. h i (omega arith) (omega (arith, queue_kept))) ∙ F.kept k (λ j q. h j (omega arith));
        kept_counts = λ k h. miss c v 0 k (λ e. h i (omega arith) (e ∙ queue_kept)) ∙ F.kept_counts k (λ j q. h j (omega arith));
      }
    where
      v : ℕ
      v = get_or w (Q + i) 0

      far' : (k : ℕ) → k < i + 1 → (get_or w₀ (Q + k) 0 ≡ v) ⊎ (get_or w₀ (Q + k) 0 ≢ v) → (k ≡ i) ⊎ (k ≢ i) → get_or (set w (D + v) unreached) (D + get_or w₀ (Q + k) 0) 0 ≡ unreached
      far' k h (inl e) d = hit w (D + v) unreached (D + get_or w₀ (Q + k) 0) (ap (λ (x : ℕ). D + x) e) (omega (arith, distance_in))
      far' k h (inr n) (inl e) = absurd (n (ap (λ (x : ℕ). get_or w₀ (Q + x) 0) e ∙ sym queue_kept))
      far' k h (inr n) (inr d) = miss w (D + v) unreached (D + get_or w₀ (Q + k) 0) (λ e. n (omega arith)) ∙ F.far k (omega arith)

      none' : (k : ℕ) → k < i + 1 → (get_or w₀ (Q + k) 0 ≡ v) ⊎ (get_or w₀ (Q + k) 0 ≢ v) → (k ≡ i) ⊎ (k ≢ i) → get_or (set c v 0) (get_or w₀ (Q + k) 0) 0 ≡ 0
      none' k h (inl e) d = hit c v 0 (get_or w₀ (Q + k) 0) e (omega (arith, count_in_lem))
      none' k h (inr n) (inl e) = absurd (n (ap (λ (x : ℕ). get_or w₀ (Q + x) 0) e ∙ sym queue_kept))
      none' k h (inr n) (inr d) = miss c v 0 (get_or w₀ (Q + k) 0) n ∙ F.none k (omega arith)

-- ---- after a search

module _ {g : Graph} {limit s D Q tail : ℕ} {w c : List ℕ} (F : Found g limit s w c D Q tail) where
  pub forget_pre : ForgetPre tail D Q w c
  forget_pre =
      record {
        room = omega (arith, F.taken, F.space.room);
        before = λ i l. omega (arith, (F.queued i l).0, F.space.apart);
        counted = λ i l. omega (arith, (F.queued i l).0, F.space.counts);
      }

  module _ {w' c' : List ℕ} (X : Forgotten tail D Q w c w' c') where
    -- no node has a distance or a count
    pub fresh_again : Fresh g.nodes w' c' D
    fresh_again = record { far = λ v hv. far' v hv (eq_or_ne (dist g s v) unreached); none = λ v hv. none' v hv (eq_or_ne (dist g s v) unreached) }
      where
        off : (v : ℕ) → dist g s v ≡ unreached → (i : ℕ) → i < tail → v ≢ get_or w (Q + i) 0
        off v e i l p = (F.queued i l).1 (ap (dist g s) (sym p) ∙ e)

        far' : (v : ℕ) → v < g.nodes → (dist g s v ≡ unreached) ⊎ (dist g s v ≢ unreached) → get_or w' (D + v) 0 ≡ unreached
        far' v hv (inl e) = X.kept (D + v) (λ i l p. off v e i l (omega arith)) ∙ F.dists v hv ∙ e
        far' v hv (inr n) = let r = F.reached v hv n in ap (λ (x : ℕ). get_or w' (D + x) 0) (sym r.2) ∙ X.far r.0 r.1

        none' : (v : ℕ) → v < g.nodes → (dist g s v ≡ unreached) ⊎ (dist g s v ≢ unreached) → get_or c' v 0 ≡ 0
        none' v hv (inl e) = X.kept_counts v (λ i l p. off v e i l p) ∙ F.ways v hv ∙ count_unreached g s v e
        none' v hv (inr n) = let r = F.reached v hv n in ap (λ (x : ℕ). get_or c' x 0) (sym r.2) ∙ X.none r.0 r.1

    pub forgotten_kept : Kept g.nodes D Q w c w' c'
    forgotten_kept =
        record {
          narrow = frame2_by 0 X.long (λ j p q. X.kept j (λ i l e. p (omega arith) (omega (arith, (F.queued i l).0))));
          wide = front_by 0 X.long_counts (λ j l. X.kept_counts j (λ i h e. omega (arith, (F.queued i h).0)));
        }

    -- and the next search may begin, from any start
    pub space_again : {s' : ℕ} → s' < g.nodes → Space g s' w' c' D Q
    space_again {s'} hs =
        let H = space_after F.space w' c' X.long X.long_counts (λ i l. X.kept i (λ k h e. omega arith)) in
        record { valid = H.valid; start = hs; rows = H.rows; apart = H.apart; room = H.room; counts = H.counts }
