-- Labels d and c of the nodes that agree from entry to entry are `dist` and `count`: what a breadth-first search has to come to. Assumes nothing.
use mathlib.Core.Path.{◌≡◌, refl, sym, ap, ◌∙◌, subst}
use mathlib.Core.Logic.{◌≢◌, ◌⊎◌, inl, inr}
use mathlib.Core.Bool.{Bool}
use mathlib.Core.List.{Memᴰ}
use Prim.Native.Nat.{ℕ, zero, suc, ◌+◌, ◌*◌, ◌≤◌, ◌<◌}
use native.Mathlib.Nat.{eq-zero-or-pos}
use native.Mathlib.Omega.{arith}
use lib.Dec.{eqb}
use Rattle.graph.specs.Edges.{Graph, entries}
use Rattle.hops.specs.Sum.{sum_over, below, same, only_if, times}
use Rattle.hops.specs.Hops.{Valid, unreached, walks, dist, count}
use Rattle.hops.specs.Search.{share, Comes}
use Rattle.hops.proofs.Sums.{eq_or_ne, eqb_yes, eqb_no, same_yes, same_pos, below_cong}
use Rattle.hops.proofs.Walks.{walks_via}
use Rattle.hops.proofs.Dist.{Fewest, Never, on_way, fewest_dist, fewest_count, count_unreached, unreached_never, entry_walk, walk_entry, level_count}

-- the labels that a search from s is to leave: no word of hop sequences
pub record Labels (g : Graph) (s : ℕ) (d c : ℕ → ℕ) : Type 0 where
  pub start : d s ≡ 0
  pub start_count : c s ≡ 1
  -- a label comes from an entry
  pub comes : (v : ℕ) → v < g.nodes → v ≢ s → d v ≢ unreached → Comes g d v
  -- and goes on to every entry
  pub goes : (u v : ℕ) → u < g.nodes → d u ≢ unreached → Memᴰ v (entries g u) → (d v ≢ unreached) × (d v ≤ d u + 1)
  -- the number of ways into v, over the nodes one hop nearer
  pub ways : (v : ℕ) → v < g.nodes → v ≢ s → d v ≢ unreached → c v ≡ sum_over (below g.nodes) (λ u. share (d u) (d v) (c u) (times v (entries g u)))
  pub no_ways : (v : ℕ) → v < g.nodes → d v ≡ unreached → c v ≡ 0

-- labels that come from entries are numbers of hops that lead there
module _ (g : Graph) (ok : Valid g) (s : ℕ) (hs : s < g.nodes) (d : ℕ → ℕ) (start : d s ≡ 0) (comes : (v : ℕ) → v < g.nodes → v ≢ s → d v ≢ unreached → Comes g d v) where
  pub reach : (k v : ℕ) → v < g.nodes → d v ≡ k → k ≢ unreached → 0 < walks g k s v
  unfolding walks
  reach zero v hv e u = go (eq_or_ne v s)
    where
      go : (v ≡ s) ⊎ (v ≢ s) → 0 < same s v
      go (inl p) = omega (arith, same_yes (sym p))
      go (inr n) = let r = comes v hv n (λ q. u (sym e ∙ q)) in absurd (omega (arith, r.3))
  reach (suc k) v hv e u = go (reach k) (eq_or_ne v s)
    where
      go : ((w : ℕ) → w < g.nodes → d w ≡ k → k ≢ unreached → 0 < walks g k s w) → (v ≡ s) ⊎ (v ≢ s) → 0 < walks g (suc k) s v
      go ih (inl p) = absurd (omega (arith, ap d p, start))
      go ih (inr n) =
          let r = comes v hv n (λ q. u (sym e ∙ q)) in
          let at : d r.0 ≡ k = omega (arith, r.3) in
          let last : k + 1 ≡ suc k = omega arith in
          subst (λ (t : ℕ). 0 < walks g t s v) last (walks_via g ok.inside k 1 s r.0 v hs r.1 (ih r.0 r.1 at (λ q. r.2 (at ∙ q))) (entry_walk g ok r.0 v r.4))

module _ (g : Graph) (ok : Valid g) (s : ℕ) (hs : s < g.nodes) (d c : ℕ → ℕ) (L : Labels g s d c) where
  upper : (k v : ℕ) → 0 < walks g k s v → (d v ≢ unreached) × (d v ≤ k)
  unfolding walks
  upper zero v h = let p : d v ≡ 0 = ap d (sym (same_pos s v h)) ∙ L.start in (λ q. omega arith, omega arith)
  upper (suc k) v h =
      let last : suc k ≡ k + 1 = omega arith in
      let r = on_way g ok.inside k 1 s v hs (subst (λ (t : ℕ). 0 < walks g t s v) last h) in
      let p = upper k r.0 r.2 in
      let q = L.goes r.0 v r.1 p.0 (walk_entry g ok r.0 v r.3) in
      (q.0, omega (arith, q.1, p.1))

  labels_fewest : (v : ℕ) → v < g.nodes → d v ≢ unreached → Fewest g s v (d v)
  labels_fewest v hv u = record { here = reach g ok s hs d L.start L.comes (d v) v hv refl u; before = λ j h. go j h (eq-zero-or-pos (walks g j s v)) }
    where
      go : (j : ℕ) → j < d v → (walks g j s v ≡ 0) ⊎ (0 < walks g j s v) → walks g j s v ≡ 0
      go j h (inl z) = z
      go j h (inr z) = absurd (omega (arith, (upper j v z).1))

  pub labels_dist : (v : ℕ) → v < g.nodes → dist g s v ≡ d v
  labels_dist v hv = go (eq_or_ne (d v) unreached)
    where
      go : (d v ≡ unreached) ⊎ (d v ≢ unreached) → dist g s v ≡ d v
      go (inl e) = (unreached_never g ok s v hs).1 never ∙ sym e
        where
          never : Never g s v
          never k = pick (eq-zero-or-pos (walks g k s v))
            where
              pick : (walks g k s v ≡ 0) ⊎ (0 < walks g k s v) → walks g k s v ≡ 0
              pick (inl z) = z
              pick (inr z) = absurd ((upper k v z).0 e)
      go (inr u) = fewest_dist g ok.inside s v (d v) hs (labels_fewest v hv u)

  count_at : (k v : ℕ) → v < g.nodes → d v ≡ k → k ≢ unreached → count g s v ≡ c v
  unfolding walks share
  count_at zero v hv e u = go (eq_or_ne v s)
    where
      go : (v ≡ s) ⊎ (v ≢ s) → count g s v ≡ c v
      go (inl p) =
          fewest_count g ok s v (d v) hs (labels_fewest v hv (λ q. u (sym e ∙ q))) ∙ ap (λ (k : ℕ). walks g k s v) e
          ∙ same_yes (sym p) ∙ sym (ap c p ∙ L.start_count)
      go (inr n) = let r = L.comes v hv n (λ q. u (sym e ∙ q)) in absurd (omega (arith, r.3))
  count_at (suc k) v hv e u = go (count_at k) (eq_or_ne v s)
    where
      go : ((w : ℕ) → w < g.nodes → d w ≡ k → k ≢ unreached → count g s w ≡ c w) → (v ≡ s) ⊎ (v ≢ s) → count g s v ≡ c v
      go ih (inl p) = absurd (omega (arith, ap d p, L.start))
      go ih (inr n) =
          let r = L.comes v hv n (λ q. u (sym e ∙ q)) in
          let f : Fewest g s v (suc k) = subst (λ (t : ℕ). Fewest g s v t) e (labels_fewest v hv (λ q. u (sym e ∙ q))) in
          level_count g ok s v k hs f
          ∙ below_cong g.nodes (λ w hw. term (λ q. r.2 (omega (arith, r.3))) w hw (eq_or_ne (d w) k))
          ∙ sym (L.ways v hv n (λ q. u (sym e ∙ q)))
        where
          into : ℕ → ℕ
          into w = times v (entries g w)

          term : k ≢ unreached → (w : ℕ) → w < g.nodes → (d w ≡ k) ⊎ (d w ≢ k) → only_if (eqb (dist g s w) k) (count g s w * into w) ≡ share (d w) (d v) (c w) (into w)
          term ku w hw (inl x) =
              ap (λ (t : Bool). only_if t (count g s w * into w)) (eqb_yes (labels_dist w hw ∙ x)) ∙ ap (λ (m : ℕ). m * into w) (ih w hw x ku)
              ∙ sym (ap (λ (t : Bool). only_if t (c w * into w)) (eqb_yes {x = d w + 1} {y = d v} (omega arith)))
          term ku w hw (inr x) =
              ap (λ (t : Bool). only_if t (count g s w * into w)) (eqb_no (λ q. x (sym (labels_dist w hw) ∙ q)))
              ∙ sym (ap (λ (t : Bool). only_if t (c w * into w)) (eqb_no {x = d w + 1} {y = d v} (λ q. x (omega arith))))

  pub labels_count : (v : ℕ) → v < g.nodes → count g s v ≡ c v
  labels_count v hv = go (eq_or_ne (d v) unreached)
    where
      go : (d v ≡ unreached) ⊎ (d v ≢ unreached) → count g s v ≡ c v
      go (inl e) = count_unreached g s v (labels_dist v hv ∙ e) ∙ sym (L.no_ways v hv e)
      go (inr u) = count_at (d v) v hv refl u
