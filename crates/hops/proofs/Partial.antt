-- Within a search: the labels given so far are the fewest hops, and the ways counted so far are no more than the number of fewest hop sequences.
-- Assumes nothing.
use mathlib.Core.Path.{◌≡◌, refl, sym, ap, ◌∙◌, subst}
use mathlib.Core.Logic.{◌≢◌, ◌⊎◌, inl, inr}
use mathlib.Core.Bool.{Bool}
use mathlib.Core.List.Memᴰ
use mathlib.Core.List.{List, [], ◌∷◌, ◌++◌, Memᴰ}
use Prim.Native.Nat.{ℕ, zero, suc, ◌+◌, ◌*◌, ◌≤◌, ◌<◌}
use native.Mathlib.Nat.{eq-zero-or-pos, zero-mul, one-mul, mul-le-mul_right}
use native.Mathlib.Omega.{arith}
use lib.Dec.{eqb}
use Rattle.graph.specs.Edges.{Graph, entries}
use Rattle.hops.specs.Sum.{sum_over, only_if, same, times}
use Rattle.hops.specs.Hops.{Valid, unreached, walks, dist, count}
use Rattle.hops.specs.Search.{share, has, Mid}
use Rattle.hops.proofs.Sums.{eq_or_ne, eqb_yes, same_no, same_pos, sum_append, sum_zero, sum_times, sum_cong_mem, below_mono}
use Rattle.hops.proofs.Dist.{Fewest, on_way, fewest_dist, fewest_count, walk_entry, level_count}
use Rattle.hops.proofs.Labels.{reach}
use Rattle.hops.proofs.Steps.{share_yes, share_no, has_no, has_le, queued, all_near}

module _ {g : Graph} (ok : Valid g) {s : ℕ} (hs : s < g.nodes) {d c : ℕ → ℕ} {done : List ℕ} {u : ℕ} {seen rest : List ℕ} (M : Mid g s d c done u seen rest) where
  -- a node with a label below that of u is done
  nearer_done : (w : ℕ) → w < g.nodes → d w ≢ unreached → d w < d u → Memᴰ w done
  nearer_done w hw l lt = go (Memᴰ.append_cases done (queued M w hw l))
    where
      go : Memᴰ w done ⊎ Memᴰ w (u ∷ rest) → Memᴰ w done
      go (inl m) = m
      go (inr m) = pick (Memᴰ.cases_cons m)
        where
          pick : (w ≡ u) ⊎ Memᴰ w rest → Memᴰ w done
          pick (inl e) = absurd (omega (arith, ap d e))
          pick (inr n) = absurd (omega (arith, (M.later w n).0))

  -- whatever lies within d u hops has a label, and one that is no larger
  pub within : (k v : ℕ) → k ≤ d u → 0 < walks g k s v → (d v ≢ unreached) × (d v ≤ k)
  unfolding walks
  within zero v l h = let p : d v ≡ 0 = ap d (sym (same_pos s v h)) ∙ M.start in (λ q. omega arith, omega arith)
  within (suc k) v l h =
      let last : suc k ≡ k + 1 = omega arith in
      let r = on_way g ok.inside k 1 s v hs (subst (λ (t : ℕ). 0 < walks g t s v) last h) in
      let p = within k r.0 (omega arith) r.2 in
      let q = M.goes r.0 (nearer_done r.0 r.1 p.0 (omega (arith, p.1))) v (walk_entry g ok r.0 v r.3) in
      (q.0, omega (arith, q.1, p.1))

  -- a label is the fewest number of hops
  pub label_fewest : (v : ℕ) → v < g.nodes → d v ≢ unreached → Fewest g s v (d v)
  label_fewest v hv l = record { here = reach g ok s hs d M.start M.comes (d v) v hv refl l; before = λ j h. go j h (eq-zero-or-pos (walks g j s v)) }
    where
      go : (j : ℕ) → j < d v → (walks g j s v ≡ 0) ⊎ (0 < walks g j s v) → walks g j s v ≡ 0
      go j h (inl z) = z
      go j h (inr z) = absurd (omega (arith, (within j v (omega (arith, all_near M v hv l)) z).1))

  pub label_dist : (v : ℕ) → v < g.nodes → d v ≢ unreached → dist g s v ≡ d v
  label_dist v hv l = fewest_dist g ok.inside s v (d v) hs (label_fewest v hv l)

  -- what the nodes done and u, by all of its entries, give to v
  into : ℕ → ℕ → ℕ
  into v w = share (d w) (d v) (c w) (times v (entries g w))

  share_le : (dw dv cw a b : ℕ) → a ≤ b → share dw dv cw a ≤ share dw dv cw b
  unfolding share
  share_le dw dv cw a b h = go (eq_or_ne (dw + 1) dv)
    where
      go : (dw + 1 ≡ dv) ⊎ (dw + 1 ≢ dv) → share dw dv cw a ≤ share dw dv cw b
      go (inl e) = let q : a * cw ≤ b * cw = mul-le-mul_right cw h in omega (arith, share_yes dw dv cw a e, share_yes dw dv cw b e)
      go (inr n) = omega (arith, share_no dw dv cw a n, share_no dw dv cw b n)

  pub ways_most : ((v : ℕ) → times v seen ≤ times v (entries g u)) → (k v : ℕ) → v < g.nodes → d v ≡ k → k ≢ unreached → c v ≤ count g s v
  unfolding walks sum_over into
  ways_most part zero v hv e l = go (eq_or_ne v s)
    where
      one : (w m : ℕ) → share (d w) (d v) (c w) m ≡ 0
      one w m = share_no (d w) (d v) (c w) m (λ p. omega arith)

      go : (v ≡ s) ⊎ (v ≢ s) → c v ≤ count g s v
      go (inl p) =
          let f : Fewest g s v 0 = subst (λ (t : ℕ). Fewest g s v t) e (label_fewest v hv (λ q. l (sym e ∙ q))) in
          let none : sum_over done (into v) ≡ 0 = sum_cong_mem done (λ w m. one w (times v (entries g w))) ∙ sum_zero done in
          omega (arith, fewest_count g ok s v 0 hs f, M.ways v hv (λ q. l (sym e ∙ q)), none, one u (times v seen))
      go (inr n) = let r = M.comes v hv n (λ q. l (sym e ∙ q)) in absurd (omega (arith, r.3))
  ways_most part (suc k) v hv e l = all (ways_most part k)
    where
      lab : d v ≢ unreached
      lab q = l (sym e ∙ q)

      f : Fewest g s v (suc k)
      f = subst (λ (t : ℕ). Fewest g s v t) e (label_fewest v hv lab)

      not_s : s ≢ v
      not_s p = omega (arith, ap d p, M.start)

      term : ℕ → ℕ
      term w = only_if (eqb (dist g s w) k) (count g s w * times v (entries g w))

      sums : c v ≤ sum_over (done ++ (u ∷ [])) (into v)
      sums = omega (arith, M.ways v hv lab, same_no not_s, sum_append done (u ∷ []) (into v), share_le (d u) (d v) (c u) (times v seen) (times v (entries g u)) (part v))

      inside : (w : ℕ) → Memᴰ w (done ++ (u ∷ [])) → w < g.nodes
      inside w m = go (Memᴰ.append_cases done m)
        where
          go : Memᴰ w done ⊎ Memᴰ w (u ∷ []) → w < g.nodes
          go (inl n) = M.nodes w (Memᴰ.append_left (u ∷ rest) n)
          go (inr n) = M.nodes w (Memᴰ.append_right done (Memᴰ.head (Memᴰ.eq_of_singleton n)))

      once : (w : ℕ) → w < g.nodes → times w (done ++ (u ∷ [])) ≤ has (d w)
      once w hw = omega (arith, M.once w hw, sum_append done (u ∷ []) (λ x. same x w), sum_append done (u ∷ rest) (λ x. same x w))

      all : ((w : ℕ) → w < g.nodes → d w ≡ k → k ≢ unreached → c w ≤ count g s w) → c v ≤ count g s v
      all ih =
          omega (arith, sums, sum_times g.nodes (done ++ (u ∷ [])) (into v) inside, level_count g ok s v k hs f, below_mono g.nodes (λ w. times w (done ++ (u ∷ [])) * into v w) term (λ w hw. each w hw (eq_or_ne (d w) unreached) (eq_or_ne (d w + 1) (d v))))
        where
          each : (w : ℕ) → w < g.nodes → (d w ≡ unreached) ⊎ (d w ≢ unreached) → (d w + 1 ≡ d v) ⊎ (d w + 1 ≢ d v) → times w (done ++ (u ∷ [])) * into v w ≤ term w
          each w hw (inl z) y =
              let t : times w (done ++ (u ∷ [])) ≡ 0 = omega (arith, once w hw, has_no z) in
              omega (arith, ap (λ (x : ℕ). x * into v w) t, zero-mul (into v w))
          each w hw (inr q) (inr y) =
              let z : into v w ≡ 0 = share_no (d w) (d v) (c w) (times v (entries g w)) y in
              omega (arith, ap (λ (x : ℕ). times w (done ++ (u ∷ [])) * x) z)
          each w hw (inr q) (inl y) =
              let at : d w ≡ k = omega arith in
              let t : times w (done ++ (u ∷ [])) * into v w ≤ 1 * into v w = mul-le-mul_right (into v w) (omega (arith, once w hw, has_le (d w))) in
              let i : into v w ≡ c w * times v (entries g w) = share_yes (d w) (d v) (c w) (times v (entries g w)) y in
              let m : c w * times v (entries g w) ≤ count g s w * times v (entries g w) = mul-le-mul_right (times v (entries g w)) (ih w hw at (λ p. q (at ∙ p))) in
              let r : term w ≡ count g s w * times v (entries g w) = ap (λ (b : Bool). only_if b (count g s w * times v (entries g w))) (eqb_yes (label_dist w hw q ∙ at)) in
              omega (arith, one-mul (into v w))
