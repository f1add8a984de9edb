-- `dist` is the fewest number of hops, and no fewest number reaches the number of nodes; the sum over the nodes on the way; the turned graph; levels.
-- Assumes nothing.
use mathlib.Core.Path.{◌≡◌, refl, sym, ap, ap₂, ◌∙◌, subst, fun_ext}
use mathlib.Core.Logic.{◌≢◌, ◌⊎◌, inl, inr, ◌↔◌}
use mathlib.Core.Bool.{Bool, true, false, not, ◌&&◌}
use mathlib.Core.List.{Memᴰ}
use Prim.Native.Nat.{ℕ, zero, suc, ◌+◌, ◌-◌, ◌*◌, ◌≤◌, ◌<◌}
use native.Mathlib.Nat.{zero-mul, mul-one, mul_comm, eq-zero-or-pos}
use native.Mathlib.Omega.{arith}
use lib.Dec.{eqb}
use Rattle.regions.proofs.Cases.{below_or_not}
use Rattle.graph.specs.Edges.{Graph, entries}
use Rattle.hops.specs.Sum.{sum_over, below, same, only_if, times}
use Rattle.hops.specs.Hops.{EndsIn, Valid, unreached, walks, seek, dist, count, turned}
use Rattle.hops.proofs.Sums.{eq_or_ne, eqb_yes, eqb_no, same_yes, sum_cong, below_cong, sum_swap, sum_same, none_below, below_pos, below_some, below_le, below_ge, mem_times, times_mem}
use Rattle.hops.proofs.Walks.{walks_split, walks_via, walks_turn}

-- ---- the first place at which f is not 0

pub record First (f : ℕ → ℕ) (d : ℕ) : Type 0 where
  pub here : 0 < f d
  pub before : (j : ℕ) → j < d → f j ≡ 0

first_not_lt : {f : ℕ → ℕ} {d e : ℕ} → First f d → First f e → ¬ (d < e)
first_not_lt {f} {d} {e} p q h = omega (arith, p.here, q.before d h)

pub first_unique : {f : ℕ → ℕ} {d e : ℕ} → First f d → First f e → d ≡ e
first_unique p q = omega (arith, first_not_lt p q, first_not_lt q p)

-- what `seek` finds
pub Sought : (ℕ → ℕ) → ℕ → ℕ → Type 0
Sought f top r = ((r < top) × First f r) ⊎ ((r ≡ unreached) × ((j : ℕ) → j < top → f j ≡ 0))

seek_does : (f : ℕ → ℕ) (m k : ℕ) → ((j : ℕ) → j < k → f j ≡ 0) → Sought f (k + m) (seek f m k)
unfolding seek Sought
seek_does f zero k h = inr (refl, λ j l. h j (omega arith))
seek_does f (suc m) k h = go (f k) refl (seek_does f m (suc k))
  where
    go : (x : ℕ) → f k ≡ x → (((j : ℕ) → j < suc k → f j ≡ 0) → Sought f (suc k + m) (seek f m (suc k))) → Sought f (k + suc m) (elim x [ zero ↦ seek f m (suc k) | suc y ↦ k ])
    go zero e ih = subst (λ (t : ℕ). Sought f t (seek f m (suc k))) (omega arith) (ih (λ j l. up j l (eq_or_ne j k)))
      where
        up : (j : ℕ) → j < suc k → (j ≡ k) ⊎ (j ≢ k) → f j ≡ 0
        up j l (inl p) = ap f p ∙ e
        up j l (inr q) = h j (omega arith)
    go (suc y) e ih = inl (omega arith, record { here = omega arith; before = h })

pub seek_first : (f : ℕ → ℕ) (m d : ℕ) → First f d → d < m → seek f m 0 ≡ d
unfolding Sought
seek_first f m d p h = go (seek_does f m 0 (λ j l. absurd (omega arith)))
  where
    go : Sought f (0 + m) (seek f m 0) → seek f m 0 ≡ d
    go (inl r) = first_unique r.1 p
    go (inr r) = absurd (omega (arith, p.here, r.1 d (omega arith)))

-- ---- the fewest hops

-- d is the fewest number of hops from a to b
abbrev pub Fewest : Graph → ℕ → ℕ → ℕ → Type 0
Fewest g a b d = First (λ k. walks g k a b) d

-- no hop sequence of any length leads from a to b
abbrev pub Never : Graph → ℕ → ℕ → Type 0
Never g a b = (k : ℕ) → walks g k a b ≡ 0

mul_pos_left : (x y : ℕ) → 0 < x * y → 0 < x
mul_pos_left x y h = go (eq-zero-or-pos x)
  where
    go : (x ≡ 0) ⊎ (0 < x) → 0 < x
    go (inl z) = absurd (omega (arith, ap (λ (t : ℕ). t * y) z ∙ zero-mul y))
    go (inr z) = z

mul_pos_right : (x y : ℕ) → 0 < x * y → 0 < y
mul_pos_right x y h = mul_pos_left y x (rw (mul_comm y x) h)

same_le_one : (m x : ℕ) → sum_over (below m) (λ k. same x k) ≤ 1
same_le_one m x = go (below_or_not x m)
  where
    one : sum_over (below m) (λ k. same x k) ≡ sum_over (below m) (λ k. same x k * 1)
    one = sum_cong (below m) (λ k. sym (mul-one (same x k)))

    go : (x < m) ⊎ (m ≤ x) → sum_over (below m) (λ k. same x k) ≤ 1
    go (inl h) = omega (arith, one ∙ sum_same m x (λ v. 1) h)
    go (inr h) = omega (arith, one ∙ none_below m x (λ v. 1) h)

module _ (g : Graph) (ok : EndsIn g.nodes g.edges) where
  -- a node at which a fewest hop sequence stands after i of its i + j hops is at the fewest hops i from its start, and j from its end
  pub between : (i j a v b : ℕ) → a < g.nodes → v < g.nodes → Fewest g a b (i + j) → 0 < walks g i a v → 0 < walks g j v b → Fewest g a v i × Fewest g v b j
  between i j a v b ha hv p x y = (record { here = x; before = first }, record { here = y; before = last })
    where
      first : (l : ℕ) → l < i → walks g l a v ≡ 0
      first l h = go (eq-zero-or-pos (walks g l a v))
        where
          go : (walks g l a v ≡ 0) ⊎ (0 < walks g l a v) → walks g l a v ≡ 0
          go (inl z) = z
          go (inr z) = absurd (omega (arith, walks_via g ok l j a v b ha hv z y, p.before (l + j) (omega arith)))

      last : (l : ℕ) → l < j → walks g l v b ≡ 0
      last l h = go (eq-zero-or-pos (walks g l v b))
        where
          go : (walks g l v b ≡ 0) ⊎ (0 < walks g l v b) → walks g l v b ≡ 0
          go (inl z) = z
          go (inr z) = absurd (omega (arith, walks_via g ok i l a v b ha hv x z, p.before (i + l) (omega arith)))

  -- and there is such a node after any number of the hops
  pub on_way : (i j a b : ℕ) → a < g.nodes → 0 < walks g (i + j) a b → (v : ℕ) × (v < g.nodes) × (0 < walks g i a v) × (0 < walks g j v b)
  on_way i j a b ha p =
      let r = below_some g.nodes (λ v. walks g i a v * walks g j v b) (rw (walks_split g ok i j a b ha) at p) in
      (r.0, r.1, mul_pos_left _ _ r.2, mul_pos_right (walks g i a r.0) _ r.2)

  -- so the nodes at fewest hops 0, 1, .. d from a are d + 1 different nodes
  pub fewest_lt : (a b d : ℕ) → a < g.nodes → Fewest g a b d → d < g.nodes
  fewest_lt a b d ha p = omega (arith, low, high, sum_swap (below (suc d)) (below g.nodes) (λ k v. same (at v) k))
    where
      at : ℕ → ℕ
      at v = seek (λ k. walks g k a v) (suc d) 0

      some_at : (k : ℕ) → k < suc d → 0 < sum_over (below g.nodes) (λ v. same (at v) k)
      some_at k h =
          let q : Fewest g a b (k + (d - k)) = subst (λ (t : ℕ). Fewest g a b t) (omega arith) p in
          let r = on_way k (d - k) a b ha q.here in
          let s = between k (d - k) a r.0 b ha r.1 q r.2 r.3 in
          below_pos g.nodes (λ v. same (at v) k) r.0 r.1 (omega (arith, same_yes (seek_first (λ l. walks g l a r.0) (suc d) k s.0 h)))

      low : suc d ≤ sum_over (below (suc d)) (λ k. sum_over (below g.nodes) (λ v. same (at v) k))
      low = below_ge (suc d) _ some_at

      high : sum_over (below g.nodes) (λ v. sum_over (below (suc d)) (λ k. same (at v) k)) ≤ g.nodes
      high = below_le g.nodes _ (λ v hv. same_le_one (suc d) (at v))

  -- what `dist` is: the fewest hops, where there are any
  pub dist_cases : (a b : ℕ) → a < g.nodes → ((dist g a b < g.nodes) × Fewest g a b (dist g a b)) ⊎ ((dist g a b ≡ unreached) × Never g a b)
  unfolding dist Sought
  dist_cases a b ha = go (seek_does (λ k. walks g k a b) g.nodes 0 (λ j l. absurd (omega arith)))
    where
      go : Sought (λ k. walks g k a b) (0 + g.nodes) (dist g a b) → ((dist g a b < g.nodes) × Fewest g a b (dist g a b)) ⊎ ((dist g a b ≡ unreached) × Never g a b)
      go (inl r) = inl (omega arith, r.1)
      go (inr r) = inr (r.0, never)
        where
          never : Never g a b
          never k = pick (seek_does (λ l. walks g l a b) (suc k) 0 (λ j l. absurd (omega arith)))
            where
              e : ℕ
              e = seek (λ l. walks g l a b) (suc k) 0

              pick : Sought (λ l. walks g l a b) (0 + suc k) e → walks g k a b ≡ 0
              pick (inl s) = absurd (omega (arith, s.1.here, r.1 e (omega (arith, fewest_lt a b e ha s.1))))
              pick (inr s) = s.1 k (omega arith)

  -- the fewest hops are `dist`
  pub fewest_dist : (a b d : ℕ) → a < g.nodes → Fewest g a b d → dist g a b ≡ d
  unfolding dist
  fewest_dist a b d ha p = seek_first (λ k. walks g k a b) g.nodes d p (fewest_lt a b d ha p)

  -- and `dist` is the fewest hops, where it is not `unreached`
  pub dist_fewest : (a b d : ℕ) → a < g.nodes → dist g a b ≡ d → d ≢ unreached → Fewest g a b d
  dist_fewest a b d ha e u = go (dist_cases a b ha)
    where
      go : ((dist g a b < g.nodes) × Fewest g a b (dist g a b)) ⊎ ((dist g a b ≡ unreached) × Never g a b) → Fewest g a b d
      go (inl r) = subst (λ (t : ℕ). Fewest g a b t) e r.1
      go (inr r) = absurd (u (sym e ∙ r.0))

-- ---- the number of fewest hop sequences

pub count_reached : (g : Graph) (a b d : ℕ) → dist g a b ≡ d → d ≢ unreached → count g a b ≡ walks g d a b
unfolding count
count_reached g a b d e u = ap (λ (t : Bool). only_if (not t) (walks g (dist g a b) a b)) (eqb_no (λ (p : dist g a b ≡ unreached). u (sym e ∙ p))) ∙ ap (λ (k : ℕ). walks g k a b) e

pub count_unreached : (g : Graph) (a b : ℕ) → dist g a b ≡ unreached → count g a b ≡ 0
unfolding count
count_unreached g a b e = ap (λ (t : Bool). only_if (not t) (walks g (dist g a b) a b)) (eqb_yes e)

both_yes : (s t : Bool) (x : ℕ) → s ≡ true → t ≡ true → only_if (s && t) x ≡ x
both_yes s t x p q = ap₂ (λ (s t : Bool). only_if (s && t) x) p q

left_no : (s t : Bool) (x : ℕ) → s ≡ false → only_if (s && t) x ≡ 0
left_no s t x p = ap (λ (s : Bool). only_if (s && t) x) p

right_no : (s t : Bool) (x : ℕ) → t ≡ false → only_if (s && t) x ≡ 0
right_no true t x p = ap (λ (t : Bool). only_if t x) p
right_no false t x p = refl

module _ (g : Graph) (ok : Valid g) where
  few : (d : ℕ) → d < g.nodes → d ≢ unreached
  few d h p = omega (arith, ok.few)

  pub fewest_count : (a b d : ℕ) → a < g.nodes → Fewest g a b d → count g a b ≡ walks g d a b
  fewest_count a b d ha p = count_reached g a b d (fewest_dist g ok.inside a b d ha p) (few d (fewest_lt g ok.inside a b d ha p))

  -- `dist` says `unreached` just where no hop sequence of any length leads from a to b
  pub unreached_never : (a b : ℕ) → a < g.nodes → (dist g a b ≡ unreached) ↔ Never g a b
  unreached_never a b ha = (λ e. there e (dist_cases g ok.inside a b ha), λ n. back n (dist_cases g ok.inside a b ha))
    where
      there : dist g a b ≡ unreached → ((dist g a b < g.nodes) × Fewest g a b (dist g a b)) ⊎ ((dist g a b ≡ unreached) × Never g a b) → Never g a b
      there e (inl r) = absurd (few (dist g a b) r.0 e)
      there e (inr r) = r.1

      back : Never g a b → ((dist g a b < g.nodes) × Fewest g a b (dist g a b)) ⊎ ((dist g a b ≡ unreached) × Never g a b) → dist g a b ≡ unreached
      back n (inl r) = absurd (omega (arith, r.1.here, n (dist g a b)))
      back n (inr r) = r.0

  -- ---- the sum over the nodes on the way

  pub sum_on_way : (a b d k : ℕ) → a < g.nodes → dist g a b ≡ d → d ≢ unreached → k ≤ d
      → sum_over (below g.nodes) (λ v. only_if (eqb (dist g a v) k && eqb (dist g v b) (d - k)) (count g a v * count g v b)) ≡ count g a b
  sum_on_way a b d k ha e u h =
      below_cong g.nodes (λ v hv. sym (term v hv (eq_or_ne (dist g a v) k) (eq_or_ne (dist g v b) (d - k))))
      ∙ sym (walks_split g ok.inside k (d - k) a b ha)
      ∙ ap (λ (i : ℕ). walks g i a b) whole
      ∙ sym (count_reached g a b d e u)
    where
      whole : k + (d - k) ≡ d
      whole = omega arith

      p : Fewest g a b (k + (d - k))
      p = subst (λ (t : ℕ). Fewest g a b t) (sym whole) (dist_fewest g ok.inside a b d ha e u)

      small : (i : ℕ) → i ≤ d → i ≢ unreached
      small i l = few i (omega (arith, fewest_lt g ok.inside a b (k + (d - k)) ha p))

      -- a node whose term is not 0 is at k hops from a and d - k from b
      on : (v : ℕ) → v < g.nodes → ¬ ((dist g a v ≡ k) × (dist g v b ≡ d - k)) → walks g k a v * walks g (d - k) v b ≡ 0
      on v hv n = go (eq-zero-or-pos (walks g k a v * walks g (d - k) v b))
        where
          go : (walks g k a v * walks g (d - k) v b ≡ 0) ⊎ (0 < walks g k a v * walks g (d - k) v b) → walks g k a v * walks g (d - k) v b ≡ 0
          go (inl z) = z
          go (inr z) =
              let r = between g ok.inside k (d - k) a v b ha hv p (mul_pos_left _ _ z) (mul_pos_right (walks g k a v) _ z) in
              absurd (n (fewest_dist g ok.inside a v k ha r.0, fewest_dist g ok.inside v b (d - k) hv r.1))

      term : (v : ℕ) → v < g.nodes → (dist g a v ≡ k) ⊎ (dist g a v ≢ k) → (dist g v b ≡ d - k) ⊎ (dist g v b ≢ d - k)
          → walks g k a v * walks g (d - k) v b ≡ only_if (eqb (dist g a v) k && eqb (dist g v b) (d - k)) (count g a v * count g v b)
      term v hv (inl x) (inl y) =
          ap₂ ◌*◌ (sym (count_reached g a v k x (small k h))) (sym (count_reached g v b (d - k) y (small (d - k) (omega arith)))) ∙ sym (both_yes (eqb (dist g a v) k) (eqb (dist g v b) (d - k)) (count g a v * count g v b) (eqb_yes x) (eqb_yes y))
      term v hv (inl x) (inr y) = on v hv (λ r. y r.1) ∙ sym (right_no (eqb (dist g a v) k) (eqb (dist g v b) (d - k)) (count g a v * count g v b) (eqb_no y))
      term v hv (inr x) (inl y) = on v hv (λ r. x r.0) ∙ sym (left_no (eqb (dist g a v) k) (eqb (dist g v b) (d - k)) (count g a v * count g v b) (eqb_no x))
      term v hv (inr x) (inr y) = on v hv (λ r. x r.0) ∙ sym (left_no (eqb (dist g a v) k) (eqb (dist g v b) (d - k)) (count g a v * count g v b) (eqb_no x))

  -- ---- the edges turned round

  pub dist_turned : (a b : ℕ) → a < g.nodes → b < g.nodes → dist (turned g) b a ≡ dist g a b
  unfolding dist turned
  dist_turned a b ha hb = ap (λ (f : ℕ → ℕ). seek f g.nodes 0) (fun_ext (λ k. walks_turn g ok.inside k a b ha hb))

  pub count_turned : (a b : ℕ) → a < g.nodes → b < g.nodes → count (turned g) b a ≡ count g a b
  unfolding count
  count_turned a b ha hb =
      ap (λ (i : ℕ). only_if (not (eqb i unreached)) (walks (turned g) i b a)) (dist_turned a b ha hb)
      ∙ ap (λ (i : ℕ). only_if (not (eqb (dist g a b) unreached)) i) (walks_turn g ok.inside (dist g a b) a b ha hb)

  -- ---- levels

  -- v is an entry of u just where a hop leads from u to v
  pub entry_walk : (u v : ℕ) → Memᴰ v (entries g u) → 0 < walks g 1 u v
  unfolding walks
  entry_walk u v m = mem_times (entries g u) v m

  pub walk_entry : (u v : ℕ) → 0 < walks g 1 u v → Memᴰ v (entries g u)
  unfolding walks
  walk_entry u v h = times_mem (entries g u) v h

  -- the number of fewest hop sequences to v: over the nodes u at k hops, those to u, once for each entry of u that is v
  pub level_count : (s v k : ℕ) → s < g.nodes → Fewest g s v (suc k)
      → count g s v ≡ sum_over (below g.nodes) (λ u. only_if (eqb (dist g s u) k) (count g s u * times v (entries g u)))
  unfolding walks
  level_count s v k hs p =
      fewest_count s v (suc k) hs p
      ∙ ap (λ (i : ℕ). walks g i s v) one_last
      ∙ walks_split g ok.inside k 1 s v hs
      ∙ below_cong g.nodes (λ u hu. term u hu (eq_or_ne (dist g s u) k))
    where
      one_last : suc k ≡ k + 1
      one_last = omega arith

      q : Fewest g s v (k + 1)
      q = subst (λ (t : ℕ). Fewest g s v t) one_last p

      term : (u : ℕ) → u < g.nodes → (dist g s u ≡ k) ⊎ (dist g s u ≢ k) → walks g k s u * walks g 1 u v ≡ only_if (eqb (dist g s u) k) (count g s u * times v (entries g u))
      term u hu (inl e) =
          ap (λ (i : ℕ). i * walks g 1 u v) (sym (count_reached g s u k e (few k (omega (arith, fewest_lt g ok.inside s v (suc k) hs p)))))
          ∙ sym (ap (λ (t : Bool). only_if t (count g s u * times v (entries g u))) (eqb_yes e))
      term u hu (inr n) = go (eq-zero-or-pos (walks g k s u * walks g 1 u v)) ∙ sym (ap (λ (t : Bool). only_if t (count g s u * times v (entries g u))) (eqb_no n))
        where
          go : (walks g k s u * walks g 1 u v ≡ 0) ⊎ (0 < walks g k s u * walks g 1 u v) → walks g k s u * walks g 1 u v ≡ 0
          go (inl z) = z
          go (inr z) = absurd (n (fewest_dist g ok.inside s u k hs (between g ok.inside k 1 s u v hs hu q (mul_pos_left _ _ z) (mul_pos_right (walks g k s u) _ z)).0))
