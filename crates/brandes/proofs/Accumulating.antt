-- The accumulation in the workspace is that of the definition: delta and scores, node by node. Assumes nothing.
use Rattle.std.proofs.Common.{◌≡◌, ℕ, ◌+◌, ◌<◌, ◌≤◌, Bool, true, false, cond, eqb, ◌≢◌, ◌⊎◌, List, [], ◌∷◌, length, get_or, sym, refl, ap, ◌∙◌, subst, ap₂, inl, inr, arith, length-set}
use mathlib.Core.List.{foldl, foldr, Memᴰ}
use lib.Ieee.{Float, nan, binary64, add}
use Rattle.regions.specs.Doubles.{one}
use Rattle.regions.specs.Region.{Front}
use Rattle.regions.proofs.Fronts.{hit_d, miss_d, front_none, front_set}
use Rattle.hops.proofs.Sums.{eq_or_ne}
use Rattle.brandes.specs.Shares.{share, grow, Sums, sums, passed, leave}
use Rattle.brandes.specs.Steps.{held_count, passed_back, left_by}

-- the floats hold the scores in their first n places and delta in the next n
pub record SumsIn (n : ℕ) (wf : List Float) (x : Sums) : Type 0 where
  pub room : n + n ≤ length wf
  pub deltas : length x.delta ≡ n
  pub totals : length x.scores ≡ n
  pub delta : (v : ℕ) → v < n → get_or wf (n + v) nan ≡ get_or x.delta v nan
  pub score : (v : ℕ) → v < n → get_or wf v nan ≡ get_or x.scores v nan

-- a delta grows
grow_delta : {n : ℕ} {wf : List Float} {d c : List Float} → SumsIn n wf (sums d c) → (v : ℕ) → v < n → (y : Float) → SumsIn n (grow wf (n + v) y) (sums (grow d v y) c)
grow_delta {n} {wf} {d} {c} S v h y =
    record {
      room = omega (arith, S.room, length-set wf (n + v) (add binary64 (get_or wf (n + v) nan) y));
      deltas = length-set d v _ ∙ S.deltas;
      totals = S.totals;
      delta = λ u l. go u l (eq_or_ne u v);
      score = λ u l. miss_d wf (n + v) _ u nan (λ e. omega arith) ∙ S.score u l;
    }
  where
    go : (u : ℕ) → u < n → (u ≡ v) ⊎ (u ≢ v) → get_or (grow wf (n + v) y) (n + u) nan ≡ get_or (grow d v y) u nan
    go u l (inl e) =
        hit_d wf (n + v) _ (n + u) nan (omega arith) (omega (arith, S.room))
        ∙ ap (λ (z : Float). add binary64 z y) (S.delta v h)
        ∙ sym (hit_d d v _ u nan e (omega (arith, S.deltas)))
    go u l (inr k) = miss_d wf (n + v) _ (n + u) nan (λ e. k (omega arith)) ∙ S.delta u l ∙ sym (miss_d d v _ u nan k)

-- a score grows
grow_score : {n : ℕ} {wf : List Float} {d c : List Float} → SumsIn n wf (sums d c) → (v : ℕ) → v < n → (y z : Float) → y ≡ z → SumsIn n (grow wf v y) (sums d (grow c v z))
grow_score {n} {wf} {d} {c} S v h y z eq =
    record {
      room = omega (arith, S.room, length-set wf v (add binary64 (get_or wf v nan) y));
      deltas = S.deltas;
      totals = length-set c v _ ∙ S.totals;
      delta = λ u l. miss_d wf v _ (n + u) nan (λ e. omega arith) ∙ S.delta u l;
      score = λ u l. go u l (eq_or_ne u v);
    }
  where
    go : (u : ℕ) → u < n → (u ≡ v) ⊎ (u ≢ v) → get_or (grow wf v y) u nan ≡ get_or (grow c v z) u nan
    go u l (inl e) =
        hit_d wf v _ u nan e (omega (arith, S.room))
        ∙ ap₂ (add binary64) (S.score v h) eq
        ∙ sym (hit_d c v _ u nan e (omega (arith, S.totals)))
    go u l (inr k) = miss_d wf v _ u nan k ∙ S.score u l ∙ sym (miss_d c v _ u nan k)

module _ (n : ℕ) (counts : List ℕ) (ways : ℕ → Float) (known : (v : ℕ) → v < n → held_count counts v ≡ ways v) where
  pass_held : (vs : List ℕ) → ((y : ℕ) → Memᴰ y vs → y < n) → {wf : List Float} {d c : List Float} (countW grown grown' : Float) → grown ≡ grown' → SumsIn n wf (sums d c)
      → SumsIn n (passed_back n counts countW grown wf vs) (sums (foldl (λ e v. grow e v (share (ways v) countW grown')) d vs) c)
  unfolding passed_back
  pass_held [] inside countW grown grown' eg S = S
  pass_held (v ∷ vs) inside {wf} {d} {c} countW grown grown' eg S =
      pass_held vs (λ y m. inside y (Memᴰ.tail m)) countW grown grown' eg
      (subst (λ (z : Float). SumsIn n (grow wf (n + v) (share (held_count counts v) countW grown)) (sums (grow d v z) c)) (ap₂ (λ (a b : Float). share a countW b) (known v (inside v (Memᴰ.head refl))) eg)
      (grow_delta S v (inside v (Memᴰ.head refl)) (share (held_count counts v) countW grown)))

  module _ (held lists : ℕ → List ℕ) (same : (w : ℕ) → w < n → held w ≡ lists w) (inside : (w : ℕ) → w < n → (y : ℕ) → Memᴰ y (lists w) → y < n) (s : ℕ) where
    leave_held : (w : ℕ) → w < n → {wf : List Float} {x : Sums} → SumsIn n wf x → SumsIn n (left_by n counts held s w wf) (leave ways lists s w x)
    unfolding left_by leave passed
    leave_held w h {wf} {x} S = go (eqb w s)
      where
        grown : Float
        grown = add binary64 one (get_or wf (n + w) nan)

        after : SumsIn n (passed_back n counts (held_count counts w) (add binary64 one (get_or wf (n + w) nan)) wf (held w)) (sums (foldl (λ e v. grow e v (share (ways v) (ways w) (add binary64 one (get_or x.delta w nan)))) x.delta (lists w)) x.scores)
        after =
            subst (λ (l : List ℕ). SumsIn n (passed_back n counts (held_count counts w) (add binary64 one (get_or wf (n + w) nan)) wf l) (sums (foldl (λ e v. grow e v (share (ways v) (ways w) (add binary64 one (get_or x.delta w nan)))) x.delta (lists w)) x.scores)) (sym (same w h))
            (subst (λ (c : Float). SumsIn n (passed_back n counts c (add binary64 one (get_or wf (n + w) nan)) wf (lists w)) (sums (foldl (λ e v. grow e v (share (ways v) (ways w) (add binary64 one (get_or x.delta w nan)))) x.delta (lists w)) x.scores)) (sym (known w h))
            (pass_held (lists w) (inside w h) (ways w) (add binary64 one (get_or wf (n + w) nan)) (add binary64 one (get_or x.delta w nan)) (ap (add binary64 one) (S.delta w h)) S))

        go : (b : Bool)
            → SumsIn n (cond b (passed_back n counts (held_count counts w) (add binary64 one (get_or wf (n + w) nan)) wf (held w)) (grow (passed_back n counts (held_count counts w) (add binary64 one (get_or wf (n + w) nan)) wf (held w)) w (get_or wf (n + w) nan)))
            (sums (foldl (λ e v. grow e v (share (ways v) (ways w) (add binary64 one (get_or x.delta w nan)))) x.delta (lists w)) (cond b x.scores (grow x.scores w (get_or x.delta w nan))))
        go true = after
        go false = grow_score after w h (get_or wf (n + w) nan) (get_or x.delta w nan) (S.delta w h)

    -- all nodes of a list leave, from its end
    pub all_held : (ws : List ℕ) → ((w : ℕ) → Memᴰ w ws → w < n) → {wf : List Float} {x : Sums} → SumsIn n wf x → SumsIn n (foldr (left_by n counts held s) wf ws) (foldr (leave ways lists s) x ws)
    all_held [] nodes S = S
    all_held (w ∷ ws) nodes S = leave_held w (nodes w (Memᴰ.head refl)) (all_held ws (λ y m. nodes y (Memᴰ.tail m)) S)

-- ---- nothing behind the first 2n floats changes

pass_front : (n : ℕ) (counts : List ℕ) (countW grown : Float) (vs : List ℕ) → ((y : ℕ) → Memᴰ y vs → y < n) → {wf₀ wf : List Float} → Front wf₀ (n + n) wf → Front wf₀ (n + n) (passed_back n counts countW grown wf vs)
unfolding passed_back
pass_front n counts countW grown [] inside F = F
pass_front n counts countW grown (v ∷ vs) inside F = pass_front n counts countW grown vs (λ y m. inside y (Memᴰ.tail m)) (front_set (n + v) _ F (omega (arith, inside v (Memᴰ.head refl))))

left_front : (n : ℕ) (counts : List ℕ) (held : ℕ → List ℕ) (s w : ℕ) → w < n → ((y : ℕ) → Memᴰ y (held w) → y < n) → {wf₀ wf : List Float} → Front wf₀ (n + n) wf → Front wf₀ (n + n) (left_by n counts held s w wf)
unfolding left_by
left_front n counts held s w h inside {wf₀} {wf} F = go (eqb w s)
  where
    after : Front wf₀ (n + n) (passed_back n counts (held_count counts w) (add binary64 one (get_or wf (n + w) nan)) wf (held w))
    after = pass_front n counts (held_count counts w) (add binary64 one (get_or wf (n + w) nan)) (held w) inside F

    go : (b : Bool) → Front wf₀ (n + n) (cond b (passed_back n counts (held_count counts w) (add binary64 one (get_or wf (n + w) nan)) wf (held w)) (grow (passed_back n counts (held_count counts w) (add binary64 one (get_or wf (n + w) nan)) wf (held w)) w (get_or wf (n + w) nan)))
    go true = after
    go false = front_set w _ after (omega arith)

pub all_front : (n : ℕ) (counts : List ℕ) (held : ℕ → List ℕ) (s : ℕ) (ws : List ℕ) → ((w : ℕ) → Memᴰ w ws → w < n) → ((w : ℕ) → w < n → (y : ℕ) → Memᴰ y (held w) → y < n) → (wf : List Float)
    → Front wf (n + n) (foldr (left_by n counts held s) wf ws)
all_front n counts held s [] nodes inside wf = front_none wf (n + n)
all_front n counts held s (w ∷ ws) nodes inside wf =
    left_front n counts held s w (nodes w (Memᴰ.head refl)) (inside w (nodes w (Memᴰ.head refl))) (all_front n counts held s ws (λ y m. nodes y (Memᴰ.tail m)) inside wf)
