-- The accumulation in the workspace is that of the definition: delta and the totals of the pairs, node by node. Assumes nothing.
use Rattle.std.proofs.Common.{◌≡◌, ℕ, ◌+◌, ◌<◌, ◌≤◌, Bool, false, cond, ◌&&◌, eqb, ◌≢◌, ◌⊎◌, List, [], ◌∷◌, map, length, get_or, sym, refl, ap, ◌∙◌, subst, ap₂, inl, inr, arith, length-set}
use mathlib.Core.List.{foldl, foldr, Memᴰ}
use lib.Ieee.{Float, nan, binary64, add}
use Rattle.regions.specs.Doubles.{one}
use Rattle.regions.proofs.Fronts.{hit_d, miss_d}
use Rattle.hops.proofs.Sums.{eq_or_ne, eqb_yes, eqb_no}
use Rattle.brandes.specs.Shares.{share, grow, passed}
use Rattle.brandes.specs.Steps.{held_count}
use Rattle.crossings.specs.Totals.{Totals, crossing, leave_by}
use Rattle.crossings.specs.Crossings.{crossed, crossed_all, left_across}
use Rattle.crossings.proofs.Passing.{crossed_long}

abbrev pub totals : List Float → (ℕ → ℕ → Float) → Totals
totals d t = record { delta = d; total = t }

-- the floats hold delta in the n places behind the first n and, from t, the total of each pair (v, x), where x is an entry of v, at its number
pub record TotalsIn (n t : ℕ) (number : ℕ → ℕ → ℕ) (rows : ℕ → List ℕ) (wf : List Float) (x : Totals) : Type 0 where
  pub room : n + n ≤ length wf
  pub deltas : length x.delta ≡ n
  pub inside : (a b : ℕ) → a < n → Memᴰ b (rows a) → t + number a b < length wf
  pub delta : (v : ℕ) → v < n → get_or wf (n + v) nan ≡ get_or x.delta v nan
  pub total : (a b : ℕ) → a < n → Memᴰ b (rows a) → get_or wf (t + number a b) nan ≡ x.total a b

module _ {n t : ℕ} (behind : n + n ≤ t) {number : ℕ → ℕ → ℕ} {rows : ℕ → List ℕ}
    (apart : (v x a b : ℕ) → v < n → a < n → Memᴰ x (rows v) → Memᴰ b (rows a) → number v x ≡ number a b → (v ≡ a) × (x ≡ b)) where
  -- one predecessor entry v of w: its delta grows, and the total of (v, w)
  cross_held : {wf d : List Float} {c : ℕ → ℕ → Float} → TotalsIn n t number rows wf (totals d c) → (v w : ℕ) → v < n → Memᴰ w (rows v) → (y : Float)
      → TotalsIn n t number rows (grow (grow wf (n + v) y) (t + number v w) y) (totals (grow d v y) (λ a b. cond (eqb v a && eqb w b) (add binary64 (c a b) y) (c a b)))
  cross_held {wf} {d} {c} S v w h m y =
      record {
        room = omega (arith, S.room, long);
        deltas = length-set d v _ ∙ S.deltas;
        inside = λ a b l k. omega (arith, S.inside a b l k, long);
        delta = λ u l. miss_d (grow wf (n + v) y) (t + number v w) _ (n + u) nan (λ e. omega arith) ∙ own u l (eq_or_ne u v);
        total = λ a b l k. pair a b l k (eq_or_ne v a) (eq_or_ne w b);
      }
    where
      long : length (grow (grow wf (n + v) y) (t + number v w) y) ≡ length wf
      long = length-set (grow wf (n + v) y) (t + number v w) _ ∙ length-set wf (n + v) _

      own : (u : ℕ) → u < n → (u ≡ v) ⊎ (u ≢ v) → get_or (grow wf (n + v) y) (n + u) nan ≡ get_or (grow d v y) u nan
      own u l (inl e) =
          hit_d wf (n + v) _ (n + u) nan (omega arith) (omega (arith, S.room))
          ∙ ap (λ (z : Float). add binary64 z y) (S.delta v h)
          ∙ sym (hit_d d v _ u nan e (omega (arith, S.deltas)))
      own u l (inr k) = miss_d wf (n + v) _ (n + u) nan (λ e. k (omega arith)) ∙ S.delta u l ∙ sym (miss_d d v _ u nan k)

      other : (a b : ℕ) → a < n → Memᴰ b (rows a) → number a b ≢ number v w → (eqb v a && eqb w b) ≡ false
          → get_or (grow (grow wf (n + v) y) (t + number v w) y) (t + number a b) nan ≡ cond (eqb v a && eqb w b) (add binary64 (c a b) y) (c a b)
      other a b l k q f =
          miss_d (grow wf (n + v) y) (t + number v w) _ (t + number a b) nan (λ e. q (omega arith))
          ∙ miss_d wf (n + v) _ (t + number a b) nan (λ e. omega arith)
          ∙ S.total a b l k
          ∙ ap (λ (z : Bool). cond z (add binary64 (c a b) y) (c a b)) (sym f)

      pair : (a b : ℕ) → a < n → Memᴰ b (rows a) → (v ≡ a) ⊎ (v ≢ a) → (w ≡ b) ⊎ (w ≢ b)
          → get_or (grow (grow wf (n + v) y) (t + number v w) y) (t + number a b) nan ≡ cond (eqb v a && eqb w b) (add binary64 (c a b) y) (c a b)
      pair a b l k (inl e) (inl f) =
          let same : number a b ≡ number v w = ap₂ number (sym e) (sym f) in
          hit_d (grow wf (n + v) y) (t + number v w) _ (t + number a b) nan (omega (arith, same)) (omega (arith, S.inside a b l k, length-set wf (n + v) (add binary64 (get_or wf (n + v) nan) y)))
          ∙ ap (λ (z : Float). add binary64 z y) (miss_d wf (n + v) _ (t + number v w) nan (λ q. omega arith) ∙ ap (λ (z : ℕ). get_or wf (t + z) nan) (sym same) ∙ S.total a b l k)
          ∙ ap (λ (z : Bool). cond z (add binary64 (c a b) y) (c a b)) (sym (ap₂ ◌&&◌ (eqb_yes e) (eqb_yes f)))
      pair a b l k (inl e) (inr f) = other a b l k (λ q. f (sym (apart a b v w l h k m q).1)) (ap₂ ◌&&◌ (eqb_yes e) (eqb_no f))
      pair a b l k (inr e) f = other a b l k (λ q. e (sym (apart a b v w l h k m q).0)) (ap (λ (z : Bool). z && eqb w b) (eqb_no e))

  module _ (counts : List ℕ) (ways : ℕ → Float) (known : (v : ℕ) → v < n → held_count counts v ≡ ways v) where
    -- all predecessor entries of w
    pass_held : (w : ℕ) (vs : List ℕ) → ((y : ℕ) → Memᴰ y vs → (y < n) × Memᴰ w (rows y)) → (grown : Float) → {wf d : List Float} {c : ℕ → ℕ → Float} → TotalsIn n t number rows wf (totals d c)
        → TotalsIn n t number rows (crossed_all n t counts (ways w) grown wf vs (map (λ v. number v w) vs)) (totals (foldl (λ e v. grow e v (share (ways v) (ways w) grown)) d vs) (λ a b. foldl (crossing ways w grown a b) (c a b) vs))
    unfolding crossed_all
    pass_held w [] from grown S = S
    pass_held w (v ∷ vs) from grown {wf} {d} {c} S =
        let f = from v (Memᴰ.head refl) in
        pass_held w vs (λ y m. from y (Memᴰ.tail m)) grown
        (subst (λ (z : Float). TotalsIn n t number rows (grow (grow wf (n + v) (share z (ways w) grown)) (t + number v w) (share z (ways w) grown)) (totals (grow d v (share (ways v) (ways w) grown)) (λ a b. crossing ways w grown a b (c a b) v))) (sym (known v f.0))
        (cross_held S v w f.0 f.1 (share (ways v) (ways w) grown)))

    module _ (held heldPairs lists : ℕ → List ℕ) (same : (w : ℕ) → w < n → held w ≡ lists w) (beside : (w : ℕ) → w < n → heldPairs w ≡ map (λ v. number v w) (lists w))
        (from : (w : ℕ) → w < n → (y : ℕ) → Memᴰ y (lists w) → (y < n) × Memᴰ w (rows y)) where
      leave_held : (w : ℕ) → w < n → {wf : List Float} {x : Totals} → TotalsIn n t number rows wf x → TotalsIn n t number rows (left_across n t counts held heldPairs w wf) (leave_by ways lists w x)
      unfolding left_across leave_by passed
      leave_held w h {wf} {x} S =
          let grown = add binary64 one (get_or x.delta w nan) in
          let after = totals (foldl (λ e v. grow e v (share (ways v) (ways w) grown)) x.delta (lists w)) (λ a b. foldl (crossing ways w grown a b) (x.total a b) (lists w)) in
          let shown : crossed_all n t counts (ways w) grown wf (lists w) (map (λ v. number v w) (lists w)) ≡ left_across n t counts held heldPairs w wf =
          ap₂ (crossed_all n t counts (ways w) grown wf) (sym (same w h)) (sym (beside w h))
          ∙ ap₂ (λ (p q : Float). crossed_all n t counts p (add binary64 one q) wf (held w) (heldPairs w)) (sym (known w h)) (sym (S.delta w h)) in
          subst (λ (f : List Float). TotalsIn n t number rows f after) shown (pass_held w (lists w) (from w h) grown S)

      -- all nodes of a list leave, from its end
      pub totals_held : (ws : List ℕ) → ((w : ℕ) → Memᴰ w ws → w < n) → {wf : List Float} {x : Totals} → TotalsIn n t number rows wf x
          → TotalsIn n t number rows (foldr (left_across n t counts held heldPairs) wf ws) (foldr (leave_by ways lists) x ws)
      totals_held [] nodes S = S
      totals_held (w ∷ ws) nodes S = leave_held w (nodes w (Memᴰ.head refl)) (totals_held ws (λ y m. nodes y (Memᴰ.tail m)) S)

-- ---- what stays

-- a place that is no delta of the nodes and no total of the pairs
cross_off : (n t : ℕ) (counts : List ℕ) (ways grown : Float) (j : ℕ) (vs ps : List ℕ) → ((y : ℕ) → Memᴰ y vs → j ≢ n + y) → ((p : ℕ) → Memᴰ p ps → j ≢ t + p) → (floats : List Float)
    → get_or (crossed_all n t counts ways grown floats vs ps) j nan ≡ get_or floats j nan
unfolding crossed_all
cross_off n t counts ways grown j [] ps a b floats = refl
cross_off n t counts ways grown j (v ∷ vs) [] a b floats = refl
cross_off n t counts ways grown j (v ∷ vs) (p ∷ ps) a b floats =
    cross_off n t counts ways grown j vs ps (λ y m. a y (Memᴰ.tail m)) (λ q m. b q (Memᴰ.tail m)) (crossed n t counts ways grown floats v p)
    ∙ miss_d (grow floats (n + v) (share (held_count counts v) ways grown)) (t + p) _ j nan (b p (Memᴰ.head refl))
    ∙ miss_d floats (n + v) _ j nan (a v (Memᴰ.head refl))

pub left_off : (n t : ℕ) (counts : List ℕ) (held heldPairs : ℕ → List ℕ) (j : ℕ) (ws : List ℕ)
    → ((w : ℕ) → Memᴰ w ws → (y : ℕ) → Memᴰ y (held w) → j ≢ n + y) → ((w : ℕ) → Memᴰ w ws → (p : ℕ) → Memᴰ p (heldPairs w) → j ≢ t + p) → (floats : List Float)
    → get_or (foldr (left_across n t counts held heldPairs) floats ws) j nan ≡ get_or floats j nan
unfolding left_across
left_off n t counts held heldPairs j [] a b floats = refl
left_off n t counts held heldPairs j (w ∷ ws) a b floats =
    let before = foldr (left_across n t counts held heldPairs) floats ws in
    cross_off n t counts (held_count counts w) (add binary64 one (get_or before (n + w) nan)) j (held w) (heldPairs w) (a w (Memᴰ.head refl)) (b w (Memᴰ.head refl)) before
    ∙ left_off n t counts held heldPairs j ws (λ u m. a u (Memᴰ.tail m)) (λ u m. b u (Memᴰ.tail m)) floats

pub left_long : (n t : ℕ) (counts : List ℕ) (held heldPairs : ℕ → List ℕ) (ws : List ℕ) (floats : List Float) → length (foldr (left_across n t counts held heldPairs) floats ws) ≡ length floats
unfolding left_across
left_long n t counts held heldPairs [] floats = refl
left_long n t counts held heldPairs (w ∷ ws) floats =
    let before = foldr (left_across n t counts held heldPairs) floats ws in
    crossed_long n t counts (held_count counts w) (add binary64 one (get_or before (n + w) nan)) before (held w) (heldPairs w) ∙ left_long n t counts held heldPairs ws floats
