-- The walks over the edges from the last to the first: where the cursors stand, and what has been written. Assumes nothing.
use mathlib.Core.Path.{◌≡◌, refl, sym, ap, ◌∙◌, subst}
use mathlib.Core.Logic.{◌≢◌, ◌⊎◌, inl, inr, ⊎_elim}
use mathlib.Core.Bool.{Bool, true, false, cond}
use mathlib.Core.List.{List}
use Prim.Native.Nat.{ℕ, suc, ◌+◌, ◌-◌, ◌≤◌, ◌<◌}
use native.Mathlib.Omega.{arith}
use borrow.Author.Tests.{eq-eqb, ne_eqb, eqb-true, eqb-false}
use lib.Dec.{eqb}
use lib.ListN.{length, get_or, set, length-set}
use lib.Ieee.{Float, nan}
use Rattle.regions.specs.Region.{over, list_of, Frame}
use Rattle.regions.proofs.Cases.{bool_cases}
use Rattle.regions.proofs.Fronts.{hit, miss, hit_d, miss_d, list_long}
use Rattle.regions.proofs.Frames.{frame_set}
use Rattle.regions.proofs.Parts.{list_at_lem, over_is}
use Rattle.hops.proofs.Sums.{eq_or_ne}
use Rattle.graph.specs.Edges.{one_if}
use Rattle.rows.specs.Walks.{takes}
use Rattle.rows.proofs.Walks.{takes_not, takes_own, takes_loop}
use Rattle.pairs.specs.Writes.{among, place_of, total_of, back_of, WalkPre, Walked, ForwardPost, NextPre, NextTotal, BackPre, BackTotal, BackPost}
use Rattle.pairs.proofs.Cursors.{among_none, among_suc, among_le}

-- ---- results, from the last to the first

-- the results from e on are those of f
pub record Results (f : ℕ → Float) (m e : ℕ) (r₀ r : List Float) : Type 0 where
  pub long : length r ≡ length r₀
  pub later : (k : ℕ) → e ≤ k → k < m → get_or r k nan ≡ f k
  pub rest : (k : ℕ) → (e ≤ k → k < m → ⊥) → get_or r k nan ≡ get_or r₀ k nan

pub results_more : {f : ℕ → Float} {m e : ℕ} {r₀ r : List Float} → Results f m e r₀ r → 0 < e → e ≤ m → m ≤ length r₀ → (x : Float) → x ≡ f (e - 1) → Results f m (e - 1) r₀ (set r (e - 1) x)
results_more {f} {m} {e} {r₀} {r} R some le room x is =
    record {
      long = length-set r (e - 1) x ∙ R.long;
      later = λ k l h. ⊎_elim
          (λ q. hit_d r (e - 1) x k nan q (omega (arith, R.long)) ∙ is ∙ ap f (sym q))
          (λ q. miss_d r (e - 1) x k nan q ∙ R.later k (omega arith) h)
          (eq_or_ne k (e - 1));
      rest = λ k h. miss_d r (e - 1) x k nan (λ q. h (omega arith) (omega arith)) ∙ R.rest k (λ l. h (omega arith));
    }

pub results_done : {f : ℕ → Float} {m e : ℕ} {r₀ r : List Float} → Results f m e r₀ r → e ≡ 0 → m ≤ length r₀ → r ≡ over (list_of f m) r₀
results_done {f} {m} {e} {r₀} {r} R none room =
    let long : length (list_of f m) ≡ m = list_long f m in
    over_is nan (list_of f m) r₀ r (omega arith) R.long (λ i l. R.later i (omega arith) (omega arith) ∙ sym (list_at_lem f m nan i (omega arith)))
    (λ j l. R.rest j (λ p q. omega arith))

-- ---- the cursors

-- each cursor is behind the entries that the edges from e on give its node
pub record Moved (n : ℕ) (skip : Bool) (own other : List ℕ) (cursors e : ℕ) (w₀ w : List ℕ) : Type 0 where
  pub frame : Frame w₀ cursors n w
  pub at : (v : ℕ) → v < n → get_or w (cursors + v) 0 + among skip own other v e ≡ get_or w₀ (cursors + v) 0 + among skip own other v (length own)

pub moved_done : {n : ℕ} {skip : Bool} {own other : List ℕ} {cursors e : ℕ} {w₀ w : List ℕ} → Moved n skip own other cursors e w₀ w → e ≡ 0 → Walked n skip own other cursors w₀ w
moved_done {n} {skip} {own} {other} {cursors} {e} {w₀} {w} M none =
    record { frame = M.frame; ends = λ v h. omega (arith, M.at v h, ap (λ (k : ℕ). among skip own other v k) none, among_none skip own other v) }

module _ {n : ℕ} {skip : Bool} {own other : List ℕ} {cursors e : ℕ} {w₀ w : List ℕ} (M : Moved n skip own other cursors e w₀ w) (some : 0 < e) where
  before : (v : ℕ) → among skip own other v e ≡ one_if (takes skip (get_or own (e - 1) 0) (get_or other (e - 1) 0) v) + among skip own other v (e - 1)
  before v = let q : e ≡ suc (e - 1) = omega arith in ap (λ (k : ℕ). among skip own other v k) q ∙ among_suc skip own other v (e - 1)

  off : (v : ℕ) → v ≢ get_or own (e - 1) 0 → among skip own other v e ≡ among skip own other v (e - 1)
  off v m = omega (arith, before v, ap one_if (takes_not skip (get_or own (e - 1) 0) (get_or other (e - 1) 0) v (λ q. m (sym q))))

  on : (b : Bool) → takes skip (get_or own (e - 1) 0) (get_or other (e - 1) 0) (get_or own (e - 1) 0) ≡ b → among skip own other (get_or own (e - 1) 0) e ≡ one_if b + among skip own other (get_or own (e - 1) 0) (e - 1)
  on b t = before (get_or own (e - 1) 0) ∙ ap (λ (c : Bool). one_if c + among skip own other (get_or own (e - 1) 0) (e - 1)) t

  pub moved_on : takes skip (get_or own (e - 1) 0) (get_or other (e - 1) 0) (get_or own (e - 1) 0) ≡ true → cursors + n ≤ length w₀ → get_or own (e - 1) 0 < n
      → Moved n skip own other cursors (e - 1) w₀ (set w (cursors + get_or own (e - 1) 0) (get_or w (cursors + get_or own (e - 1) 0) 0 + 1))
  moved_on t room node =
      record {
        frame = frame_set (cursors + get_or own (e - 1) 0) (get_or w (cursors + get_or own (e - 1) 0) 0 + 1) M.frame (omega arith) (omega arith);
        at = λ v h. go v h (eq_or_ne v (get_or own (e - 1) 0));
      }
    where
      go : (v : ℕ) → v < n → (v ≡ get_or own (e - 1) 0) ⊎ (v ≢ get_or own (e - 1) 0)
          → get_or (set w (cursors + get_or own (e - 1) 0) (get_or w (cursors + get_or own (e - 1) 0) 0 + 1)) (cursors + v) 0 + among skip own other v (e - 1) ≡ get_or w₀ (cursors + v) 0 + among skip own other v (length own)
      go v h (inl q) =
          omega (
            arith,
            hit w (cursors + get_or own (e - 1) 0) (get_or w (cursors + get_or own (e - 1) 0) 0 + 1) (cursors + v) (ap (λ (k : ℕ). cursors + k) q) (omega (arith, M.frame.long)),
            M.at v h,
            ap (λ (k : ℕ). get_or w (cursors + k) 0) q,
            on true t,
            ap (λ (k : ℕ). among skip own other k e) q,
            ap (λ (k : ℕ). among skip own other k (e - 1)) q,
          )
      go v h (inr m) =
          omega (arith, miss w (cursors + get_or own (e - 1) 0) (get_or w (cursors + get_or own (e - 1) 0) 0 + 1) (cursors + v) (λ q. m (omega arith)), M.at v h, off v m)

  pub moved_past : takes skip (get_or own (e - 1) 0) (get_or other (e - 1) 0) (get_or own (e - 1) 0) ≡ false → Moved n skip own other cursors (e - 1) w₀ w
  moved_past t = record { frame = M.frame; at = λ v h. go v h (eq_or_ne v (get_or own (e - 1) 0)) }
    where
      go : (v : ℕ) → v < n → (v ≡ get_or own (e - 1) 0) ⊎ (v ≢ get_or own (e - 1) 0) → get_or w (cursors + v) 0 + among skip own other v (e - 1) ≡ get_or w₀ (cursors + v) 0 + among skip own other v (length own)
      go v h (inl q) = omega (arith, M.at v h, on false t, ap (λ (k : ℕ). among skip own other k e) q, ap (λ (k : ℕ). among skip own other k (e - 1)) q)
      go v h (inr m) = omega (arith, M.at v h, off v m)

-- ---- one edge

-- what a turn for an edge that gives an entry reads and writes
pub record WalkTurn (skip : Bool) (own other w₀ w : List ℕ) (cursors beside t e : ℕ) (wf : List Float) : Type 0 where
  pub place : get_or w (cursors + get_or own (e - 1) 0) 0 ≡ place_of skip own other w₀ cursors (e - 1)
  pub few : get_or w (cursors + get_or own (e - 1) 0) 0 + 1 < 4294967296
  pub low : beside + get_or w (cursors + get_or own (e - 1) 0) 0 < cursors
  pub pair : get_or w (beside + get_or w (cursors + get_or own (e - 1) 0) 0) 0 ≡ get_or w₀ (beside + place_of skip own other w₀ cursors (e - 1)) 0
  pub total : t + get_or w (beside + get_or w (cursors + get_or own (e - 1) 0) 0) 0 < length wf

module _ {n : ℕ} {skip : Bool} {own other : List ℕ} {cursors beside t e : ℕ} {w₀ w : List ℕ} {wf results : List Float} (P : WalkPre n skip own other w₀ cursors beside t wf results) (M : Moved n skip own other cursors e w₀ w) (some : 0 < e) (le : e ≤ length own) where
  pub walk_turn : takes skip (get_or own (e - 1) 0) (get_or other (e - 1) 0) (get_or own (e - 1) 0) ≡ true → WalkTurn skip own other w₀ w cursors beside t e wf
  walk_turn gives =
      record {
        place = place;
        few = omega (arith, M.at (get_or own (e - 1) 0) node, P.few (get_or own (e - 1) 0) node, one_more);
        low = low;
        pair = pair;
        total = omega (arith, pair, P.totals (e - 1) (omega arith) gives);
      }
    where
      node : get_or own (e - 1) 0 < n
      node = P.ends (e - 1) (omega arith)

      one_more : 1 ≤ among skip own other (get_or own (e - 1) 0) e
      one_more = omega (arith, on M some true gives)

      last : suc (e - 1) ≡ e
      last = omega arith

      place : get_or w (cursors + get_or own (e - 1) 0) 0 ≡ place_of skip own other w₀ cursors (e - 1)
      place =
          omega (
            arith,
            M.at (get_or own (e - 1) 0) node,
            ap (λ (k : ℕ). among skip own other (get_or own (e - 1) 0) k) last,
            among_le skip own other (get_or own (e - 1) 0) e (length own) le,
          )

      low : beside + get_or w (cursors + get_or own (e - 1) 0) 0 < cursors
      low = omega (arith, place, P.places (e - 1) (omega arith) gives)

      pair : get_or w (beside + get_or w (cursors + get_or own (e - 1) 0) 0) 0 ≡ get_or w₀ (beside + place_of skip own other w₀ cursors (e - 1)) 0
      pair = M.frame.rest 0 (beside + get_or w (cursors + get_or own (e - 1) 0) 0) (λ p q. omega (arith, low)) ∙ ap (λ (k : ℕ). get_or w₀ (beside + k) 0) place

-- ---- forward: each edge gives an entry

module _ {n : ℕ} {from : List ℕ} {cursors beside t e : ℕ} {w₀ w : List ℕ} {wf r₀ : List Float} (P : WalkPre n false from from w₀ cursors beside t wf r₀) (M : Moved n false from from cursors e w₀ w) (some : 0 < e) (le : e ≤ length from) where
  forward_walk : WalkTurn false from from w₀ w cursors beside t e wf
  forward_walk = walk_turn P M some le (eq-eqb (get_or from (e - 1) 0) (get_or from (e - 1) 0) refl)

  pub forward_next : NextPre cursors beside t (get_or from (e - 1) 0) w wf
  forward_next =
      record {
        end = omega (arith, M.frame.long, P.marks, P.ends (e - 1) (omega arith));
        few = forward_walk.few;
        place = forward_walk.low;
        total = forward_walk.total;
      }

  module _ {w' : List ℕ} {x : Float} (T : NextTotal cursors beside t (get_or from (e - 1) 0) w wf w' x) where
    pub forward_moved : Moved n false from from cursors (e - 1) w₀ w'
    forward_moved =
        subst (λ (u : List ℕ). Moved n false from from cursors (e - 1) w₀ u) (sym T.moved)
        (moved_on M some (eq-eqb (get_or from (e - 1) 0) (get_or from (e - 1) 0) refl) P.marks (P.ends (e - 1) (omega arith)))

    pub forward_more : {r : List Float} → Results (total_of false from from w₀ cursors beside t wf) (length from) e r₀ r → Results (total_of false from from w₀ cursors beside t wf) (length from) (e - 1) r₀ (set r (e - 1) x)
    forward_more R = results_more R some le P.room x (T.total ∙ ap (λ (k : ℕ). get_or wf (t + k) nan) forward_walk.pair)

pub forward_done : {n : ℕ} {from : List ℕ} {cursors beside t e : ℕ} {w₀ w : List ℕ} {wf r₀ r : List Float} → WalkPre n false from from w₀ cursors beside t wf r₀ → Moved n false from from cursors e w₀ w
    → Results (total_of false from from w₀ cursors beside t wf) (length from) e r₀ r → e ≡ 0 → ForwardPost n from w₀ cursors beside t wf r₀ w r
forward_done P M R none = record { walked = moved_done M none; written = results_done R none P.room }

-- ---- back: a self-loop gives no entry

module _ {n : ℕ} {from to : List ℕ} {cursors beside t e : ℕ} {w₀ w : List ℕ} {wf r₀ : List Float} (P : WalkPre n true to from w₀ cursors beside t wf r₀) (M : Moved n true to from cursors e w₀ w) (some : 0 < e) (le : e ≤ length from) where
  gives : (get_or from (e - 1) 0 ≡ get_or to (e - 1) 0 → ⊥) → takes true (get_or to (e - 1) 0) (get_or from (e - 1) 0) (get_or to (e - 1) 0) ≡ true
  gives m = takes_own true (get_or to (e - 1) 0) (get_or from (e - 1) 0) (get_or to (e - 1) 0) refl (ne_eqb (get_or to (e - 1) 0) (get_or from (e - 1) 0) (λ q. m (sym q)))

  back_walk : (get_or from (e - 1) 0 ≡ get_or to (e - 1) 0 → ⊥) → WalkTurn true to from w₀ w cursors beside t e wf
  back_walk m = walk_turn P M some (omega (arith, P.pair)) (gives m)

  pub back_pre : BackPre cursors beside t (get_or from (e - 1) 0) (get_or to (e - 1) 0) w wf
  back_pre =
      record {
        end = omega (arith, M.frame.long, P.marks, P.ends (e - 1) (omega (arith, P.pair)));
        few = λ m. (back_walk m).few;
        place = λ m. (back_walk m).low;
        total = λ m. (back_walk m).total;
      }

  module _ (forward : List Float) {w' : List ℕ} {x : Float} (B : BackTotal cursors beside t (get_or from (e - 1) 0) (get_or to (e - 1) 0) (get_or forward (e - 1) nan) w wf w' x) where
    pub back_moved : Moved n true to from cursors (e - 1) w₀ w'
    back_moved = go (bool_cases (eqb (get_or from (e - 1) 0) (get_or to (e - 1) 0)))
      where
        stored : (b : Bool) → eqb (get_or from (e - 1) 0) (get_or to (e - 1) 0) ≡ b → cond b w (set w (cursors + get_or to (e - 1) 0) (get_or w (cursors + get_or to (e - 1) 0) 0 + 1)) ≡ w'
        stored b q = ap (λ (c : Bool). cond c w (set w (cursors + get_or to (e - 1) 0) (get_or w (cursors + get_or to (e - 1) 0) 0 + 1))) (sym q) ∙ sym B.moved

        go : (eqb (get_or from (e - 1) 0) (get_or to (e - 1) 0) ≡ true) ⊎ (eqb (get_or from (e - 1) 0) (get_or to (e - 1) 0) ≡ false) → Moved n true to from cursors (e - 1) w₀ w'
        go (inl q) =
            subst (λ (u : List ℕ). Moved n true to from cursors (e - 1) w₀ u) (stored true q)
            (moved_past M some
            (takes_loop true (get_or to (e - 1) 0) (get_or from (e - 1) 0) (get_or to (e - 1) 0) (eq-eqb (get_or to (e - 1) 0) (get_or from (e - 1) 0) (sym (eqb-true (get_or from (e - 1) 0) (get_or to (e - 1) 0) q)))))
        go (inr q) =
            subst (λ (u : List ℕ). Moved n true to from cursors (e - 1) w₀ u) (stored false q)
            (moved_on M some (gives (eqb-false (get_or from (e - 1) 0) (get_or to (e - 1) 0) q)) P.marks (P.ends (e - 1) (omega (arith, P.pair))))

    pub back_more : {r : List Float} → Results (back_of from to w₀ cursors beside t wf forward) (length from) e r₀ r → Results (back_of from to w₀ cursors beside t wf forward) (length from) (e - 1) r₀ (set r (e - 1) x)
    back_more R = results_more R some le (omega (arith, P.room, P.pair)) x (go (bool_cases (eqb (get_or from (e - 1) 0) (get_or to (e - 1) 0))))
      where
        now : (b : Bool) → eqb (get_or from (e - 1) 0) (get_or to (e - 1) 0) ≡ b → x ≡ cond b (get_or forward (e - 1) nan) (get_or wf (t + get_or w (beside + get_or w (cursors + get_or to (e - 1) 0) 0) 0) nan)
        now b q = B.total ∙ ap (λ (c : Bool). cond c (get_or forward (e - 1) nan) (get_or wf (t + get_or w (beside + get_or w (cursors + get_or to (e - 1) 0) 0) 0) nan)) q

        then : (b : Bool) → eqb (get_or from (e - 1) 0) (get_or to (e - 1) 0) ≡ b → cond b (get_or forward (e - 1) nan) (total_of true to from w₀ cursors beside t wf (e - 1)) ≡ back_of from to w₀ cursors beside t wf forward (e - 1)
        then b q = ap (λ (c : Bool). cond c (get_or forward (e - 1) nan) (total_of true to from w₀ cursors beside t wf (e - 1))) (sym q)

        go : (eqb (get_or from (e - 1) 0) (get_or to (e - 1) 0) ≡ true) ⊎ (eqb (get_or from (e - 1) 0) (get_or to (e - 1) 0) ≡ false) → x ≡ back_of from to w₀ cursors beside t wf forward (e - 1)
        go (inl q) = now true q ∙ then true q
        go (inr q) = now false q ∙ ap (λ (k : ℕ). get_or wf (t + k) nan) (back_walk (eqb-false (get_or from (e - 1) 0) (get_or to (e - 1) 0) q)).pair ∙ then false q

pub back_done : {n : ℕ} {from to : List ℕ} {cursors beside t e : ℕ} {w₀ w : List ℕ} {wf r₀ r : List Float} (forward : List Float) → WalkPre n true to from w₀ cursors beside t wf r₀ → Moved n true to from cursors e w₀ w
    → Results (back_of from to w₀ cursors beside t wf forward) (length from) e r₀ r → e ≡ 0 → BackPost n from to w₀ cursors beside t wf forward r₀ w r
back_done forward P M R none = record { walked = moved_done M none; written = results_done R none (omega (arith, P.room, P.pair)) }
