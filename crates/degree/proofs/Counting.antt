-- The walk that counts in the scores: after it each score is the number of ends that are its node. Assumes nothing.
use mathlib.Core.Path.{◌≡◌, refl, sym, ap, ◌∙◌}
use mathlib.Core.Bool.{Bool, true, false, ◌&&◌, cond}
use mathlib.Core.Logic.{⊎_elim}
use mathlib.Core.List.{List, [], ◌∷◌, ◌++◌, foldl, foldl-append}
use Prim.Native.Nat.{ℕ, zero, suc, ◌+◌, ◌*◌, ◌^◌, ◌≤◌, ◌<◌}
use native.Mathlib.Numerals.{add-one}
use native.Mathlib.Omega.{arith}
use borrow.Author.Tests.{eqb-true, eqb-false}
use lib.Dec.{eqb}
use lib.IntN.{pos}
use lib.ListN.{length, get_or, take}
use lib.Seq.{take-suc}
use lib.Ieee.{Float, binary64, nan, add, of_int}
use Rattle.regions.specs.Doubles.{one}
use Rattle.regions.specs.Region.{Front, zero_f, cleared}
use Rattle.regions.proofs.Cases.{bool_cases}
use Rattle.regions.proofs.Fronts.{front_set, hit_d, miss_d, cleared_at, cleared_front_d}
use Rattle.graph.specs.Edges.{edges_from, one_if}
use Rattle.graph.specs.Pres.{Sized}
use Rattle.degree.specs.Degree.{end_count}
use Rattle.degree.specs.Tally.{plus_one, tally, in_turn}
use Rattle.degree.proofs.Exact.{one_more}

-- how many of the ends are v
abbrev pub count_in : ℕ → List ℕ → ℕ
count_in v [] = 0
count_in v (e ∷ es) = one_if (eqb e v) + count_in v es

-- w is w₀ but for its first n places, which hold the numbers c
pub record Counts (w₀ : List Float) (n : ℕ) (c : ℕ → ℕ) (w : List Float) : Type 0 where
  pub front : Front w₀ n w
  pub at : (v : ℕ) → v < n → get_or w v nan ≡ of_int binary64 (pos (c v))

pub counts_none : (w₀ : List Float) (n : ℕ) → n ≤ length w₀ → Counts w₀ n (λ _. 0) (cleared zero_f n w₀)
unfolding of_int
counts_none w₀ n l = record { front = cleared_front_d zero_f n w₀ l; at = λ v h. cleared_at zero_f nan n w₀ v h }

module _ (w₀ : List Float) (n : ℕ) (room : n ≤ length w₀) where
  count_one : (c : ℕ → ℕ) (w : List Float) (e : ℕ) → e < n → c e ≤ 2 ^ 53 → Counts w₀ n c w → Counts w₀ n (λ v. c v + one_if (eqb e v)) (plus_one w e)
  count_one c w e l few s =
      record {
        front = front_set e (add binary64 (get_or w e nan) one) s.front l;
        at = λ v h.
            ⊎_elim
            (λ b.
            let q : e ≡ v = eqb-true e v b in
            rw b
            (hit_d w e (add binary64 (get_or w e nan) one) v nan (sym q) (omega (arith, s.front.long))
            ∙ ap (λ (x : Float). add binary64 x one) (s.at e l)
            ∙ one_more (c e) few
            ∙ ap (λ (x : ℕ). of_int binary64 (pos (c x + 1))) q))
            (λ b. rw b (miss_d w e (add binary64 (get_or w e nan) one) v nan (λ q. eqb-false e v b (sym q)) ∙ s.at v h ∙ ap (λ (x : ℕ). of_int binary64 (pos x)) (more (c v))))
            (bool_cases (eqb e v));
      }
    where
      more : (x : ℕ) → x ≡ x + 0
      more x = omega arith

  pub count_all : (ends : List ℕ) (c : ℕ → ℕ) (w : List Float) → ((i : ℕ) → i < length ends → get_or ends i 0 < n) → ((v : ℕ) → c v + length ends ≤ 2 ^ 53) → Counts w₀ n c w
      → Counts w₀ n (λ v. c v + count_in v ends) (foldl plus_one w ends)
  count_all [] c w h few s = record { front = s.front; at = λ v l. s.at v l ∙ ap (λ (x : ℕ). of_int binary64 (pos x)) (more (c v)) }
    where
      more : (x : ℕ) → x ≡ x + 0
      more x = omega arith
  count_all (e ∷ es) c w h few s =
      let r = count_all es (λ v. c v + one_if (eqb e v)) (plus_one w e) (λ i l. h (suc i) (omega arith)) small (count_one c w e (h 0 (omega arith)) (omega (arith, few e)) s) in
      record { front = r.front; at = λ v l. r.at v l ∙ ap (λ (x : ℕ). of_int binary64 (pos x)) (both (c v) (one_if (eqb e v)) (count_in v es)) }
    where
      both : (x y z : ℕ) → x + y + z ≡ x + (y + z)
      both x y z = omega arith

      small : (v : ℕ) → c v + one_if (eqb e v) + length es ≤ 2 ^ 53
      small v = ⊎_elim (λ b. rw b (omega (arith, few v))) (λ b. rw b (omega (arith, few v))) (bool_cases (eqb e v))

-- ---- a turn of the walk
pub tally_none : (ends : List ℕ) (w : List Float) → w ≡ tally ends 0 w
unfolding tally
tally_none ends w = refl

pub tally_more : (ends : List ℕ) (i : ℕ) (w₀ w : List Float) → i < length ends → w ≡ tally ends i w₀ → plus_one w (get_or ends i 0) ≡ tally ends (i + 1) w₀
unfolding tally
tally_more ends i w₀ w l e =
    ap (λ (x : List Float). plus_one x (get_or ends i 0)) e
    ∙ sym
    (ap (λ (k : ℕ). foldl plus_one w₀ (take k ends)) (add-one i)
    ∙ ap (foldl plus_one w₀) (take-suc ends i 0 l)
    ∙ foldl-append plus_one w₀ (take i ends) (get_or ends i 0 ∷ []))

-- ---- both ends of an edge in turn
pub in_turn_then : (fs ts gs us : List ℕ) → length ts ≡ length fs → in_turn (fs ++ gs) (ts ++ us) ≡ in_turn fs ts ++ in_turn gs us
unfolding in_turn
in_turn_then [] [] gs us e = refl
in_turn_then [] (y ∷ ts) gs us e = absurd (omega arith)
in_turn_then (x ∷ fs) [] gs us e = absurd (omega arith)
in_turn_then (x ∷ fs) (y ∷ ts) gs us e = ap (λ (l : List ℕ). x ∷ y ∷ l) (in_turn_then fs ts gs us (omega arith))

pub in_turn_count : (v : ℕ) (fs ts : List ℕ) → length ts ≡ length fs → count_in v (in_turn fs ts) ≡ count_in v fs + count_in v ts
unfolding in_turn
in_turn_count v [] [] e = refl
in_turn_count v [] (y ∷ ts) e = absurd (omega arith)
in_turn_count v (x ∷ fs) [] e = absurd (omega arith)
in_turn_count v (x ∷ fs) (y ∷ ts) e = omega (arith, in_turn_count v fs ts (omega arith))

pub in_turn_long : (fs ts : List ℕ) → length (in_turn fs ts) ≤ 2 * length fs
unfolding in_turn
in_turn_long [] ts = omega arith
in_turn_long (x ∷ fs) [] = omega arith
in_turn_long (x ∷ fs) (y ∷ ts) = omega (arith, in_turn_long fs ts)

pub in_turn_inside : (n : ℕ) (fs ts : List ℕ) → ((i : ℕ) → i < length fs → get_or fs i 0 < n) → ((i : ℕ) → i < length ts → get_or ts i 0 < n) → (i : ℕ) → i < length (in_turn fs ts) → get_or (in_turn fs ts) i 0 < n
unfolding in_turn
in_turn_inside n [] ts p q i l = absurd (omega arith)
in_turn_inside n (x ∷ fs) [] p q i l = absurd (omega arith)
in_turn_inside n (x ∷ fs) (y ∷ ts) p q zero l = p 0 (omega arith)
in_turn_inside n (x ∷ fs) (y ∷ ts) p q (suc zero) l = q 0 (omega arith)
in_turn_inside n (x ∷ fs) (y ∷ ts) p q (suc (suc i)) l = in_turn_inside n fs ts (λ j h. p (suc j) (omega arith)) (λ j h. q (suc j) (omega arith)) i (omega arith)

-- ---- the ends of the edges, list by list
both_ends : (p q : Bool) (k : ℕ) (fs ts : List ℕ) (xs : List Float) (v : ℕ) → Sized fs ts xs → end_count p q (edges_from k fs ts xs) v ≡ count_in v (cond p fs []) + count_in v (cond q ts [])
unfolding end_count edges_from
both_ends p q k [] [] xs v s = none p q
  where
    none : (a b : Bool) → 0 ≡ count_in v (cond a [] []) + count_in v (cond b [] [])
    none true true = refl
    none true false = refl
    none false true = refl
    none false false = refl
both_ends p q k [] (t ∷ ts) xs v s = absurd (omega (arith, s.tos))
both_ends p q k (f ∷ fs) [] xs v s = absurd (omega (arith, s.tos))
both_ends p q k (f ∷ fs) (t ∷ ts) [] v s = absurd (omega (arith, s.weights))
both_ends p q k (f ∷ fs) (t ∷ ts) (x ∷ xs) v s =
    ap (λ (r : ℕ). one_if (p && eqb f v) + one_if (q && eqb t v) + r) (both_ends p q (suc k) fs ts xs v (record { tos = omega (arith, s.tos); weights = omega (arith, s.weights) }))
    ∙ split p q
  where
    split : (a b : Bool) → one_if (a && eqb f v) + one_if (b && eqb t v) + (count_in v (cond a fs []) + count_in v (cond b ts [])) ≡ count_in v (cond a (f ∷ fs) []) + count_in v (cond b (t ∷ ts) [])
    split true true = omega arith
    split true false = omega arith
    split false true = omega arith
    split false false = omega arith

pub ends_counted : (p q : Bool) (fs ts : List ℕ) (xs : List Float) (v : ℕ) → Sized fs ts xs → end_count p q (edges_from 0 fs ts xs) v ≡ count_in v (cond p fs []) + count_in v (cond q ts [])
ends_counted p q fs ts xs v s = both_ends p q 0 fs ts xs v s
