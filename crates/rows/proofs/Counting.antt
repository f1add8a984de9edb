-- The turns of `count_entries`. Assumes nothing.
use mathlib.Core.Path.{◌≡◌, refl, sym, ap, ◌∙◌}
use mathlib.Core.Logic.{⊎_elim}
use mathlib.Core.Bool.{Bool, true, false, cond}
use mathlib.Core.List.{List}
use Prim.Native.Nat.{ℕ, ◌+◌, ◌*◌, ◌≤◌, ◌<◌}
use native.Mathlib.Omega.{arith}
use borrow.Author.Tests.{eq-eqb, ne_eqb}
use lib.ListN.{length, get_or, set, length-set}
use Rattle.graph.specs.Edges.{one_if}
use Rattle.regions.specs.Region.{Front}
use Rattle.regions.proofs.Cases.{same_or_not}
use Rattle.regions.proofs.Fronts.{front_none, front_by, hit, miss}
use Rattle.rows.specs.Walks.{takes, row_to, back, count_to, sum_to, CountPre, Counted}
use Rattle.rows.proofs.Walks.{takes_not, takes_own, takes_loop, row_none, long_more, long_le, total_le}
use Rattle.rows.proofs.Sums.{sum_add}

-- ---- one edge
-- before an edge: its ends are nodes, and each count can grow
pub record EdgePre (n : ℕ) (w : List ℕ) (f t : ℕ) : Type 0 where
  pub room : n ≤ length w
  pub from : f < n
  pub to : t < n
  pub small : (v : ℕ) → v < n → get_or w v 0 ≤ 131072

-- after it: one more for from and, undirected, one more for to unless that is from; no other place of w differs
pub record EdgeCounted (directed : Bool) (f t : ℕ) (w w' : List ℕ) : Type 0 where
  pub long : length w' ≡ length w
  pub at : (v : ℕ) → get_or w' v 0 ≡ get_or w v 0 + (one_if (takes false f t v) + cond directed 0 (one_if (takes true t f v)))

abbrev up : List ℕ → ℕ → List ℕ
up w x = set w x (get_or w x 0 + 1)

up_at : (skip : Bool) (own other : ℕ) (w : List ℕ) (v : ℕ) → own < length w → (own ≡ v → takes skip own other v ≡ true) → get_or (up w own) v 0 ≡ get_or w v 0 + one_if (takes skip own other v)
up_at skip own other w v l t =
    ⊎_elim
    (λ e. hit w own _ v (sym e) (omega arith) ∙ omega (arith, ap (λ (x : ℕ). get_or w x 0) e, ap one_if (t e)))
    (λ e. miss w own _ v (λ q. e (sym q)) ∙ omega (arith, ap one_if (takes_not skip own other v e)))
    (same_or_not own v)

module _ (n : ℕ) (directed : Bool) (w : List ℕ) (f t : ℕ) (pre : EdgePre n w f t) where
  abbrev from_up : List ℕ
  from_up = up w f

  from_at : (v : ℕ) → get_or from_up v 0 ≡ get_or w v 0 + one_if (takes false f t v)
  from_at v = up_at false f t w v (omega arith) (λ e. takes_own false f t v e refl)

  pub counted_directed : directed ≡ true → EdgeCounted directed f t w from_up
  counted_directed d = record { long = length-set w f _; at = λ v. rw d (omega (arith, from_at v)) }

  pub counted_loop : directed ≡ false → f ≡ t → EdgeCounted directed f t w from_up
  counted_loop d e =
      record { long = length-set w f _; at = λ v. rw d (omega (arith, from_at v, ap one_if (takes_loop true t f v (eq-eqb t f (sym e))))) }

  pub counted_both : directed ≡ false → (f ≡ t → ⊥) → EdgeCounted directed f t w (up from_up t)
  counted_both d e =
      record {
        long = length-set from_up t _ ∙ length-set w f _;
        at = λ v.
            rw d
            (omega (arith, from_at v, up_at true t f from_up v (rw (length-set w f (get_or w f 0 + 1)) (omega arith)) (λ q. takes_own true t f v q (ne_eqb t f (λ z. e (sym z))))));
      }

  -- what stands at the second end after the first was counted
  pub second_end : (f ≡ t → ⊥) → get_or from_up t 0 ≡ get_or w t 0
  second_end e = miss w f _ t (λ q. e (sym q))

-- ---- i edges
pub record Counting (n : ℕ) (directed : Bool) (fs ts w₀ : List ℕ) (i : ℕ) (w : List ℕ) : Type 0 where
  pub upto : i ≤ length fs
  pub front : Front w₀ n w
  pub at : (v : ℕ) → v < n → get_or w v 0 ≡ count_to directed fs ts v i

count_none : (directed : Bool) (fs ts : List ℕ) (v : ℕ) → count_to directed fs ts v 0 ≡ 0
unfolding count_to
count_none true fs ts v = omega (arith, ap length (row_none false fs ts v), ap length (row_none true ts fs v))
count_none false fs ts v = omega (arith, ap length (row_none false fs ts v), ap length (row_none true ts fs v))

count_more : (directed : Bool) (fs ts : List ℕ) (v i : ℕ)
    → count_to directed fs ts v (i + 1) ≡ count_to directed fs ts v i + (one_if (takes false (get_or fs i 0) (get_or ts i 0) v) + cond directed 0 (one_if (takes true (get_or ts i 0) (get_or fs i 0) v)))
unfolding count_to
count_more true fs ts v i = omega (arith, long_more false fs ts v i)
count_more false fs ts v i = omega (arith, long_more false fs ts v i, long_more true ts fs v i)

pub back_le : (directed : Bool) (i : ℕ) → back directed i ≤ i
back_le true i = omega arith
back_le false i = omega arith

count_le : (directed : Bool) (fs ts : List ℕ) (v i : ℕ) → count_to directed fs ts v i ≤ 2 * i
unfolding count_to
count_le directed fs ts v i = omega (arith, long_le false fs ts v i, long_le true ts fs v (back directed i), back_le directed i)

-- i edges give at most 2i entries
pub count_total : (directed : Bool) (fs ts : List ℕ) (n i : ℕ) → sum_to (λ v. count_to directed fs ts v i) n ≤ 2 * i
unfolding count_to
count_total directed fs ts n i =
    omega (
      arith,
      sum_add (λ v. length (row_to false fs ts v i)) (λ v. length (row_to true ts fs v (back directed i))) (λ v. count_to directed fs ts v i) n (λ k. refl),
      total_le false fs ts n i,
      total_le true ts fs n (back directed i),
      back_le directed i,
    )

pub none : (n : ℕ) (directed : Bool) (fs ts w : List ℕ) → CountPre n fs ts w → Counting n directed fs ts w 0 w
none n directed fs ts w pre =
    record { upto = omega arith; front = front_none w n; at = λ v l. pre.clear v l ∙ sym (count_none directed fs ts v) }

-- an edge changes nothing at a node that is not one of its ends
elsewhere : (directed : Bool) (f t v : ℕ) → (f ≡ v → ⊥) → (t ≡ v → ⊥) → one_if (takes false f t v) + cond directed 0 (one_if (takes true t f v)) ≡ 0
elsewhere true f t v p q = omega (arith, ap one_if (takes_not false f t v p))
elsewhere false f t v p q = omega (arith, ap one_if (takes_not false f t v p), ap one_if (takes_not true t f v q))

module _ (n : ℕ) (directed : Bool) (fs ts w₀ : List ℕ) (i : ℕ) (w : List ℕ) (pre : CountPre n fs ts w₀) (more : i < length fs) (s : Counting n directed fs ts w₀ i w) where
  pub turn : EdgePre n w (get_or fs i 0) (get_or ts i 0)
  turn =
      record {
        room = omega (arith, pre.room, s.front.long);
        from = pre.froms i more;
        to = pre.tos i more;
        small = λ v l. omega (arith, s.at v l, count_le directed fs ts v i, pre.few);
      }

  pub step : {w' : List ℕ} → EdgeCounted directed (get_or fs i 0) (get_or ts i 0) w w' → Counting n directed fs ts w₀ (i + 1) w'
  step c =
      record {
        upto = omega arith;
        front = front_by 0 (c.long ∙ s.front.long)
            (λ j l.
            c.at j
            ∙ omega (
              arith,
              s.front.rest 0 j l,
              elsewhere directed (get_or fs i 0) (get_or ts i 0) j (λ q. omega (arith, pre.froms i more)) (λ q. omega (arith, pre.tos i more)),
            ));
        at = λ v l. c.at v ∙ omega (arith, s.at v l, count_more directed fs ts v i);
      }

pub done : (n : ℕ) (directed : Bool) (fs ts w₀ : List ℕ) (i : ℕ) (w : List ℕ) → i ≡ length fs → Counting n directed fs ts w₀ i w → Counted n directed fs ts w₀ w
done n directed fs ts w₀ i w e s = record { front = s.front; at = λ v l. rw e at (s.at v l) }
