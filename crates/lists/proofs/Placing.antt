-- The turns of `place_entries`. Assumes nothing.
use mathlib.Core.Path.{◌≡◌, refl, sym, ap, ◌∙◌}
use mathlib.Core.Logic.{⊎_elim}
use mathlib.Core.Bool.{Bool, true, false, ◌||◌}
use mathlib.Core.List.{List, [], ◌∷◌}
use Prim.Native.Nat.{ℕ, zero, suc, ◌+◌, ◌*◌, ◌-◌, ◌≤◌, ◌<◌}
use native.Mathlib.Numerals.{add-one}
use native.Mathlib.Omega.{arith}
use borrow.Author.Tests.{eq-eqb, ne_eqb}
use lib.Dec.{eqb}
use lib.ListN.{length, get_or, set, drop, length-set}
use lib.Ieee.{Float, nan}
use lib.Seq.{drop-length}
use Rattle.regions.specs.Region.{Front}
use Rattle.regions.proofs.Cases.{same_or_not, below_or_not, bool_cases}
use Rattle.regions.proofs.Fronts.{front_none, front_set, hit, miss}
use Rattle.graph.specs.Edges.{Edge, Entry, toward, edge, edges_of, weighted}
use Rattle.graph.specs.Layout.{entries_at, beside_at}
use Rattle.graph.proofs.Edges.{edges_long, edges_from_lem}
use Rattle.rows.proofs.Sums.{sum_more, sum_mono}
use Rattle.lists.specs.Lists.{lists_front}
use Rattle.lists.specs.Walks.{start_of, with_entry, PutPre, PlacePre, no_entry, Placed}
use Rattle.lists.proofs.Entries.{added, added_own, added_other, added_more, weighted_none, weighted_one, weighted_two, drop_short}

-- a column of w at b holds what f reads of the entries: the kth of v stands where as many places are left to the end of v's list
abbrev Column : ℕ → (ℕ → ℕ) → (ℕ → List Entry) → List ℕ → ℕ → (Entry → ℕ) → Type 0
Column n ends lists w b f = (v k j : ℕ) → v < n → k < length (lists v) → j + length (lists v) ≡ ends v + k → get_or w (b + j) 0 ≡ f (get_or (lists v) k no_entry)

-- the entries of `lists` stand in w, each list up to its end, and each offset before them
pub record Holds (n m : ℕ) (ends : ℕ → ℕ) (lists : ℕ → List Entry) (w₀ w : List ℕ) : Type 0 where
  pub front : Front w₀ (lists_front n m) w
  pub last : get_or w n 0 ≡ get_or w₀ n 0
  pub offs : (v : ℕ) → v < n → get_or w v 0 + length (lists v) ≡ ends v
  pub targets : Column n ends lists w (entries_at n) (λ x. x.target)
  pub positions : Column n ends lists w (beside_at n m) (λ x. x.edge.at)

pub holds_same : {n m : ℕ} {ends : ℕ → ℕ} {lists lists' : ℕ → List Entry} {w₀ w : List ℕ} → ((v : ℕ) → lists v ≡ lists' v) → Holds n m ends lists w₀ w → Holds n m ends lists' w₀ w
holds_same e h =
    record {
      front = h.front;
      last = h.last;
      offs = λ v l. rw (← (e v)) (h.offs v l);
      targets = λ v. rw (← (e v)) (h.targets v);
      positions = λ v. rw (← (e v)) (h.positions v);
    }

-- each list has places of its own: `long v` of them before `ends v`
pub record Space (n m : ℕ) (ends long : ℕ → ℕ) : Type 0 where
  pub inside : (v : ℕ) → v < n → ends v ≤ 2 * m
  pub fits : (v : ℕ) → v < n → long v ≤ ends v
  pub apart : (v u : ℕ) → v < u → u < n → ends v + long u ≤ ends u

-- ---- one entry
module _ (n m : ℕ) (ends long : ℕ → ℕ) (lists : ℕ → List Entry) (w₀ w : List ℕ) (own : ℕ) (x : Entry)
    (room : lists_front n m ≤ length w₀) (space : Space n m ends long) (h : Holds n m ends lists w₀ w) (in_n : own < n)
    (left : length (lists own) < long own) (short : (v : ℕ) → v < n → length (lists v) ≤ long v) where
  pub has : 1 ≤ get_or w own 0
  has = omega (arith, h.offs own in_n, space.fits own in_n)

  module _ (p : ℕ) (ep : p + 1 ≡ get_or w own 0) where
    below : p < 2 * m
    below = omega (arith, h.offs own in_n, space.inside own in_n)

    abbrev w1 : List ℕ
    w1 = set w own p

    abbrev w2 : List ℕ
    w2 = set w1 (entries_at n + p) x.target

    abbrev new : List ℕ
    new = set w2 (beside_at n m + p) x.edge.at

    long1 : length w1 ≡ length w₀
    long1 = length-set w own p ∙ h.front.long

    long2 : length w2 ≡ length w₀
    long2 = length-set w1 (entries_at n + p) x.target ∙ long1

    at_off : (v : ℕ) → v ≤ n → (own ≡ v → ⊥) → get_or new v 0 ≡ get_or w v 0
    at_off v l e =
        miss w2 (beside_at n m + p) x.edge.at v (λ q. omega arith)
        ∙ miss w1 (entries_at n + p) x.target v (λ q. omega arith)
        ∙ miss w own p v (λ q. e (sym q))

    at_own : get_or new own 0 ≡ p
    at_own =
        miss w2 (beside_at n m + p) x.edge.at own (λ q. omega arith)
        ∙ miss w1 (entries_at n + p) x.target own (λ q. omega arith)
        ∙ hit w own p own refl (omega (arith, h.front.long))

    -- p is in the own list's stretch, and no place of another list is
    not_p : (v k j : ℕ) → v < n → (own ≡ v → ⊥) → k < length (lists v) → j + length (lists v) ≡ ends v + k → j ≡ p → ⊥
    not_p v k j l e a b q =
        ⊎_elim
        (λ z. omega (arith, space.apart own v z l, short v l, h.offs own in_n))
        (λ z. omega (arith, space.apart v own (omega (arith, e)) in_n, h.offs own in_n))
        (below_or_not own v)

    module _ (b : ℕ) (f : Entry → ℕ) (stays : (j : ℕ) → j < 2 * m → (j ≡ p → ⊥) → get_or new (b + j) 0 ≡ get_or w (b + j) 0) (put : get_or new (b + p) 0 ≡ f x) (col : Column n ends lists w b f) where
      own_column : (k j : ℕ) → k < length (x ∷ lists own) → j + length (x ∷ lists own) ≡ ends own + k → get_or new (b + j) 0 ≡ f (get_or (x ∷ lists own) k no_entry)
      own_column zero j l e = let q : j ≡ p = omega (arith, h.offs own in_n) in rw q put
      own_column (suc k) j l e =
          stays j (omega (arith, space.inside own in_n)) (λ q. omega (arith, h.offs own in_n))
          ∙ col own k j in_n (omega arith) (omega arith)

      column : Column n ends (added own x lists) new b f
      column v =
          ⊎_elim
          (λ q. rw (← q) (rw (added_own own x lists) (λ k j l a e. own_column k j a e)))
          (λ q. rw (added_other own x lists v q) (λ k j l a e. stays j (omega (arith, space.inside v l)) (not_p v k j l q a e) ∙ col v k j l a e))
          (same_or_not own v)

    step_at : Holds n m ends (added own x lists) w₀ new
    step_at =
        record {
          front = front_set _ _ (front_set _ _ (front_set _ _ h.front (omega arith)) (omega (arith, below))) (omega (arith, below));
          last = at_off n (omega arith) (λ q. omega arith) ∙ h.last;
          offs = λ v l.
              ⊎_elim
              (λ q. rw (← q) (rw (added_own own x lists) (omega (arith, at_own, h.offs own in_n))))
              (λ q. rw (added_other own x lists v q) (omega (arith, at_off v (omega arith) q, h.offs v l)))
              (same_or_not own v);
          targets = column (entries_at n) (λ y. y.target)
              (λ j l q.
              miss w2 (beside_at n m + p) x.edge.at (entries_at n + j) (λ z. omega arith)
              ∙ miss w1 (entries_at n + p) x.target (entries_at n + j) (λ z. q (omega arith))
              ∙ miss w own p (entries_at n + j) (λ z. omega arith))
              (miss w2 (beside_at n m + p) x.edge.at (entries_at n + p) (λ z. omega (arith, below))
              ∙ hit w1 (entries_at n + p) x.target (entries_at n + p) refl (omega (arith, below, long1)))
              h.targets;
          positions = column (beside_at n m) (λ y. y.edge.at)
              (λ j l q.
              miss w2 (beside_at n m + p) x.edge.at (beside_at n m + j) (λ z. q (omega arith))
              ∙ miss w1 (entries_at n + p) x.target (beside_at n m + j) (λ z. omega (arith, below))
              ∙ miss w own p (beside_at n m + j) (λ z. omega arith))
              (hit w2 (beside_at n m + p) x.edge.at (beside_at n m + p) refl (omega (arith, below, long2)))
              h.positions;
        }

  pub step_put : Holds n m ends (added own x lists) w₀ (with_entry n m own x.target x.edge.at w)
  step_put = step_at (get_or w own 0 - 1) (omega (arith, has))

-- ---- whether an edge gives one entry or two
pub once_directed : {directed : Bool} (f t : ℕ) → directed ≡ true → (directed || eqb f t) ≡ true
once_directed f t d = rw d

pub once_loop : {directed : Bool} (f t : ℕ) → directed ≡ false → f ≡ t → (directed || eqb f t) ≡ true
once_loop f t d e = rw (d, eq-eqb f t e)

pub twice : {directed : Bool} (f t : ℕ) → directed ≡ false → (f ≡ t → ⊥) → (directed || eqb f t) ≡ false
twice f t d e = rw (d, ne_eqb f t e)

-- ---- one edge, and all edges
module _ (n : ℕ) (directed : Bool) (fs ts : List ℕ) (xs : List Float) (w₀ : List ℕ) (pre : PlacePre n directed fs ts xs w₀) where
  abbrev m : ℕ
  m = length fs

  abbrev E : List Edge
  E = edges_of fs ts xs

  abbrev long : ℕ → ℕ
  long v = length (weighted directed E v)

  abbrev ends : ℕ → ℕ
  ends v = start_of directed E (v + 1)

  start_more : (v : ℕ) → start_of directed E (v + 1) ≡ start_of directed E v + long v
  start_more v = sum_more long v

  space : Space n m ends long
  space =
      record {
        inside = λ v l. omega (arith, sum_mono long (v + 1) n (omega arith), pre.total);
        fits = λ v l. omega (arith, start_more v);
        apart = λ v u l q. omega (arith, sum_mono long (v + 1) u (omega arith), start_more u);
      }

  -- the lists of the edges from the ith on
  abbrev pub lists_from : ℕ → ℕ → List Entry
  lists_from i = weighted directed (drop i E)

  short : (i v : ℕ) → length (lists_from i v) ≤ long v
  short i v = drop_short directed v E i

  pub none : Holds n m ends (lists_from m) w₀ w₀
  none =
      holds_same (λ v. sym (nothing v))
      record {
        front = front_none w₀ (lists_front n m);
        last = refl;
        offs = λ v l. omega (arith, pre.ends v l);
        targets = λ v k j l a e. absurd (omega arith);
        positions = λ v k j l a e. absurd (omega arith);
      }
    where
      nothing : (v : ℕ) → lists_from m v ≡ []
      nothing v =
          ap (λ (k : ℕ). weighted directed (drop k E) v) (sym (edges_long fs ts xs pre.sound.sized))
          ∙ ap (λ (l : List Edge). weighted directed l v) (drop-length E)
          ∙ weighted_none directed v

  -- the edge before the kth
  module _ (k i : ℕ) (w : List ℕ) (before : k ≡ i + 1) (more : k ≤ m) (hk : Holds n m ends (lists_from k) w₀ w) where
    h : Holds n m ends (lists_from (i + 1)) w₀ w
    h = rw before at hk

    abbrev e : Edge
    e = edge i (get_or fs i 0) (get_or ts i 0) (get_or xs i nan)

    this : (v : ℕ) → lists_from i v ≡ weighted directed (e ∷ drop (i + 1) E) v
    this v = ap (λ (l : List Edge). weighted directed l v) (edges_from_lem fs ts xs i pre.sound.sized (omega arith)) ∙ rw (add-one i)

    f_in : get_or fs i 0 < n
    f_in = pre.sound.ends.froms i (omega arith)

    t_in : get_or ts i 0 < n
    t_in = pre.sound.ends.tos i (omega arith)

    abbrev x : Entry
    x = toward (get_or ts i 0) e

    abbrev y : Entry
    y = toward (get_or fs i 0) e

    abbrev lists : ℕ → List Entry
    lists = lists_from (i + 1)

    abbrev once : Bool
    once = directed || eqb (get_or fs i 0) (get_or ts i 0)

    -- with the entries of this edge
    one_more : once ≡ true → (v : ℕ) → added (get_or fs i 0) x lists v ≡ lists_from i v
    one_more q v = weighted_one directed e (drop (i + 1) E) q v ∙ sym (this v)

    two_more : once ≡ false → (v : ℕ) → added (get_or ts i 0) y (added (get_or fs i 0) x lists) v ≡ lists_from i v
    two_more q v = weighted_two directed e (drop (i + 1) E) q v ∙ sym (this v)

    -- the from-end has a place left, and so has the to-end where it takes an entry
    left_from : length (lists (get_or fs i 0)) < long (get_or fs i 0)
    left_from =
        ⊎_elim
        (λ q. omega (arith, short i (get_or fs i 0), ap length (one_more q (get_or fs i 0)), ap length (added_own (get_or fs i 0) x lists)))
        (λ q. omega (arith, short i (get_or fs i 0), ap length (two_more q (get_or fs i 0)), added_more (get_or ts i 0) y (added (get_or fs i 0) x lists) (get_or fs i 0), ap length (added_own (get_or fs i 0) x lists)))
        (bool_cases once)

    short_two : once ≡ false → (v : ℕ) → v < n → length (added (get_or fs i 0) x lists v) ≤ long v
    short_two q v l = omega (arith, short i v, ap length (two_more q v), added_more (get_or ts i 0) y (added (get_or fs i 0) x lists) v)

    left_to : once ≡ false → length (added (get_or fs i 0) x lists (get_or ts i 0)) < long (get_or ts i 0)
    left_to q = omega (arith, short i (get_or ts i 0), ap length (two_more q (get_or ts i 0)), ap length (added_own (get_or ts i 0) y (added (get_or fs i 0) x lists)))

    pub turn : PutPre n m (get_or fs i 0) i w
    turn =
        record {
          room = omega (arith, pre.room, h.front.long);
          node = f_in;
          position = omega (arith, pre.sound.limits.edges);
          some = has n m ends long lists w₀ w (get_or fs i 0) x pre.room space h f_in left_from (λ v l. short (i + 1) v);
          inside = omega (arith, h.offs (get_or fs i 0) f_in, space.inside (get_or fs i 0) f_in);
        }

    -- after the first entry
    module _ {w1 : List ℕ} (e1 : w1 ≡ with_entry n m (get_or fs i 0) (get_or ts i 0) i w) where
      first : Holds n m ends (added (get_or fs i 0) x lists) w₀ w1
      first = rw e1 (step_put n m ends long lists w₀ w (get_or fs i 0) x pre.room space h f_in left_from (λ v l. short (i + 1) v))

      pub step_one : once ≡ true → Holds n m ends (lists_from i) w₀ w1
      step_one q = holds_same (one_more q) first

      pub turn_two : once ≡ false → PutPre n m (get_or ts i 0) i w1
      turn_two q =
          record {
            room = omega (arith, pre.room, first.front.long);
            node = t_in;
            position = omega (arith, pre.sound.limits.edges);
            some = has n m ends long (added (get_or fs i 0) x lists) w₀ w1 (get_or ts i 0) y pre.room space first t_in (left_to q) (short_two q);
            inside = omega (arith, first.offs (get_or ts i 0) t_in, space.inside (get_or ts i 0) t_in);
          }

      pub step_two : once ≡ false → {w2 : List ℕ} → w2 ≡ with_entry n m (get_or ts i 0) (get_or fs i 0) i w1 → Holds n m ends (lists_from i) w₀ w2
      step_two q e2 =
          rw e2
          (holds_same (two_more q)
          (step_put n m ends long (added (get_or fs i 0) x lists) w₀ w1 (get_or ts i 0) y pre.room space first t_in (left_to q) (short_two q)))

  pub done : (i : ℕ) (w : List ℕ) → i ≡ 0 → Holds n m ends (lists_from i) w₀ w → Placed n directed fs ts xs w₀ w
  done i w z h0 =
      let h : Holds n m ends (lists_from 0) w₀ w = rw z at h0 in
      record {
        front = h.front;
        last = h.last;
        starts = λ v l. omega (arith, h.offs v l, start_more v);
        targets = λ v k l q. h.targets v k (start_of directed E v + k) l q (omega (arith, start_more v));
        positions = λ v k l q. h.positions v k (start_of directed E v + k) l q (omega (arith, start_more v));
      }
