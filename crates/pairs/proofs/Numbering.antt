-- Numbering the pairs: the first place of an entry in its row, entry by entry, then row by row. Assumes nothing.
use mathlib.Core.Path.{◌≡◌, sym, ap, ◌∙◌, subst}
use mathlib.Core.Logic.{◌≢◌, ◌⊎◌, inl, inr, ⊎_elim}
use mathlib.Core.Bool.{Bool, cond}
use mathlib.Core.List.{List, [], ◌∷◌}
use Prim.Native.Nat.{ℕ, zero, suc, ◌+◌, ◌-◌, ◌≤◌, ◌<◌}
use native.Mathlib.Nat.{not-suc-le-zero, le_of_suc-le-suc}
use native.Mathlib.Omega.{arith}
use borrow.Author.Tests.{ltb-true, ltb-false}
use lib.Dec.{ltb}
use lib.ListN.{length, get_or, set, length-set}
use Rattle.regions.specs.Region.{Frame2, Filled}
use Rattle.regions.proofs.Cases.{bool_cases, below_or_not}
use Rattle.regions.proofs.Fronts.{hit, miss}
use Rattle.regions.proofs.Frames.{frame2_none, frame2_set_left, frame2_set_right}
use Rattle.graph.specs.Edges.{Edge, entries}
use Rattle.hops.specs.Search.{graph_of, RowsOf}
use Rattle.hops.proofs.Sums.{eq_or_ne}
use Rattle.hops.proofs.Search.{get_or_mem, rows_after}
use Rattle.hops.proofs.Walks.{entry_lt}
use Rattle.pairs.specs.Numbers.{first_at, number_in, NumberPre, NumberPost, RowPre, FirstFrom, RowNumbered}
use Rattle.pairs.proofs.Numbers.{first_hit, first_miss, rows_rise}

-- the first place of x, by places
first_by : (x k : ℕ) (xs : List ℕ) → k < length xs → get_or xs k 0 ≡ x → ((i : ℕ) → i < k → get_or xs i 0 ≢ x) → first_at x xs ≡ k
first_by x k [] l h b = absurd (not-suc-le-zero l)
first_by x zero (y ∷ ys) l h b = first_hit x y ys h
first_by x (suc k) (y ∷ ys) l h b = first_miss x y ys (b 0 (omega arith)) ∙ ap suc (first_by x k ys (le_of_suc-le-suc l) h (λ i q. b (suc i) (omega arith)))

-- ---- one row

-- the entries at places a to p have been numbered; a mark above a is one more than the first place of its node
pub record RowSeen (n a p beside marks : ℕ) (w₀ w : List ℕ) : Type 0 where
  pub frame : Frame2 w₀ (beside + a) (p - a) marks n w
  pub low : (x : ℕ) → x < n → get_or w (marks + x) 0 ≤ p
  pub seen : (x : ℕ) → x < n → a < get_or w (marks + x) 0 → FirstFrom n a (get_or w (marks + x) 0 - 1) x w₀
  pub new : (x : ℕ) → x < n → get_or w (marks + x) 0 ≤ a → (i : ℕ) → a ≤ i → i < p → get_or w₀ (n + 1 + i) 0 ≢ x
  pub early : (j : ℕ) → a ≤ j → j < p → get_or w (beside + j) 0 ≤ j
  pub numbered : (j : ℕ) → a ≤ j → j < p → FirstFrom n a (get_or w (beside + j) 0) (get_or w₀ (n + 1 + j) 0) w₀

pub row_none : {n a e beside marks : ℕ} {w : List ℕ} → RowPre n a e beside marks w → RowSeen n a a beside marks w w
row_none {n} {a} {e} {beside} {marks} {w} P =
    record {
      frame = frame2_none w (beside + a) (a - a) marks n;
      low = P.marked;
      seen = λ x h l. absurd (omega (arith, P.marked x h));
      new = λ x h m i lo hi. absurd (omega arith);
      early = λ j lo hi. absurd (omega arith);
      numbered = λ j lo hi. absurd (omega arith);
    }

module _ {n a e p beside marks : ℕ} {w₀ w : List ℕ} (P : RowPre n a e beside marks w₀) (lo : a ≤ p) (hi : p < e) (S : RowSeen n a p beside marks w₀ w) where
  entry_kept : get_or w (n + 1 + p) 0 ≡ get_or w₀ (n + 1 + p) 0
  entry_kept = S.frame.rest 0 (n + 1 + p) (λ x y. omega (arith, P.inside)) (λ x y. omega (arith, P.inside, P.apart))

  row_node : get_or w (n + 1 + p) 0 < n
  row_node = omega (arith, entry_kept, P.nodes p lo hi)

  -- the place that the mark tells
  module _ (f : ℕ) (is : f ≡ cond (ltb a (get_or w (marks + get_or w (n + 1 + p) 0) 0)) (get_or w (marks + get_or w (n + 1 + p) 0) 0 - 1) p) where
    abbrev x : ℕ
    x = get_or w (n + 1 + p) 0

    abbrev mark : ℕ
    mark = get_or w (marks + get_or w (n + 1 + p) 0) 0

    place_low : f ≤ p
    place_low =
        ⊎_elim
        (λ e. let q : f ≡ mark - 1 = is ∙ ap (λ (t : Bool). cond t (mark - 1) p) e in omega (arith, S.low (get_or w (n + 1 + p) 0) row_node))
        (λ e. let q : f ≡ p = is ∙ ap (λ (t : Bool). cond t (mark - 1) p) e in omega arith)
        (bool_cases (ltb a mark))

    place_first : FirstFrom n a f (get_or w (n + 1 + p) 0) w₀
    place_first =
        ⊎_elim
        (λ e. subst (λ (k : ℕ). FirstFrom n a k (get_or w (n + 1 + p) 0) w₀) (sym (is ∙ ap (λ (t : Bool). cond t (mark - 1) p) e)) (S.seen (get_or w (n + 1 + p) 0) row_node (ltb-true a mark e)))
        (λ e. subst (λ (k : ℕ). FirstFrom n a k (get_or w (n + 1 + p) 0) w₀) (sym (is ∙ ap (λ (t : Bool). cond t (mark - 1) p) e))
        (record { from = lo; here = sym entry_kept; before = λ i l h. S.new (get_or w (n + 1 + p) 0) row_node (ltb-false a mark e) i l h }))
        (bool_cases (ltb a mark))

    abbrev w1 : List ℕ
    w1 = set w (marks + get_or w (n + 1 + p) 0) (f + 1)

    pub row_more : RowSeen n a (p + 1) beside marks w₀ (set (set w (marks + get_or w (n + 1 + p) 0) (f + 1)) (beside + p) f)
    row_more =
        record {
          frame = frame2_set_left (beside + p) f (frame2_set_right (marks + x) (f + 1) wide (omega arith) (omega (arith, row_node))) (omega arith) (omega arith);
          low = λ y h. low' y h (eq_or_ne y x);
          seen = λ y h. seen' y h (eq_or_ne y x);
          new = λ y h m. new' y h (eq_or_ne y x) m;
          early = λ j l h. early' j l h (eq_or_ne j p);
          numbered = λ j l h. numbered' j l h (eq_or_ne j p);
        }
      where
        wide : Frame2 w₀ (beside + a) (p + 1 - a) marks n w
        wide = record { long = S.frame.long; rest = λ d j q r. S.frame.rest d j (λ y z. q y (omega arith)) r }

        w' : List ℕ
        w' = set w1 (beside + p) f

        mark_hit : (y : ℕ) → y ≡ x → get_or w' (marks + y) 0 ≡ f + 1
        mark_hit y e =
            miss w1 (beside + p) f (marks + y) (λ q. omega (arith, P.apart))
            ∙ hit w (marks + x) (f + 1) (marks + y) (ap (λ (k : ℕ). marks + k) e) (omega (arith, row_node, P.room, S.frame.long))

        mark_miss : (y : ℕ) → y ≢ x → get_or w' (marks + y) 0 ≡ get_or w (marks + y) 0
        mark_miss y e = miss w1 (beside + p) f (marks + y) (λ q. omega (arith, P.apart)) ∙ miss w (marks + x) (f + 1) (marks + y) (λ q. e (omega arith))

        beside_hit : (j : ℕ) → j ≡ p → get_or w' (beside + j) 0 ≡ f
        beside_hit j e = hit w1 (beside + p) f (beside + j) (ap (λ (k : ℕ). beside + k) e) (omega (arith, length-set w (marks + x) (f + 1), P.apart, P.room, S.frame.long))

        beside_miss : (j : ℕ) → j < p → get_or w' (beside + j) 0 ≡ get_or w (beside + j) 0
        beside_miss j l = miss w1 (beside + p) f (beside + j) (λ q. omega arith) ∙ miss w (marks + x) (f + 1) (beside + j) (λ q. omega (arith, P.apart))

        low' : (y : ℕ) → y < n → (y ≡ x) ⊎ (y ≢ x) → get_or w' (marks + y) 0 ≤ p + 1
        low' y h (inl e) = omega (arith, mark_hit y e, place_low)
        low' y h (inr e) = omega (arith, mark_miss y e, S.low y h)

        seen' : (y : ℕ) → y < n → (y ≡ x) ⊎ (y ≢ x) → a < get_or w' (marks + y) 0 → FirstFrom n a (get_or w' (marks + y) 0 - 1) y w₀
        seen' y h (inl e) l =
            let q : f ≡ get_or w' (marks + y) 0 - 1 = omega (arith, mark_hit y e) in
            subst (λ (k : ℕ). FirstFrom n a k y w₀) q (subst (λ (k : ℕ). FirstFrom n a f k w₀) (sym e) place_first)
        seen' y h (inr e) l =
            subst (λ (k : ℕ). FirstFrom n a (k - 1) y w₀) (sym (mark_miss y e)) (S.seen y h (omega (arith, mark_miss y e)))

        new' : (y : ℕ) → y < n → (y ≡ x) ⊎ (y ≢ x) → get_or w' (marks + y) 0 ≤ a → (i : ℕ) → a ≤ i → i < p + 1 → get_or w₀ (n + 1 + i) 0 ≢ y
        new' y h (inl e) m i l r = absurd (omega (arith, mark_hit y e, place_first.from))
        new' y h (inr e) m i l r =
            ⊎_elim
            (λ q t. e (sym t ∙ ap (λ (k : ℕ). get_or w₀ (n + 1 + k) 0) q ∙ sym entry_kept))
            (λ q. S.new y h (omega (arith, mark_miss y e)) i l (omega arith))
            (eq_or_ne i p)

        early' : (j : ℕ) → a ≤ j → j < p + 1 → (j ≡ p) ⊎ (j ≢ p) → get_or w' (beside + j) 0 ≤ j
        early' j l h (inl e) = omega (arith, beside_hit j e, place_low)
        early' j l h (inr e) = omega (arith, beside_miss j (omega arith), S.early j l (omega arith))

        numbered' : (j : ℕ) → a ≤ j → j < p + 1 → (j ≡ p) ⊎ (j ≢ p) → FirstFrom n a (get_or w' (beside + j) 0) (get_or w₀ (n + 1 + j) 0) w₀
        numbered' j l h (inl e) =
            subst (λ (k : ℕ). FirstFrom n a k (get_or w₀ (n + 1 + j) 0) w₀) (sym (beside_hit j e))
            (subst (λ (k : ℕ). FirstFrom n a f k w₀) (entry_kept ∙ ap (λ (k : ℕ). get_or w₀ (n + 1 + k) 0) (sym e)) place_first)
        numbered' j l h (inr e) = subst (λ (k : ℕ). FirstFrom n a k (get_or w₀ (n + 1 + j) 0) w₀) (sym (beside_miss j (omega arith))) (S.numbered j l (omega arith))

-- ---- all rows

-- the rows of the nodes below v have been numbered, and no mark is above the beginning of the next
pub record RowsSeen (n v beside marks : ℕ) (w₀ w : List ℕ) : Type 0 where
  pub frame : Frame2 w₀ beside (get_or w₀ n 0) marks n w
  pub low : (x : ℕ) → x < n → get_or w (marks + x) 0 ≤ get_or w₀ v 0
  pub early : (u j : ℕ) → u < v → get_or w₀ u 0 ≤ j → j < get_or w₀ (u + 1) 0 → get_or w (beside + j) 0 ≤ j
  pub numbered : (u j : ℕ) → u < v → get_or w₀ u 0 ≤ j → j < get_or w₀ (u + 1) 0 → FirstFrom n (get_or w₀ u 0) (get_or w (beside + j) 0) (get_or w₀ (n + 1 + j) 0) w₀

-- the marks lie behind the rows
filled_same : {n marks : ℕ} {w w₀ : List ℕ} → Filled w marks n 0 w₀ → (i : ℕ) → i < marks → get_or w₀ i 0 ≡ get_or w i 0
filled_same F i l = F.frame.rest 0 i (λ p q. omega arith)

filled_last : {n beside marks : ℕ} {w w₀ : List ℕ} → NumberPre n beside marks w → Filled w marks n 0 w₀ → get_or w₀ n 0 ≡ get_or w n 0
filled_last {n} {beside} {marks} P F =
    F.frame.rest 0 n (λ p q. ⊎_elim (λ l. omega (arith, P.rows.inside 0 l, P.apart)) (λ l. omega arith) (below_or_not 0 n))

pub pre_filled : {n beside marks : ℕ} {w w₀ : List ℕ} → NumberPre n beside marks w → Filled w marks n 0 w₀ → NumberPre n beside marks w₀
pre_filled {n} {beside} {marks} {w} {w₀} P F =
    record {
      directed = P.directed;
      edges = P.edges;
      valid = P.valid;
      rows = ⊎_elim
          (λ l. rows_after w₀ P.rows (omega (arith, P.rows.inside 0 l)) (λ i h. filled_same F i (omega (arith, P.apart))))
          (λ l. record { long = λ v h. absurd (omega arith); inside = λ v h. absurd (omega arith); entry = λ v k h. absurd (omega arith) })
          (below_or_not 0 n);
      apart = omega (arith, filled_last P F, P.apart);
      room = omega (arith, F.frame.long, P.room);
      few = omega (arith, filled_last P F, P.few);
    }

module _ {n beside marks v : ℕ} {w₀ w : List ℕ} (P : NumberPre n beside marks w₀) (l : v < n) (S : RowsSeen n v beside marks w₀ w) where
  -- what stands before the numbers is as it was
  rows_kept : (i : ℕ) → i < beside → get_or w i 0 ≡ get_or w₀ i 0
  rows_kept i h = S.frame.rest 0 i (λ p q. omega arith) (λ p q. omega (arith, P.apart))

  first_kept : get_or w v 0 ≡ get_or w₀ v 0
  first_kept = rows_kept v (omega (arith, P.rows.inside v l))

  next_kept : get_or w (v + 1) 0 ≡ get_or w₀ (v + 1) 0
  next_kept = rows_kept (v + 1) (omega (arith, P.rows.inside v l))

  next_last : get_or w₀ (v + 1) 0 ≤ get_or w₀ n 0
  next_last = rows_rise P.rows (v + 1) n (omega arith) (omega arith)

  node_at : (p : ℕ) → get_or w v 0 ≤ p → p < get_or w (v + 1) 0 → get_or w (n + 1 + p) 0 < n
  node_at p lo hi =
      let k : p - get_or w₀ v 0 < length (entries (graph_of n P.directed P.edges) v) = omega (arith, P.rows.long v l, first_kept, next_kept) in
      let e : get_or w₀ v 0 + (p - get_or w₀ v 0) ≡ p = omega (arith, first_kept) in
      omega (
        arith,
        rows_kept (n + 1 + p) (omega (arith, P.rows.inside v l, next_kept)),
        ap (λ (i : ℕ). get_or w₀ (n + 1 + i) 0) e,
        P.rows.entry v (p - get_or w₀ v 0) l k,
        entry_lt (graph_of n P.directed P.edges) P.valid.inside v _ (get_or_mem (entries (graph_of n P.directed P.edges) v) (p - get_or w₀ v 0) k),
      )

  pub row_pre : RowPre n (get_or w v 0) (get_or w (v + 1) 0) beside marks w
  row_pre =
      record {
        ordered = omega (arith, first_kept, next_kept, P.rows.long v l);
        inside = omega (arith, next_kept, P.rows.inside v l);
        apart = omega (arith, next_kept, next_last, P.apart);
        room = omega (arith, S.frame.long, P.room);
        few = omega (arith, next_kept, next_last, P.few);
        nodes = node_at;
        marked = λ x h. omega (arith, first_kept, S.low x h);
      }

  module _ {w' : List ℕ} (R : RowNumbered n (get_or w v 0) (get_or w (v + 1) 0) beside marks w w') where
    pub rows_more : RowsSeen n (v + 1) beside marks w₀ w'
    rows_more =
        record {
          frame = record { long = R.frame.long ∙ S.frame.long; rest = λ d j p q. R.frame.rest d j (λ y z. p (omega arith) (omega (arith, next_kept, next_last))) q ∙ S.frame.rest d j p q };
          low = λ x h. omega (arith, R.marked x h, next_kept);
          early = λ u j h lo hi. early' u j h lo hi (eq_or_ne u v);
          numbered = λ u j h lo hi. numbered' u j h lo hi (eq_or_ne u v);
        }
      where
        -- an earlier row's numbers are not written again
        earlier : (u j : ℕ) → u < v → j < get_or w₀ (u + 1) 0 → get_or w' (beside + j) 0 ≡ get_or w (beside + j) 0
        earlier u j h hi =
            let before : get_or w₀ (u + 1) 0 ≤ get_or w₀ v 0 = rows_rise P.rows (u + 1) v (omega arith) (omega arith) in
            R.frame.rest 0 (beside + j) (λ y z. omega (arith, first_kept)) (λ y z. omega (arith, next_last, P.rows.long v l, P.apart))

        lo_v : (u j : ℕ) → u ≡ v → get_or w₀ u 0 ≤ j → get_or w v 0 ≤ j
        lo_v u j e lo = omega (arith, first_kept, ap (λ (i : ℕ). get_or w₀ i 0) e)

        hi_v : (u j : ℕ) → u ≡ v → j < get_or w₀ (u + 1) 0 → j < get_or w (v + 1) 0
        hi_v u j e hi = omega (arith, next_kept, ap (λ (i : ℕ). get_or w₀ (i + 1) 0) e)

        early' : (u j : ℕ) → u < v + 1 → get_or w₀ u 0 ≤ j → j < get_or w₀ (u + 1) 0 → (u ≡ v) ⊎ (u ≢ v) → get_or w' (beside + j) 0 ≤ j
        early' u j h lo hi (inl e) = R.early j (lo_v u j e lo) (hi_v u j e hi)
        early' u j h lo hi (inr e) = omega (arith, earlier u j (omega arith) hi, S.early u j (omega arith) lo hi)

        -- the entries of the row are those before the numbers were written
        back : (j f : ℕ) → j < get_or w (v + 1) 0 → f ≤ j → FirstFrom n (get_or w v 0) f (get_or w (n + 1 + j) 0) w → FirstFrom n (get_or w v 0) f (get_or w₀ (n + 1 + j) 0) w₀
        back j f hi le F =
            record {
              from = F.from;
              here = sym (kept f le) ∙ F.here ∙ kept j (omega arith);
              before = λ i a b q. F.before i a b (kept i (omega arith) ∙ q ∙ sym (kept j (omega arith)));
            }
          where
            kept : (i : ℕ) → i ≤ j → get_or w (n + 1 + i) 0 ≡ get_or w₀ (n + 1 + i) 0
            kept i h = rows_kept (n + 1 + i) (omega (arith, next_kept, P.rows.inside v l))

        numbered' : (u j : ℕ) → u < v + 1 → get_or w₀ u 0 ≤ j → j < get_or w₀ (u + 1) 0 → (u ≡ v) ⊎ (u ≢ v) → FirstFrom n (get_or w₀ u 0) (get_or w' (beside + j) 0) (get_or w₀ (n + 1 + j) 0) w₀
        numbered' u j h lo hi (inl e) =
            subst (λ (a : ℕ). FirstFrom n a (get_or w' (beside + j) 0) (get_or w₀ (n + 1 + j) 0) w₀) (first_kept ∙ ap (λ (i : ℕ). get_or w₀ i 0) (sym e))
            (back j (get_or w' (beside + j) 0) (hi_v u j e hi) (R.early j (lo_v u j e lo) (hi_v u j e hi)) (R.numbered j (lo_v u j e lo) (hi_v u j e hi)))
        numbered' u j h lo hi (inr e) =
            subst (λ (f : ℕ). FirstFrom n (get_or w₀ u 0) f (get_or w₀ (n + 1 + j) 0) w₀) (sym (earlier u j (omega arith) hi)) (S.numbered u j (omega arith) lo hi)

-- the first place among the row's places is the first in the row
numbered_of : {n beside marks : ℕ} {w₀ w : List ℕ} → RowsSeen n n beside marks w₀ w → (directed : Bool) (es : List Edge) → RowsOf (graph_of n directed es) w₀ beside
    → (v j : ℕ) → v < n → j < length (entries (graph_of n directed es) v)
    → get_or w (beside + (get_or w₀ v 0 + j)) 0 ≡ number_in w₀ (graph_of n directed es) v (get_or (entries (graph_of n directed es) v) j 0)
numbered_of {n} {beside} {marks} {w₀} {w} S directed es R v j l h =
    let is : first_at (get_or row j 0) row ≡ f - a = first_by (get_or row j 0) (f - a) row (omega (arith, le, F.from)) like before in
    omega (arith, le, F.from)
  where
    row : List ℕ
    row = entries (graph_of n directed es) v

    a : ℕ
    a = get_or w₀ v 0

    f : ℕ
    f = get_or w (beside + (a + j)) 0

    le : f ≤ a + j
    le = S.early v (a + j) l (omega arith) (omega (arith, R.long v l))

    F : FirstFrom n a f (get_or w₀ (n + 1 + (a + j)) 0) w₀
    F = S.numbered v (a + j) l (omega arith) (omega (arith, R.long v l))

    like : get_or row (f - a) 0 ≡ get_or row j 0
    like =
        let e : a + (f - a) ≡ f = omega (arith, F.from) in
        sym (R.entry v (f - a) l (omega (arith, le, F.from))) ∙ ap (λ (i : ℕ). get_or w₀ (n + 1 + i) 0) e ∙ F.here ∙ R.entry v j l h

    before : (i : ℕ) → i < f - a → get_or row i 0 ≢ get_or row j 0
    before i q t =
        F.before (a + i) (omega arith) (omega arith) (R.entry v i l (omega (arith, le)) ∙ t ∙ sym (R.entry v j l h))

pub rows_done : {n v beside marks : ℕ} {w w₀ w' : List ℕ} → NumberPre n beside marks w → Filled w marks n 0 w₀ → v ≡ n → RowsSeen n v beside marks w₀ w' → NumberPost n beside marks w w'
rows_done {n} {v} {beside} {marks} {w} {w₀} {w'} P F all S' =
    let S : RowsSeen n n beside marks w₀ w' = subst (λ (k : ℕ). RowsSeen n k beside marks w₀ w') all S' in
    record {
      frame = record { long = S.frame.long ∙ F.frame.long; rest = λ d j p q. S.frame.rest d j (λ y z. p y (omega (arith, filled_last P F))) q ∙ F.frame.rest d j q };
      numbered = λ directed es ok R v j l h.
          let front : n + 1 ≤ beside = omega (arith, R.inside v l) in
          let e : get_or w' v 0 ≡ get_or w₀ v 0 = S.frame.rest 0 v (λ p q. omega arith) (λ p q. omega (arith, P.apart)) in
          let e₀ : get_or w₀ v 0 ≡ get_or w v 0 = filled_same F v (omega (arith, P.apart)) in
          ap (λ (a : ℕ). get_or w' (beside + (a + j)) 0) e
          ∙ numbered_of S directed es (rows_after w₀ R front (λ i b. filled_same F i (omega (arith, P.apart)))) v j l h
          ∙ ap (λ (a : ℕ). a + first_at (get_or (entries (graph_of n directed es) v) j 0) (entries (graph_of n directed es) v)) e₀;
    }
