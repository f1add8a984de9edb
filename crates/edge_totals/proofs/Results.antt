-- Each edge's total out of the workspace: the walks over the edges read it at the number of the edge's pair. Assumes nothing.
use Rattle.std.proofs.Common.{◌≡◌, ℕ, suc, ◌+◌, ◌-◌, ◌*◌, ◌<◌, ◌≤◌, Bool, true, false, cond, not, ◌&&◌, eqb, ◌⊎◌, List, map, length, get_or, sym, refl, ap, ◌∙◌, subst, inl, inr, true≢false, zero-add, arith, ext_get_or, eq-eqb, ne_eqb}
use mathlib.Core.List.{Memᴰ}
use lib.ListN.{length-map, get_or-map}
use lib.Ieee.{Float, nan}
use Rattle.regions.specs.Region.{over, list_of, Front, Frame, Copied, Apart}
use Rattle.regions.proofs.Cases.{same_or_not}
use Rattle.regions.proofs.Fronts.{list_long, over_long}
use Rattle.regions.proofs.Frames.{frame_then, frame_front}
use Rattle.regions.proofs.Parts.{list_at_lem, over_at}
use Rattle.graph.specs.Edges.{Edge, edge, Graph, neighbours, entries, edges_of}
use Rattle.graph.specs.Fronts.{usual_fronts}
use Rattle.graph.specs.Layout.{beside_at, queue_at, totals_at}
use Rattle.graph.specs.Pres.{Sized, Sound}
use Rattle.graph.proofs.Edges.{edges_long, edges_at, no_edge}
use Rattle.hops.specs.Search.{graph_of}
use Rattle.hops.proofs.Search.{get_or_mem}
use Rattle.rows.specs.Walks.{takes}
use Rattle.pairs.specs.declared.Table.{Table}
use Rattle.pairs.specs.Numbers.{number_in, table_at}
use Rattle.pairs.specs.Writes.{among, place_of, total_of, WalkPre, Walked, ForwardPost, back_of, BackPost}
use Rattle.pairs.proofs.Numbers.{rows_rise}
use Rattle.pairs.proofs.Cursors.{Stands, among_long, forward_entry, back_entry}
use Rattle.crossings.specs.Totals.{scaled_total}
use Rattle.pair_starts.specs.Starts.{TotalsHeld}
use Rattle.edge_totals.specs.Writes.{RowsNumbered, EdgesPre, EdgesPost, TotalsScaled}
use Rattle.pair_starts.proofs.Numbering.{number_low}

-- place is that of an entry x of v, where the rows of g stand in w
record EntryAt (g : Graph) (w : List ℕ) (v x place : ℕ) : Type 0 where
  row : v < g.nodes
  nth : ℕ
  inside : nth < length (entries g v)
  is : get_or (entries g v) nth 0 ≡ x
  stands : place ≡ get_or w v 0 + nth

-- ---- the total at a place

module _ {n : ℕ} {directed : Bool} {es : List Edge} {m : ℕ} {w : List ℕ} (R : RowsNumbered (graph_of n directed es) m w) where
  -- the rows end before 2m
  row_low : (v : ℕ) → v < n → get_or w (v + 1) 0 ≤ 2 * m
  row_low v h = omega (arith, rows_rise R.rows (v + 1) n (omega arith) (omega arith), R.most)

  module _ {v x place : ℕ} (E : EntryAt (graph_of n directed es) w v x place) where
    place_low : place < 2 * m
    place_low = omega (arith, E.stands, E.inside, R.rows.long v E.row, row_low v E.row)

    entry_in : Memᴰ x (entries (graph_of n directed es) v)
    entry_in = subst (λ (y : ℕ). Memᴰ y (entries (graph_of n directed es) v)) E.is (get_or_mem (entries (graph_of n directed es) v) E.nth E.inside)

    pair_low : number_in w (graph_of n directed es) v x < 2 * m
    pair_low = number_low m R.rows R.most v x E.row entry_in

    module _ {w' : List ℕ} (F : Frame w (queue_at n m) n w') where
      -- beside it stands the pair
      number_at : get_or w' (beside_at n m + place) 0 ≡ number_in w (graph_of n directed es) v x
      number_at =
          F.rest 0 (beside_at n m + place) (λ a b. omega (arith, place_low))
          ∙ ap (λ (k : ℕ). get_or w (beside_at n m + k) 0) E.stands
          ∙ R.numbered v E.nth E.row E.inside
          ∙ ap (number_in w (graph_of n directed es) v) E.is

      total_at : {normalized : Bool} {f f' : List Float} {total : ℕ → ℕ → Float} → TotalsHeld (graph_of n directed es) w f total → TotalsScaled n directed normalized (2 * m) f f'
          → get_or f' (totals_at n + get_or w' (beside_at n m + place) 0) nan ≡ scaled_total n directed normalized (total v x)
      total_at {normalized} {f} {f'} {total} T C =
          ap (λ (k : ℕ). get_or f' (totals_at n + k) nan) number_at
          ∙ C.at (number_in w (graph_of n directed es) v x) pair_low
          ∙ ap (scaled_total n directed normalized) (T.at v x E.row entry_in)

  -- what a walk asks, from the place of each entry
  walk_pre : (skip : Bool) (own other : List ℕ) {w' : List ℕ} {f results : List Float} → Frame w (queue_at n m) n w' → queue_at n m + n ≤ length w → m ≤ 32768 → length other ≡ length own
      → ((i : ℕ) → i < length own → get_or own i 0 < n)
      → ((v : ℕ) → v < n → get_or w' (queue_at n m + v) 0 + among skip own other v (length own) ≤ get_or w (v + 1) 0)
      → ((i : ℕ) → i < length own → takes skip (get_or own i 0) (get_or other i 0) (get_or own i 0) ≡ true → (x : ℕ) × EntryAt (graph_of n directed es) w (get_or own i 0) x (place_of skip own other w' (queue_at n m) i))
      → totals_at n + 2 * m ≤ length f → length own ≤ length results
      → WalkPre n skip own other w' (queue_at n m) (beside_at n m) (totals_at n) f results
  walk_pre skip own other {w'} {f} {results} F room few pair ends below at held fits =
      record {
        pair = pair;
        ends = ends;
        marks = omega (arith, F.long);
        few = λ v h. omega (arith, below v h, row_low v h);
        places = λ i h t. omega (arith, place_low (at i h t).1);
        totals = λ i h t. omega (arith, number_at (at i h t).1 F, pair_low (at i h t).1);
        room = fits;
      }

-- ---- the results, from what stands at each edge
listed : (from to : List ℕ) (weight : List Float) → Sized from to weight → (h : ℕ → Float) (k : Edge → Float) → ((i : ℕ) → i < length from → h i ≡ k (edge i (get_or from i 0) (get_or to i 0) (get_or weight i nan)))
    → list_of h (length from) ≡ map k (edges_of from to weight)
listed from to weight s h k e =
    let long : length (list_of h (length from)) ≡ length from = list_long h (length from) in
    ext_get_or (k no_edge) (list_of h (length from)) (map k (edges_of from to weight)) (long ∙ sym (edges_long from to weight s) ∙ sym (length-map (edges_of from to weight) k))
    (λ i l.
    let b : i < length from = omega arith in
    list_at_lem h (length from) (k no_edge) i b ∙ e i b ∙ sym (get_or-map k (edges_of from to weight) i no_edge ∙ ap k (edges_at from to weight no_edge i s b)))

-- an edge that gives its second end an entry is no self-loop
no_loop : {a b : ℕ} → takes true a b a ≡ true → b ≡ a → ⊥
no_loop {a} {b} t q = true≢false (sym t ∙ ap (λ (x : Bool). x && not (eqb b a)) (eq-eqb a a refl) ∙ ap not (eq-eqb b a q))

-- ---- the two walks

module _ {n : ℕ} {directed : Bool} {from to : List ℕ} {weight : List Float} (S : Sound n from to weight)
    {w w1 : List ℕ} (R : RowsNumbered (graph_of n directed (edges_of from to weight)) (length from) w) (C : Copied w 0 w (queue_at n (length from)) n w1) where
  -- each cursor stands where its row begins
  begins : (v : ℕ) → v < n → get_or w1 (queue_at n (length from) + v) 0 ≡ get_or w v 0
  begins v h = C.at 0 v h ∙ ap (λ (k : ℕ). get_or w k 0) (zero-add v)

  forward_at : (i : ℕ) → i < length from → EntryAt (graph_of n directed (edges_of from to weight)) w (get_or from i 0) (get_or to i 0) (place_of false from from w1 (queue_at n (length from)) i)
  forward_at i h =
      record {
        row = S.ends.froms i h;
        nth = among false from from (get_or from i 0) (length from) - among false from from (get_or from i 0) (suc i);
        inside = (forward_entry S.sized directed i h).0;
        is = (forward_entry S.sized directed i h).1;
        stands = ap (λ (k : ℕ). k + (among false from from (get_or from i 0) (length from) - among false from from (get_or from i 0) (suc i))) (begins (get_or from i 0) (S.ends.froms i h));
      }

  pub forward_pre : {f forward : List Float} → (usual_fronts n (length from)).narrow ≤ length w → (usual_fronts n (length from)).floats ≤ length f → length from ≤ length forward
      → WalkPre n false from from w1 (queue_at n (length from)) (beside_at n (length from)) (totals_at n) f forward
  forward_pre {f} {forward} narrow floats fits =
      walk_pre R false from from C.frame (omega arith) S.limits.edges refl S.ends.froms
      (λ v h. omega (arith, begins v h, among_long S.sized directed v, R.rows.long v h))
      (λ i h t. (get_or to i 0, forward_at i h)) (omega arith) fits

  module _ {normalized : Bool} {f f' : List Float} {total : ℕ → ℕ → Float} (T : TotalsHeld (graph_of n directed (edges_of from to weight)) w f total) (D : TotalsScaled n directed normalized (2 * length from) f f') where
    forward_total : (i : ℕ) → i < length from → total_of false from from w1 (queue_at n (length from)) (beside_at n (length from)) (totals_at n) f' i ≡ scaled_total n directed normalized (total (get_or from i 0) (get_or to i 0))
    forward_total i h = total_at R (forward_at i h) C.frame T D

    pub forward_is : {w2 : List ℕ} {forward forward' : List Float} → ForwardPost n from w1 (queue_at n (length from)) (beside_at n (length from)) (totals_at n) f' forward w2 forward'
        → forward' ≡ over (map (λ e. scaled_total n directed normalized (total e.from e.to)) (edges_of from to weight)) forward
    forward_is {w2} {forward} P =
        P.written ∙ ap (λ (l : List Float). over l forward)
        (listed from to weight S.sized (total_of false from from w1 (queue_at n (length from)) (beside_at n (length from)) (totals_at n) f') (λ e. scaled_total n directed normalized (total e.from e.to)) forward_total)

  module _ (undirected : directed ≡ false) {w2 : List ℕ} (W : Walked n false from from (queue_at n (length from)) w1 w2) where
    -- each cursor stands behind the entries that the first walk passed
    goes_on : (v : ℕ) → v < n → get_or w2 (queue_at n (length from) + v) 0 ≡ get_or w v 0 + among false from from v (length from)
    goes_on v h = W.ends v h ∙ ap (λ (k : ℕ). k + among false from from v (length from)) (begins v h)

    both : Frame w (queue_at n (length from)) n w2
    both = frame_then C.frame W.frame

    back_at : (i : ℕ) → i < length from → (get_or from i 0 ≡ get_or to i 0 → ⊥) → EntryAt (graph_of n directed (edges_of from to weight)) w (get_or to i 0) (get_or from i 0) (place_of true to from w2 (queue_at n (length from)) i)
    back_at i h d =
        let there : Stands (get_or from i 0) (among false from from (get_or to i 0) (length from) + (among true to from (get_or to i 0) (length from) - among true to from (get_or to i 0) (suc i))) (entries (graph_of n directed (edges_of from to weight)) (get_or to i 0)) = subst (λ (b : Bool). Stands (get_or from i 0) (among false from from (get_or to i 0) (length from) + (among true to from (get_or to i 0) (length from) - among true to from (get_or to i 0) (suc i))) (neighbours b (edges_of from to weight) (get_or to i 0))) (sym undirected) (back_entry S.sized i h d) in
        let long : among true to from (get_or to i 0) (length to) ≡ among true to from (get_or to i 0) (length from) = ap (among true to from (get_or to i 0)) S.sized.tos in
        record {
          row = S.ends.tos i h;
          nth = among false from from (get_or to i 0) (length from) + (among true to from (get_or to i 0) (length from) - among true to from (get_or to i 0) (suc i));
          inside = there.0;
          is = there.1;
          stands = omega (arith, goes_on (get_or to i 0) (S.ends.tos i h), long);
        }

    pub back_pre : {f back : List Float} → (usual_fronts n (length from)).narrow ≤ length w → (usual_fronts n (length from)).floats ≤ length f → length from ≤ length back
        → WalkPre n true to from w2 (queue_at n (length from)) (beside_at n (length from)) (totals_at n) f back
    back_pre {f} {back} narrow floats fits =
        walk_pre R true to from both (omega arith) S.limits.edges (sym S.sized.tos) (λ i h. S.ends.tos i (omega (arith, S.sized.tos)))
        (λ v h.
        let e : among false from from v (length from) + among true to from v (length from) ≡ length (entries (graph_of n directed (edges_of from to weight)) v) = ap (λ (b : Bool). among false from from v (length from) + cond b 0 (among true to from v (length from))) (sym undirected) ∙ among_long S.sized directed v in
        omega (arith, goes_on v h, e, ap (among true to from v) S.sized.tos, R.rows.long v h))
        (λ i h t. (get_or from i 0, back_at i (omega (arith, S.sized.tos)) (no_loop t))) (omega arith) (omega (arith, S.sized.tos))

    module _ {normalized : Bool} {f f' : List Float} {total : ℕ → ℕ → Float} (T : TotalsHeld (graph_of n directed (edges_of from to weight)) w f total) (D : TotalsScaled n directed normalized (2 * length from) f f')
        {forward forward' : List Float} (P : ForwardPost n from w1 (queue_at n (length from)) (beside_at n (length from)) (totals_at n) f' forward w2 forward') where
      back_total : (i : ℕ) → i < length from → back_of from to w2 (queue_at n (length from)) (beside_at n (length from)) (totals_at n) f' forward' i ≡ scaled_total n directed normalized (total (get_or to i 0) (get_or from i 0))
      back_total i h = go (same_or_not (get_or from i 0) (get_or to i 0))
        where
          t : Float
          t = total_of true to from w2 (queue_at n (length from)) (beside_at n (length from)) (totals_at n) f' i

          -- a self-loop's total is the one that was written forward
          loop : get_or from i 0 ≡ get_or to i 0 → get_or forward' i nan ≡ scaled_total n directed normalized (total (get_or to i 0) (get_or from i 0))
          loop e =
              let h1 = total_of false from from w1 (queue_at n (length from)) (beside_at n (length from)) (totals_at n) f' in
              let long : length (list_of h1 (length from)) ≡ length from = list_long h1 (length from) in
              ap (λ (l : List Float). get_or l i nan) P.written
              ∙ over_at (list_of h1 (length from)) forward nan i (omega arith)
              ∙ list_at_lem h1 (length from) nan i h
              ∙ forward_total T D i h
              ∙ ap (λ (v : ℕ). scaled_total n directed normalized (total v (get_or to i 0))) e
              ∙ ap (λ (x : ℕ). scaled_total n directed normalized (total (get_or to i 0) x)) (sym e)

          go : (get_or from i 0 ≡ get_or to i 0) ⊎ (get_or from i 0 ≡ get_or to i 0 → ⊥)
              → back_of from to w2 (queue_at n (length from)) (beside_at n (length from)) (totals_at n) f' forward' i ≡ scaled_total n directed normalized (total (get_or to i 0) (get_or from i 0))
          go (inl e) = ap (λ (b : Bool). cond b (get_or forward' i nan) t) (eq-eqb (get_or from i 0) (get_or to i 0) e) ∙ loop e
          go (inr d) = ap (λ (b : Bool). cond b (get_or forward' i nan) t) (ne_eqb (get_or from i 0) (get_or to i 0) d) ∙ total_at R (back_at i h d) both T D

      pub back_is : {w3 : List ℕ} {back back' : List Float} → BackPost n from to w2 (queue_at n (length from)) (beside_at n (length from)) (totals_at n) f' forward' back w3 back'
          → back' ≡ over (map (λ e. scaled_total n directed normalized (total e.to e.from)) (edges_of from to weight)) back
      back_is {w3} {back} B =
          B.written ∙ ap (λ (l : List Float). over l back)
          (listed from to weight S.sized (back_of from to w2 (queue_at n (length from)) (beside_at n (length from)) (totals_at n) f' forward') (λ e. scaled_total n directed normalized (total e.to e.from)) back_total)

-- ---- all steps of `write_edges`

module _ {n : ℕ} {directed : Bool} {from to w : List ℕ} {f forward back : List Float} (P : EdgesPre n directed from to w f forward back) where
  -- in the places of the table
  module _ {tb : Table} (is : tb ≡ table_at n (length from)) where
    pub cursors_ask : Apart w 0 tb.marks n
    cursors_ask = subst (λ (t : Table). Apart w 0 t.marks n) (sym is) (record { source = omega (arith, P.narrow); target = omega (arith, P.narrow); apart = λ i j a b e. omega arith })

    module _ {normalized : Bool} {f1 : List Float} {w1 : List ℕ} (D : TotalsScaled n directed normalized (2 * length from) f f1) (copied : Copied w 0 w tb.marks n w1) where
      C : Copied w 0 w (queue_at n (length from)) n w1
      C = subst (λ (t : Table). Copied w 0 w t.marks n w1) is copied

      pub forward_asks : WalkPre n false from from w1 tb.marks tb.beside tb.totals f1 forward
      forward_asks =
          subst (λ (t : Table). WalkPre n false from from w1 t.marks t.beside t.totals f1 forward) (sym is)
          (forward_pre P.sound P.numbered C P.narrow (omega (arith, P.floats, D.frame.long)) P.forwards)

      module _ {w2 : List ℕ} {forward' : List Float} (forwards : ForwardPost n from w1 tb.marks tb.beside tb.totals f1 forward w2 forward') where
        F : ForwardPost n from w1 (queue_at n (length from)) (beside_at n (length from)) (totals_at n) f1 forward w2 forward'
        F = subst (λ (t : Table). ForwardPost n from w1 t.marks t.beside t.totals f1 forward w2 forward') is forwards

        floats : Front f (usual_fronts n (length from)).floats f1
        floats = frame_front (usual_fronts n (length from)).floats (omega arith) D.frame

        passed : Frame w (queue_at n (length from)) n w2
        passed = frame_then C.frame F.walked.frame

        pub written_directed : directed ≡ true → EdgesPost n directed normalized from to w f forward back w2 f1 forward' back
        written_directed d =
            record {
              narrow = frame_front (usual_fronts n (length from)).narrow (omega arith) passed;
              floats = floats;
              forwards = λ weight S R total T. forward_is S R C T D F;
              backs = λ weight S R total T. ap (λ (b : Bool). cond b back (over (map (λ e. scaled_total n directed normalized (total e.to e.from)) (edges_of from to weight)) back)) (sym d);
            }

        module _ (d : directed ≡ false) where
          pub back_asks : WalkPre n true to from w2 tb.marks tb.beside tb.totals f1 back × (length to ≤ length forward')
          back_asks = (
            subst (λ (t : Table). WalkPre n true to from w2 t.marks t.beside t.totals f1 back) (sym is) (back_pre P.sound P.numbered C d F.walked P.narrow (omega (arith, P.floats, D.frame.long)) (P.backs d)),
            omega (arith, long, P.forwards, P.sound.sized.tos),
          )
            where
              h : ℕ → Float
              h = total_of false from from w1 (queue_at n (length from)) (beside_at n (length from)) (totals_at n) f1

              long : length forward' ≡ length forward
              long = ap length F.written ∙ over_long (list_of h (length from)) forward (omega (arith, list_long h (length from), P.forwards))

          pub written_both : {w3 : List ℕ} {back' : List Float} → BackPost n from to w2 tb.marks tb.beside tb.totals f1 forward' back w3 back'
              → EdgesPost n directed normalized from to w f forward back w3 f1 forward' back'
          written_both {w3} {back'} backs =
              let B : BackPost n from to w2 (queue_at n (length from)) (beside_at n (length from)) (totals_at n) f1 forward' back w3 back' = subst (λ (t : Table). BackPost n from to w2 t.marks t.beside t.totals f1 forward' back w3 back') is backs in
              record {
                narrow = frame_front (usual_fronts n (length from)).narrow (omega arith) (frame_then passed B.walked.frame);
                floats = floats;
                forwards = λ weight S R total T. forward_is S R C T D F;
                backs = λ weight S R total T.
                    back_is S R C d F.walked T D F B
                    ∙ ap (λ (b : Bool). cond b back (over (map (λ e. scaled_total n directed normalized (total e.to e.from)) (edges_of from to weight)) back)) (sym d);
              }
