-- The rows of the edges turned round have, for each node, as many entries as lead to it. Assumes nothing.
use mathlib.Core.Path.{◌≡◌, refl, sym, ap, ap₂, ◌∙◌}
use mathlib.Core.Logic.{◌⊎◌, inl, inr, ⊎_elim}
use mathlib.Core.Bool.{Bool}
use mathlib.Core.List.{List, [], ◌∷◌, map}
use Prim.Native.Nat.{ℕ, suc, ◌+◌, ◌*◌, ◌-◌, ◌≤◌, ◌<◌}
use native.Mathlib.Nat.{mul-one}
use native.Mathlib.Omega.{arith}
use borrow.Rule.Slice.PartMut.{put_mid}
use lib.ListN.{length, get_or, take, drop, length-take, length-drop}
use lib.Seq.{get_or-take, get_or-drop}
use lib.Ieee.{Float}
use Rattle.regions.specs.Region.{Frame}
use Rattle.regions.proofs.Cases.{below_or_not}
use Rattle.regions.proofs.Frames.{frame_by}
use Rattle.regions.proofs.Lent.{lent_frame, lent_at}
use Rattle.graph.specs.Edges.{Edge, Graph, edges_from, edges_of, neighbours, entries}
use Rattle.graph.specs.Layout.{incoming_at}
use Rattle.graph.specs.Pres.{Sound}
use Rattle.rows.specs.Rows.{rows_front, BuildPre, Built}
use Rattle.rows.proofs.Reading.{row_length}
use Rattle.hops.specs.Sum.{times}
use Rattle.hops.specs.Hops.{walks, turn, turned, Valid}
use Rattle.hops.specs.Search.{graph_of}
use Rattle.hops.proofs.Sums.{below_cong, sum_length, sum_times}
use Rattle.hops.proofs.Walks.{walks_turn, turned_inside, entry_lt}
use Rattle.hops.proofs.Workspace.{valid}
use Rattle.predecessors.specs.Tracks.{leading}
use Rattle.starts.specs.Starts.{IndexPre, Indexed}

-- turning exchanges the two slices of ends
turn_edges : (k : ℕ) (fs ts : List ℕ) (xs : List Float) → length ts ≡ length fs → map turn (edges_from k fs ts xs) ≡ edges_from k ts fs xs
unfolding edges_from
turn_edges k [] [] xs e = refl
turn_edges k [] (t ∷ ts) xs e = absurd (omega arith)
turn_edges k (f ∷ fs) [] xs e = absurd (omega arith)
turn_edges k (f ∷ fs) (t ∷ ts) [] e = refl
turn_edges k (f ∷ fs) (t ∷ ts) (x ∷ xs) e = ap₂ ◌∷◌ refl (turn_edges (suc k) fs ts xs (omega arith))

one_hop : (g : Graph) (u v : ℕ) → walks g 1 u v ≡ times v (entries g u)
unfolding walks
one_hop g u v = refl

-- the entries of x in the turned graph are as many as entries lead to x
lead_turned : (g : Graph) → Valid g → (x : ℕ) → x < g.nodes → length (entries (turned g) x) ≡ leading g x
unfolding turned
lead_turned g ok x h =
    sym (sum_length (entries (turned g) x))
    ∙ sum_times g.nodes (entries (turned g) x) (λ y. 1) (λ y m. entry_lt (turned g) (turned_inside g ok.inside) x y m)
    ∙ below_cong g.nodes (λ v hv. mul-one (times v (entries (turned g) x)) ∙ sym (one_hop (turned g) x v) ∙ walks_turn g ok.inside 1 v x hv h ∙ one_hop g v x)

swapped : {n : ℕ} {from to : List ℕ} {weight : List Float} → Sound n from to weight → Sound n to from weight
swapped S =
    record {
      sized = record { tos = sym S.sized.tos; weights = S.sized.weights ∙ sym S.sized.tos };
      limits = record { nodes = S.limits.nodes; edges = omega (arith, S.limits.edges, S.sized.tos) };
      ends = record { froms = λ i l. S.ends.tos i (omega (arith, S.sized.tos)); tos = λ i l. S.ends.froms i (omega (arith, S.sized.tos)) };
    }

module _ {n : ℕ} (directed : Bool) {from to : List ℕ} {weight : List Float} {w : List ℕ} (pre : IndexPre n from to weight w) where
  m : ℕ
  m = length from

  same_long : length to ≡ length from
  same_long = pre.sound.sized.tos

  part_long : length (take (length w - incoming_at n (length from)) (drop (incoming_at n (length from)) w)) ≡ length w - incoming_at n (length from)
  part_long = simp (length-take, length-drop) (omega arith)

  pub index_pre : BuildPre n to from weight (take (length w - incoming_at n (length from)) (drop (incoming_at n (length from)) w))
  index_pre = record { sound = swapped pre.sound; room = omega (arith, part_long, same_long, pre.room) }

  lead : (x : ℕ) → x < n → length (neighbours directed (edges_of to from weight) x) ≡ leading (graph_of n directed (edges_of from to weight)) x
  unfolding turned
  lead x h =
      ap (λ (es : List Edge). length (neighbours directed es x)) (sym (turn_edges 0 from to weight same_long))
      ∙ lead_turned (graph_of n directed (edges_of from to weight)) (valid directed pre.sound) x h

  module _ {u : List ℕ} (B : Built n directed to from weight (take (length w - incoming_at n (length from)) (drop (incoming_at n (length from)) w)) u) where
    u_long : length u ≡ length w - incoming_at n (length from)
    u_long = B.front.long ∙ part_long

    room : incoming_at n (length from) ≤ length w
    room = omega (arith, pre.room)

    at : (i : ℕ) → i < length w - incoming_at n (length from) → get_or (put_mid (incoming_at n (length from)) (length w - incoming_at n (length from)) w u) (incoming_at n (length from) + i) 0 ≡ get_or u i 0
    at i l = lent_at (incoming_at n (length from)) (length w) w u room (omega arith) u_long 0 i l

    whole : Frame w (incoming_at n (length from)) (length w - incoming_at n (length from)) (put_mid (incoming_at n (length from)) (length w - incoming_at n (length from)) w u)
    whole = lent_frame (incoming_at n (length from)) (length w) w u room (omega arith) u_long

    pub indexed : Indexed n directed from to weight w (put_mid (incoming_at n (length from)) (length w - incoming_at n (length from)) w u)
    indexed =
        record {
          frame = frame_by 0 whole.long (λ j h. stays j h (below_or_not j (incoming_at n (length from))) (below_or_not j (length w)));
          places = λ x h.
              let r = row_length n u x (B.fit.rises x h) (B.fit.inside x h) in
              let a = at x (omega (arith, pre.room)) in
              let b = at (x + 1) (omega (arith, pre.room)) in
              omega (arith, ap length (B.rows x h), lead x h, B.fit.rises x h);
          most = λ h. omega (arith, at n (omega (arith, pre.room)), last h);
        }
      where
        last : 0 < n → get_or u n 0 ≤ 2 * length from
        last h =
            let e : n - 1 + 1 ≡ n = omega arith in
            omega (arith, B.within (n - 1) (omega arith), ap (λ (i : ℕ). get_or u i 0) e, same_long)

        stays : (j : ℕ) → (incoming_at n (length from) ≤ j → j < incoming_at n (length from) + rows_front n (length from) → ⊥) → (j < incoming_at n (length from)) ⊎ (incoming_at n (length from) ≤ j) → (j < length w) ⊎ (length w ≤ j)
            → get_or (put_mid (incoming_at n (length from)) (length w - incoming_at n (length from)) w u) j 0 ≡ get_or w j 0
        stays j h (inl l) d = whole.rest 0 j (λ p q. omega arith)
        stays j h (inr l) (inr d) = whole.rest 0 j (λ p q. omega arith)
        stays j h (inr l) (inl d) =
            let e : incoming_at n (length from) + (j - incoming_at n (length from)) ≡ j = omega arith in
            let far : rows_front n (length to) ≤ j - incoming_at n (length from) = far_of j h l in
            ap (λ (i : ℕ). get_or (put_mid (incoming_at n (length from)) (length w - incoming_at n (length from)) w u) i 0) (sym e)
            ∙ at (j - incoming_at n (length from)) (omega arith)
            ∙ B.front.rest 0 (j - incoming_at n (length from)) far
            ∙ get_or-take (length w - incoming_at n (length from)) (drop (incoming_at n (length from)) w) (j - incoming_at n (length from)) 0 (omega arith)
            ∙ get_or-drop (incoming_at n (length from)) w (j - incoming_at n (length from)) 0
            ∙ ap (λ (i : ℕ). get_or w i 0) e
          where
            far_of : (j : ℕ) → (incoming_at n (length from) ≤ j → j < incoming_at n (length from) + rows_front n (length from) → ⊥) → incoming_at n (length from) ≤ j → rows_front n (length to) ≤ j - incoming_at n (length from)
            far_of j h l = ⊎_elim (λ q. absurd (h l q)) (λ q. omega (arith, same_long)) (below_or_not j (incoming_at n (length from) + rows_front n (length from)))
