-- The workspace before the first start. Assumes nothing.
use mathlib.Core.Path.{◌≡◌, refl, sym, ap, ◌∙◌}
use mathlib.Core.Bool.{Bool}
use mathlib.Core.List.{List}
use Prim.Native.Nat.{ℕ, ◌+◌, ◌*◌, ◌-◌, ◌≤◌, ◌<◌}
use native.Mathlib.Nat.{zero-add}
use native.Mathlib.Omega.{arith}
use lib.ListN.{length, get_or, length-replicate, get_or-replicate}
use lib.Ieee.{Float, nan}
use Rattle.regions.specs.Region.{zero_f, Filled, Copied, Apart}
use Rattle.regions.proofs.Fronts.{front_then, front_wide}
use Rattle.regions.proofs.Frames.{frame_front}
use Rattle.graph.specs.Edges.{edges_of}
use Rattle.graph.specs.Fronts.{usual_fronts}
use Rattle.graph.specs.Layout.{distances_at, queue_at, incoming_at, filled_at}
use Rattle.rows.specs.Rows.{BuildPre, Built}
use Rattle.hops.specs.Hops.{unreached}
use Rattle.hops.specs.Search.{graph_of}
use Rattle.hops.proofs.Search.{space_after}
use Rattle.hops.proofs.Workspace.{valid, rows_of, space_filled, fresh_filled}
use Rattle.brandes.specs.Shares.{scores_after}
use Rattle.starts.specs.Starts.{Still, Scored, IndexPre, Indexed, PreparePre, Prepared}

module _ {n : ℕ} (directed : Bool) {from to : List ℕ} {weight : List Float} {w c : List ℕ} {f : List Float} (P : PreparePre n from to weight w c f) where
  pub rows_pre : BuildPre n from to weight w
  rows_pre = record { sound = P.sound; room = omega (arith, P.roomy.r32) }

  module _ {w1 : List ℕ} (B : Built n directed from to weight w w1) where
    pub room1 : distances_at n (length from) + n ≤ length w1
    room1 = omega (arith, B.front.long, P.roomy.r32)

    module _ {w2 : List ℕ} (F : Filled w1 (distances_at n (length from)) n unreached w2) where
      pub index_asks : IndexPre n from to weight w2
      index_asks = record { sound = P.sound; room = omega (arith, F.frame.long, B.front.long, P.roomy.r32) }

      module _ {w3 : List ℕ} (I : Indexed n directed from to weight w2 w3) where
        long3 : length w3 ≡ length w
        long3 = I.frame.long ∙ F.frame.long ∙ B.front.long

        pub lists_apart : Apart w3 (incoming_at n (length from)) (filled_at n (length from)) n
        lists_apart = record { source = omega (arith, long3, P.roomy.r32); target = omega (arith, long3, P.roomy.r32); apart = λ i j a b e. omega arith }

        module _ {c1 w4 : List ℕ} {f1 : List Float} (Z : Filled c 0 n 0 c1) (O : Copied w3 (incoming_at n (length from)) w3 (filled_at n (length from)) n w4) (X : Filled f 0 (2 * n) zero_f f1) where
          low4 : (i : ℕ) → i < filled_at n (length from) → get_or w4 i 0 ≡ get_or w3 i 0
          low4 i l = O.frame.rest 0 i (λ p q. omega arith)

          low3 : (i : ℕ) → i < incoming_at n (length from) → get_or w3 i 0 ≡ get_or w2 i 0
          low3 i l = I.frame.rest 0 i (λ p q. omega arith)

          low : (i : ℕ) → i < incoming_at n (length from) → get_or w4 i 0 ≡ get_or w2 i 0
          low i l = low4 i (omega arith) ∙ low3 i l

          long4 : length w4 ≡ length w2
          long4 = O.frame.long ∙ I.frame.long

          last_offset : get_or w4 (incoming_at n (length from) + n) 0 ≤ 2 * length from
          last_offset = omega (arith, low4 (incoming_at n (length from) + n) (omega arith), I.most P.some)

          last_row : get_or w4 n 0 ≤ 2 * length from
          last_row =
              let e : n - 1 + 1 ≡ n = omega (arith, P.some) in
              omega (arith, low n (omega arith), F.frame.rest 0 n (λ p q. omega arith), ap (λ (i : ℕ). get_or w1 i 0) e, B.within (n - 1) (omega (arith, P.some)))

          zero_at : (i : ℕ) → i < 2 * n → get_or f1 i nan ≡ zero_f
          zero_at i l = ap (λ (k : ℕ). get_or f1 k nan) (sym (zero-add i)) ∙ X.at nan i l

          still : Still (graph_of n directed (edges_of from to weight)) (length from) w4 c1 f1
          still =
              record {
                few = omega (arith, P.sound.limits.nodes);
                space = λ s h.
                    space_after
                    (space_filled {D = distances_at n (length from)} {Q = queue_at n (length from)} (valid directed P.sound) h (rows_of directed B (omega arith)) (omega arith) (omega (arith, B.front.long, P.roomy.r32)) (omega (arith, P.roomy.r64)) F Z)
                    w4 c1 long4 refl (λ i l. low i (omega arith));
                slots =
                    record {
                      queue = omega arith;
                      firsts = omega arith;
                      lasts = omega arith;
                      inside = omega (arith, last_offset, long4, F.frame.long, B.front.long, P.roomy.r32);
                      few = omega (arith, last_offset, P.sound.limits.edges);
                      places = λ x h. omega (arith, I.places x h, low4 (incoming_at n (length from) + x) (omega arith), low4 (incoming_at n (length from) + (x + 1)) (omega arith));
                    };
                top = last_offset;
                fresh =
                    let fr = fresh_filled F Z in
                    record { far = λ v h. low (distances_at n (length from) + v) (omega arith) ∙ fr.far v h; none = fr.none };
                empty = λ x h. O.at 0 x h ∙ sym (low4 (incoming_at n (length from) + x) (omega arith));
                floats = omega (arith, X.frame.long, P.roomy.rf);
                deltas = λ v h. zero_at (n + v) (omega arith);
              }

          scored : Scored n f1 (scores_after (graph_of n directed (edges_of from to weight)) 0)
          unfolding scores_after
          scored = record { long = length-replicate n zero_f; at = λ v h. zero_at v (omega arith) ∙ sym (get_or-replicate n v zero_f nan h) }

          pub prepared : Prepared n directed from to weight w c f w4 c1 f1
          prepared =
              record {
                within =
                    record {
                      narrow =
                          front_then (front_wide (usual_fronts n (length from)).narrow (omega arith) B.front)
                          (front_then (frame_front (usual_fronts n (length from)).narrow (omega arith) F.frame)
                          (front_then (frame_front (usual_fronts n (length from)).narrow (omega arith) I.frame) (frame_front (usual_fronts n (length from)).narrow (omega arith) O.frame)));
                      wide = frame_front (usual_fronts n (length from)).wide (omega arith) Z.frame;
                      floats = frame_front (usual_fronts n (length from)).floats (omega arith) X.frame;
                    };
                still = still;
                scored = scored;
                most = last_row;
              }
