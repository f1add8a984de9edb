-- The workspace before the first start with pairs: what `prepare` leaves, then each row entry's pair beside it, and every total +0.0. Assumes nothing.
use mathlib.Core.Path.{◌≡◌, sym, ap, ◌∙◌, subst}
use mathlib.Core.Bool.{Bool}
use mathlib.Core.List.{List}
use Prim.Native.Nat.{ℕ, ◌+◌, ◌*◌, ◌≤◌, ◌<◌}
use native.Mathlib.Omega.{arith}
use lib.ListN.{length, get_or}
use lib.Ieee.{Float, nan}
use Rattle.regions.specs.Region.{zero_f, Filled}
use Rattle.regions.proofs.Fronts.{front_none}
use Rattle.regions.proofs.Frames.{frame_front, frame2_front}
use Rattle.graph.specs.Edges.{edges_of, entries}
use Rattle.graph.specs.Fronts.{usual_fronts}
use Rattle.graph.specs.Layout.{beside_at, distances_at, queue_at, incoming_at, totals_at}
use Rattle.hops.specs.Search.{graph_of, RowsOf, Space}
use Rattle.hops.proofs.Search.{rows_after}
use Rattle.predecessors.proofs.Holding.{slots_after}
use Rattle.pairs.specs.declared.Table.{Table}
use Rattle.pairs.specs.Numbers.{first_at, table_at, NumberPre, NumberPost}
use Rattle.starts.specs.Starts.{Still, PreparePre, Prepared}
use Rattle.starts.proofs.Following.{within_then}
use Rattle.crossings.specs.Totals.{totals_after}
use Rattle.pair_starts.specs.Starts.{StillPairs, TotalsHeld, PreparedPairs}
use Rattle.pair_starts.proofs.Numbering.{rows_low, number_low}

module _ {n : ℕ} {directed : Bool} {from to : List ℕ} {weight : List Float} {w c : List ℕ} {f : List Float} (P : PreparePre n from to weight w c f)
    {w1 c1 : List ℕ} {f1 : List Float} (A : Prepared n directed from to weight w c f w1 c1 f1) {tb : Table} (is : tb ≡ table_at n (length from)) where
  space : Space (graph_of n directed (edges_of from to weight)) 0 w1 c1 (distances_at n (length from)) (queue_at n (length from))
  space = A.still.space 0 P.some

  rows : RowsOf (graph_of n directed (edges_of from to weight)) w1 (beside_at n (length from))
  rows = rows_low (length from) space.rows A.most

  pub number_pre : NumberPre n tb.beside tb.marks w1
  number_pre =
      subst (λ (t : Table). NumberPre n t.beside t.marks w1) (sym is)
      (record {
        directed = directed;
        edges = edges_of from to weight;
        valid = space.valid;
        rows = rows;
        apart = omega (arith, A.most);
        room = space.room;
        few = omega (arith, A.most, P.sound.limits.edges);
      })

  module _ {w2 : List ℕ} (numbers : NumberPost n tb.beside tb.marks w1 w2) {f2 : List Float} (zeros : Filled f1 tb.totals (2 * length from) zero_f f2) where
    N : NumberPost n (beside_at n (length from)) (queue_at n (length from)) w1 w2
    N = subst (λ (t : Table). NumberPost n t.beside t.marks w1 w2) is numbers

    Z : Filled f1 (totals_at n) (2 * length from) zero_f f2
    Z = subst (λ (t : Table). Filled f1 t.totals (2 * length from) zero_f f2) is zeros

    -- the rows, the distances and all behind the queue are as they were
    low : (i : ℕ) → i < beside_at n (length from) → get_or w2 i 0 ≡ get_or w1 i 0
    low i l = N.frame.rest 0 i (λ p q. omega arith) (λ p q. omega arith)

    middle : (i : ℕ) → distances_at n (length from) ≤ i → i < queue_at n (length from) → get_or w2 i 0 ≡ get_or w1 i 0
    middle i l h = N.frame.rest 0 i (λ p q. omega (arith, A.most)) (λ p q. omega arith)

    high : (i : ℕ) → incoming_at n (length from) ≤ i → get_or w2 i 0 ≡ get_or w1 i 0
    high i l = N.frame.rest 0 i (λ p q. omega (arith, A.most)) (λ p q. omega arith)

    rows2 : RowsOf (graph_of n directed (edges_of from to weight)) w2 (beside_at n (length from))
    rows2 = rows_after w2 rows (omega arith) low

    still : Still (graph_of n directed (edges_of from to weight)) (length from) w2 c1 f2
    still =
        record {
          few = A.still.few;
          space = λ s h.
              record {
                valid = space.valid;
                start = h;
                rows = record { long = rows2.long; inside = λ v l. omega (arith, rows2.inside v l); entry = rows2.entry };
                apart = space.apart;
                room = omega (arith, space.room, N.frame.long);
                counts = space.counts;
              };
          slots = slots_after A.still.slots w2 N.frame.long (λ i a b. high i a);
          top = omega (arith, A.still.top, high (incoming_at n (length from) + n) (omega arith));
          fresh = record { far = λ v h. middle (distances_at n (length from) + v) (omega arith) (omega arith) ∙ A.still.fresh.far v h; none = A.still.fresh.none };
          empty = λ x h. high (4 * n + 2 + 4 * length from + x) (omega arith) ∙ A.still.empty x h ∙ sym (high (incoming_at n (length from) + x) (omega arith));
          floats = omega (arith, A.still.floats, Z.frame.long);
          deltas = λ v h. Z.frame.rest nan (n + v) (λ p q. omega arith) ∙ A.still.deltas v h;
        }

    still_pairs : StillPairs (graph_of n directed (edges_of from to weight)) (length from) w2 c1 f2
    still_pairs =
        record {
          still = still;
          most = omega (arith, A.most, low n (omega arith));
          numbered = λ v j h l.
              N.numbered directed (edges_of from to weight) space.valid rows v j h l
              ∙ ap (λ (o : ℕ). o + first_at (get_or (entries (graph_of n directed (edges_of from to weight)) v) j 0) (entries (graph_of n directed (edges_of from to weight)) v)) (sym (low v (omega arith)));
          room = omega (arith, Z.frame.long, A.within.floats.long, P.roomy.rf);
        }

    totals : TotalsHeld (graph_of n directed (edges_of from to weight)) w2 f2 (totals_after (graph_of n directed (edges_of from to weight)) 0)
    unfolding totals_after
    totals = record { at = λ v x h k. Z.at nan _ (number_low (length from) rows2 still_pairs.most v x h k) }

    pub prepared_pairs : PreparedPairs n directed from to weight w c f w2 c1 f2
    prepared_pairs =
        record {
          within =
              within_then A.within
              (record {
                narrow = frame2_front (usual_fronts n (length from)).narrow (omega (arith, A.most)) (omega arith) N.frame;
                wide = front_none c1 (usual_fronts n (length from)).wide;
                floats = frame_front (usual_fronts n (length from)).floats (omega arith) Z.frame;
              });
          still = still_pairs;
          totals = totals;
        }
