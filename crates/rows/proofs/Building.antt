-- The walks of `build_rows`, put together. Assumes nothing.
use mathlib.Core.Path.{◌≡◌, refl, sym, ap, ◌∙◌}
use mathlib.Core.Logic.{⊎_elim}
use mathlib.Core.Bool.{Bool, true, false}
use mathlib.Core.List.{List, ◌++◌}
use Prim.Native.Nat.{ℕ, ◌+◌, ◌*◌, ◌-◌, ◌≤◌, ◌<◌}
use native.Mathlib.Omega.{arith}
use lib.ListN.{length, get_or, length-append, get_or-append}
use lib.Seq.{ext_get_or, get_or-append-add}
use lib.Ieee.{Float}
use Rattle.regions.specs.Region.{Front, cleared}
use Rattle.regions.proofs.Cases.{below_or_not}
use Rattle.regions.proofs.Fronts.{cleared_at, cleared_front, front_then, front_wide}
use Rattle.rows.specs.Rows.{row_at, rows_front, BuildPre, Built}
use Rattle.rows.specs.Walks.{row_to, back, count_to, sum_to, cells, CountPre, Counted, SumPre, Summed, PlacePre, Placed}
use Rattle.rows.proofs.Sums.{sum_same, sum_more, sum_mono}
use Rattle.rows.proofs.Walks.{row_in}
use Rattle.rows.proofs.Counting.{back_le, count_total}
use Rattle.rows.proofs.Placing.{none, done}
use Rattle.rows.proofs.Neighbours.{rows_are}
use Rattle.rows.proofs.Reading.{row_length, row_entry}

module _ (n : ℕ) (directed : Bool) (fs ts : List ℕ) (xs : List Float) (w : List ℕ) (pre : BuildPre n fs ts xs w) where
  abbrev m : ℕ
  m = length fs

  -- the entries of v from edges that leave it, and from those that arrive
  abbrev out : ℕ → ℕ
  out v = length (row_to false fs ts v m)

  abbrev in' : ℕ → ℕ
  in' v = length (row_to true ts fs v (back directed m))

  abbrev start : ℕ → ℕ
  start v = sum_to (λ u. count_to directed fs ts u m) v

  start_more : (v : ℕ) → start (v + 1) ≡ start v + out v + in' v
  unfolding count_to
  start_more v = omega (arith, sum_more (λ u. count_to directed fs ts u m) v)

  start_mono : (v u : ℕ) → v ≤ u → start v ≤ start u
  start_mono v u l = sum_mono (λ u. count_to directed fs ts u m) v u l

  start_total : start n ≤ 2 * m
  start_total = count_total directed fs ts n m

  start_in : (v : ℕ) → v < n → start (v + 1) ≤ 2 * m
  start_in v l = omega (arith, start_mono (v + 1) n (omega arith), start_total)

  module _ (w1 : List ℕ) (e1 : w1 ≡ cleared 0 (n + 1) w) where
    front1 : Front w (n + 1) w1
    front1 = rw e1 (cleared_front (n + 1) w (omega (arith, pre.room)))

    pub count_pre : CountPre n fs ts w1
    count_pre =
        record {
          pair = pre.sound.sized.tos;
          few = pre.sound.limits.edges;
          room = omega (arith, pre.room, front1.long);
          froms = pre.sound.ends.froms;
          tos = pre.sound.ends.tos;
          clear = λ v l. rw e1 (cleared_at 0 0 (n + 1) w v (omega arith));
        }

    module _ (w2 : List ℕ) (s2 : Counted n directed fs ts w1 w2) where
      sums : (v : ℕ) → v ≤ n → sum_to (cells w2) v ≡ start v
      sums v l = sum_same (cells w2) (λ u. count_to directed fs ts u m) v (λ k q. s2.at k (omega arith))

      pub sum_pre : SumPre n w2
      sum_pre =
          record {
            room = omega (arith, pre.room, front1.long, s2.front.long);
            small = omega (arith, sums n (omega arith), start_total, pre.sound.limits.edges);
          }

      module _ (w3 : List ℕ) (s3 : Summed n w2 w3) where
        ends : (v : ℕ) → v < n → get_or w3 v 0 ≡ start (v + 1)
        ends v l = s3.at v l ∙ sums (v + 1) (omega arith)

        room3 : n + 1 + 2 * m ≤ length w3
        room3 = omega (arith, pre.room, front1.long, s2.front.long, s3.front.long)

        place_back : PlacePre n true ts fs (back directed m) (2 * m) w3
        place_back =
            record {
              walked = omega (arith, back_le directed m, pre.sound.sized.tos);
              pair = sym pre.sound.sized.tos;
              room = room3;
              ends = λ i l. pre.sound.ends.tos i (omega (arith, pre.sound.sized.tos));
              fits = λ v l. omega (arith, ends v l, start_more v);
              inside = λ v l. omega (arith, ends v l, start_in v l);
              apart = λ v u l q. omega (arith, ends v (omega arith), ends u q, start_more u, start_mono (v + 1) u (omega arith));
            }

        -- the walk over the to-ends, of an undirected graph
        pub place_pre : directed ≡ false → PlacePre n true ts fs (length ts) (2 * length ts) w3
        place_pre d = rw pre.sound.sized.tos (rw d at place_back)

        pub walked : directed ≡ false → {w4 : List ℕ} → Placed n true ts fs (length ts) (2 * length ts) w3 w4 → Placed n true ts fs (back directed m) (2 * m) w3 w4
        walked d s = rw d (rw pre.sound.sized.tos at s)

        pub unwalked : directed ≡ true → Placed n true ts fs (back directed m) (2 * m) w3 w3
        unwalked d = rw d (done n true ts fs 0 (2 * m) w3 0 w3 refl (none n true ts fs 0 (2 * m) w3))

        module _ (w4 : List ℕ) (s4 : Placed n true ts fs (back directed m) (2 * m) w3 w4) where
          mids : (v : ℕ) → v < n → get_or w4 v 0 ≡ start v + out v
          mids v l = omega (arith, s4.offs v l, ends v l, start_more v)

          pub place_pre_2 : PlacePre n false fs ts m (2 * m) w4
          place_pre_2 =
              record {
                walked = omega arith;
                pair = pre.sound.sized.tos;
                room = omega (arith, room3, s4.front.long);
                ends = pre.sound.ends.froms;
                fits = λ v l. omega (arith, mids v l);
                inside = λ v l. omega (arith, mids v l, start_more v, start_in v l);
                apart = λ v u l q. omega (arith, mids v (omega arith), mids u q, start_more v, start_mono (v + 1) u (omega arith));
              }

          module _ (w5 : List ℕ) (s5 : Placed n false fs ts m (2 * m) w4 w5) where
            starts : (v : ℕ) → v < n → get_or w5 v 0 ≡ start v
            starts v l = omega (arith, s5.offs v l, mids v l)

            -- the offset after the last row is the whole sum
            offs : (v : ℕ) → v ≤ n → get_or w5 v 0 ≡ start v
            offs v l =
                ⊎_elim
                (λ q. starts v q)
                (λ q. let e : v ≡ n = omega arith in rw e (s5.last ∙ s4.last ∙ s3.last ∙ sums n (omega arith)))
                (below_or_not v n)

            front : Front w (rows_front n m) w5
            front =
                front_then (front_wide (rows_front n m) (omega arith) front1)
                (front_then (front_wide (rows_front n m) (omega arith) s2.front)
                (front_then (front_wide (rows_front n m) (omega arith) s3.front)
                (front_then s4.front s5.front)))

            rises : (v : ℕ) → v < n → get_or w5 v 0 ≤ get_or w5 (v + 1) 0
            rises v l = omega (arith, offs v (omega arith), offs (v + 1) (omega arith), start_more v)

            inside : (v : ℕ) → v < n → n + 1 + get_or w5 (v + 1) 0 ≤ length w5
            inside v l = omega (arith, offs (v + 1) (omega arith), start_in v l, pre.room, front.long)

            abbrev outs : ℕ → List ℕ
            outs v = row_to false fs ts v m

            abbrev ins : ℕ → List ℕ
            ins v = row_to true ts fs v (back directed m)

            long : (v : ℕ) → v < n → length (row_at n w5 v) ≡ out v + in' v
            long v l = omega (arith, row_length n w5 v (rises v l) (inside v l), offs v (omega arith), offs (v + 1) (omega arith), start_more v)

            -- the entries of v's arriving edges are where the second walk writes nothing
            untouched : (v j : ℕ) → v < n → start v + out v ≤ j → j < start (v + 1) → get_or w5 (n + 1 + j) 0 ≡ get_or w4 (n + 1 + j) 0
            untouched v j l a b =
                s5.kept j
                (λ u q x y.
                ⊎_elim
                (λ z. omega (arith, mids u q, start_more u, start_mono (u + 1) v (omega arith)))
                (λ z. ⊎_elim
                (λ t. omega (arith, mids u q, start_mono (v + 1) u (omega arith)))
                (λ t. let e : u ≡ v = omega arith in omega (arith, mids u q, ap start e, ap out e))
                (below_or_not v u))
                (below_or_not u v))

            first : (v k : ℕ) → v < n → k < out v → get_or (row_at n w5 v) k 0 ≡ get_or (outs v) k 0
            first v k l q =
                row_entry n w5 v k (omega (arith, offs v (omega arith), offs (v + 1) (omega arith), start_more v))
                ∙ s5.rows v k l q

            second : (v k : ℕ) → v < n → k < in' v → get_or (row_at n w5 v) (out v + k) 0 ≡ get_or (ins v) k 0
            second v k l q =
                let e : n + 1 + (get_or w5 v 0 + (out v + k)) ≡ n + 1 + (get_or w4 v 0 + k) = omega (arith, starts v l, mids v l) in
                row_entry n w5 v (out v + k) (omega (arith, offs v (omega arith), offs (v + 1) (omega arith), start_more v))
                ∙ ap (λ (x : ℕ). get_or w5 x 0) e
                ∙ untouched v (get_or w4 v 0 + k) l (omega (arith, mids v l)) (omega (arith, mids v l, start_more v))
                ∙ s4.rows v k l q

            whole : (v : ℕ) → v < n → row_at n w5 v ≡ outs v ++ ins v
            whole v l =
                ext_get_or 0 (row_at n w5 v) (outs v ++ ins v) (long v l ∙ sym (length-append (outs v) (ins v)))
                (λ k q.
                ⊎_elim
                (λ a. first v k l a ∙ sym (get_or-append (outs v) (ins v) 0 k a))
                (λ a.
                let e : k ≡ out v + (k - out v) = omega arith in
                ap (λ (x : ℕ). get_or (row_at n w5 v) x 0) e
                ∙ second v (k - out v) l (omega (arith, long v l))
                ∙ sym (get_or-append-add (outs v) (ins v) (k - out v) 0)
                ∙ ap (λ (x : ℕ). get_or (outs v ++ ins v) x 0) (sym e))
                (below_or_not k (out v)))

            nodes : (v k : ℕ) → v < n → k < length (row_at n w5 v) → get_or (row_at n w5 v) k 0 < n
            nodes v k l q =
                ⊎_elim
                (λ a. rw (first v k l a) (row_in false fs ts v n m k (λ j p. pre.sound.ends.tos j p) a))
                (λ a.
                let b : k - out v < in' v = omega (arith, long v l) in
                let e : k ≡ out v + (k - out v) = omega arith in
                rw (ap (λ (x : ℕ). get_or (row_at n w5 v) x 0) e ∙ second v (k - out v) l b)
                (row_in true ts fs v n (back directed m) (k - out v) (λ j p. pre.sound.ends.froms j (omega (arith, back_le directed m))) b))
                (below_or_not k (out v))

            pub built : Built n directed fs ts xs w w5
            built =
                record {
                  front = front;
                  fit = record { rises = rises; inside = inside; nodes = nodes };
                  within = λ v l. omega (arith, offs (v + 1) (omega arith), start_in v l);
                  rows = λ v l. whole v l ∙ rows_are fs ts xs pre.sound.sized v directed;
                }
