-- The walks of `build_lists`, put together. Assumes nothing.
use mathlib.Core.Path.{◌≡◌, sym, ap, ◌∙◌}
use mathlib.Core.Logic.{⊎_elim}
use mathlib.Core.Bool.{Bool, true, false}
use mathlib.Core.List.{List, map}
use Prim.Native.Nat.{ℕ, ◌+◌, ◌*◌, ◌-◌, ◌≤◌, ◌<◌}
use native.Mathlib.Omega.{arith}
use lib.ListN.{length, get_or, length-append, length-map, get_or-map}
use lib.Seq.{ext_get_or}
use lib.Ieee.{Float}
use Rattle.regions.specs.Region.{Front, cleared, list_of}
use Rattle.regions.proofs.Cases.{below_or_not}
use Rattle.regions.proofs.Fronts.{cleared_front, front_then, front_wide, list_long}
use Rattle.regions.proofs.Parts.{list_at_lem}
use Rattle.graph.specs.Edges.{Edge, edges_of, weighted}
use Rattle.graph.specs.Layout.{entries_at, beside_at}
use Rattle.rows.specs.Rows.{BuildPre as RowsPre}
use Rattle.rows.specs.Walks.{row_to, back, count_to, sum_to, cells, CountPre, Counted, SumPre, Summed}
use Rattle.rows.proofs.Sums.{sum_same, sum_more, sum_mono}
use Rattle.rows.proofs.Counting.{count_total}
use Rattle.rows.proofs.Neighbours.{rows_are}
use Rattle.rows.proofs.Building as rows
use Rattle.lists.specs.Lists.{place, place_of, place_at, long_at, list_at, lists_front, BuildPre, Built}
use Rattle.lists.specs.Walks.{start_of, no_entry, PlacePre, Placed}
use Rattle.lists.proofs.Entries.{weighted_long, Good}
use Rattle.lists.proofs.Shares.{entries_good}

module _ (n : ℕ) (directed : Bool) (fs ts : List ℕ) (xs : List Float) (w : List ℕ) (pre : BuildPre n fs ts xs w) where
  abbrev m : ℕ
  m = length fs

  abbrev E : List Edge
  E = edges_of fs ts xs

  abbrev long : ℕ → ℕ
  long v = length (weighted directed E v)

  abbrev start : ℕ → ℕ
  start v = start_of directed E v

  counts : (v : ℕ) → count_to directed fs ts v m ≡ long v
  unfolding count_to
  counts v =
      sym (length-append (row_to false fs ts v m) (row_to true ts fs v (back directed m)))
      ∙ ap length (rows_are fs ts xs pre.sound.sized v directed)
      ∙ weighted_long directed E v

  start_more : (v : ℕ) → start (v + 1) ≡ start v + long v
  start_more v = sum_more long v

  start_total : start n ≤ 2 * m
  start_total = omega (arith, sum_same (λ u. count_to directed fs ts u m) long n (λ k q. counts k), count_total directed fs ts n m)

  rows_pre : RowsPre n fs ts xs w
  rows_pre = record { sound = pre.sound; room = omega (arith, pre.room) }

  module _ (w1 : List ℕ) (e1 : w1 ≡ cleared 0 (n + 1) w) where
    front1 : Front w (n + 1) w1
    front1 = rw e1 (cleared_front (n + 1) w (omega (arith, pre.room)))

    pub count_pre : CountPre n fs ts w1
    count_pre = rows.count_pre n directed fs ts xs w rows_pre w1 e1

    module _ (w2 : List ℕ) (s2 : Counted n directed fs ts w1 w2) where
      pub sum_pre : SumPre n w2
      sum_pre = rows.sum_pre n directed fs ts xs w rows_pre w1 e1 w2 s2

      sums : (v : ℕ) → v ≤ n → sum_to (cells w2) v ≡ start v
      sums v l = sum_same (cells w2) long v (λ k q. s2.at k (omega arith) ∙ counts k)

      module _ (w3 : List ℕ) (s3 : Summed n w2 w3) where
        pub place_pre : PlacePre n directed fs ts xs w3
        place_pre =
            record {
              sound = pre.sound;
              room = omega (arith, pre.room, front1.long, s2.front.long, s3.front.long);
              ends = λ v l. s3.at v l ∙ sums (v + 1) (omega arith);
              total = start_total;
            }

        module _ (w4 : List ℕ) (s4 : Placed n directed fs ts xs w3 w4) where
          front : Front w (lists_front n m) w4
          front =
              front_then (front_wide (lists_front n m) (omega arith) front1)
              (front_then (front_wide (lists_front n m) (omega arith) s2.front)
              (front_then (front_wide (lists_front n m) (omega arith) s3.front)
              s4.front))

          -- the offset after the last list is the whole sum
          offs : (v : ℕ) → v ≤ n → get_or w4 v 0 ≡ start v
          offs v l =
              ⊎_elim
              (λ q. s4.starts v q)
              (λ q. let e : v ≡ n = omega arith in rw e (s4.last ∙ s3.last ∙ sums n (omega arith)))
              (below_or_not v n)

          here : (v : ℕ) → v < n → (get_or w4 v 0 ≡ start v) × (get_or w4 (v + 1) 0 ≡ start v + long v) × (start v + long v ≤ 2 * m)
          here v l =
              (offs v (omega arith), offs (v + 1) (omega arith) ∙ start_more v, omega (arith, start_more v, sum_mono long (v + 1) n (omega arith), start_total))

          good : (v k : ℕ) → k < long v → Good n m xs (get_or (weighted directed E v) k no_entry)
          good v k l = entries_good n directed fs ts xs pre.sound v k l

          -- the jth place, of the list of v
          target_at : (v j : ℕ) → v < n → get_or w4 v 0 ≤ j → j < get_or w4 (v + 1) 0 → get_or w4 (entries_at n + j) 0 < n
          target_at v j l a b =
              let e : j ≡ start v + (j - start v) = omega (arith, here v l) in
              let q : j - start v < long v = omega (arith, here v l) in
              rw (ap (λ (x : ℕ). get_or w4 (entries_at n + x) 0) e ∙ s4.targets v (j - start v) l q) (good v (j - start v) q).target

          position_at : (v j : ℕ) → v < n → get_or w4 v 0 ≤ j → j < get_or w4 (v + 1) 0 → get_or w4 (beside_at n m + j) 0 < m
          position_at v j l a b =
              let e : j ≡ start v + (j - start v) = omega (arith, here v l) in
              let q : j - start v < long v = omega (arith, here v l) in
              rw (ap (λ (x : ℕ). get_or w4 (beside_at n m + x) 0) e ∙ s4.positions v (j - start v) l q) (good v (j - start v) q).at

          lists : (v : ℕ) → v < n → list_at n m w4 v ≡ map place_of (weighted directed E v)
          unfolding list_at
          lists v l =
              let size : long_at w4 v ≡ long v = omega (arith, here v l) in
              let long1 : length (list_of (λ k. place_at n m w4 (get_or w4 v 0 + k)) (long_at w4 v)) ≡ long v = list_long (λ k. place_at n m w4 (get_or w4 v 0 + k)) (long_at w4 v) ∙ size in
              ext_get_or (place_of no_entry) (list_of (λ k. place_at n m w4 (get_or w4 v 0 + k)) (long_at w4 v)) (map place_of (weighted directed E v))
              (long1 ∙ sym (length-map (weighted directed E v) place_of))
              (λ k q.
              let r : k < long v = omega (arith, long1) in
              list_at_lem (λ i. place_at n m w4 (get_or w4 v 0 + i)) (long_at w4 v) (place_of no_entry) k (omega (arith, long1, size))
              ∙ ap (λ (a : ℕ). place_at n m w4 (a + k)) (here v l).0
              ∙ both (s4.targets v k l r) (s4.positions v k l r)
              ∙ sym (get_or-map place_of (weighted directed E v) k no_entry))
            where
              both : {a b c d : ℕ} → a ≡ b → c ≡ d → place a c ≡ place b d
              both p q = cc

          pub built : Built n directed fs ts xs w w4
          built =
              record {
                front = front;
                fit = record {
                  room = omega (arith, pre.room, front.long);
                  rises = λ v l. omega (arith, here v l);
                  inside = λ v l. omega (arith, here v l);
                  nodes = target_at;
                  edges = position_at;
                };
                lists = lists;
              }
