-- The visits one after the other, with the pairs of the predecessor entries. Assumes nothing.
use mathlib.Core.Path.{◌≡◌, refl, sym, ap, ◌∙◌}
use mathlib.Core.Bool.{Bool}
use mathlib.Core.List.{List}
use Prim.Native.Nat.{ℕ, ◌+◌, ◌≤◌, ◌<◌}
use native.Mathlib.Omega.{arith}
use lib.ListN.{length, get_or, take}
use lib.Seq.{take_all}
use Rattle.std.specs.Prelude.{Ok}
use Rattle.regions.specs.Region.{list_of}
use Rattle.regions.proofs.Fronts.{list_long}
use Rattle.graph.specs.Edges.{Edge, Graph, entries}
use Rattle.hops.specs.Hops.{dist}
use Rattle.hops.specs.Search.{cells, graph_of, Space, Fresh, Begun}
use Rattle.hops.proofs.Search as search
use Rattle.predecessors.specs.Order.{entered, predecessors}
use Rattle.predecessors.specs.Tracks.{Slots, NoEntries}
use Rattle.predecessors.proofs.Predecessors.{so_none}
use Rattle.predecessors.proofs.Tours.{begun_stays, track_first, lists_more, track_next, track_finish}
use Rattle.pairs.specs.Numbers.{Numbered}
use Rattle.pair_search.specs.declared.PairTracks.{PairTracks}
use Rattle.pair_search.specs.Pairs.{Paired, HeldPairs, entered_so_far, TrackedPairs, VisitPairsPost}
use Rattle.pair_search.proofs.Pairing.{paired_after, numbered_after, pairs_same}

-- ---- from node to node

module _ {g : Graph} {number : ℕ → ℕ → ℕ} {pt : PairTracks} {s : ℕ} {w c : List ℕ} {head tail u : ℕ}
    (R : TrackedPairs g number pt s w c head tail u (length (entries g u))) where
  -- the entries of the nodes done, and of u
  abbrev done : ℕ → List ℕ
  done = λ x. entered g (dist g s) x (take (head + 1) (list_of (cells w pt.tracks.places.queue) tail))

  held_done : HeldPairs g.nodes pt number w done
  held_done = pairs_same pt number w (entered_so_far g s w pt.tracks.places.queue head tail u (length (entries g u))) done R.held (λ x h. lists_more R.tracked x)

  pub next_pairs : head + 1 < tail → TrackedPairs g number pt s w c (head + 1) tail (get_or w (pt.tracks.places.queue + (head + 1)) 0) 0
  next_pairs l =
      record {
        tracked = track_next R.tracked l;
        paired = R.paired;
        numbered = R.numbered;
        held =
            pairs_same pt number w done (entered_so_far g s w pt.tracks.places.queue (head + 1) tail (get_or w (pt.tracks.places.queue + (head + 1)) 0) 0) held_done
            (λ x h. so_none g (dist g s) (take (head + 1) (list_of (cells w pt.tracks.places.queue) tail)) (get_or w (pt.tracks.places.queue + (head + 1)) 0) (take 0 (entries g (get_or w (pt.tracks.places.queue + (head + 1)) 0))) x refl);
      }

  pub last_pairs : tail ≤ head + 1 → HeldPairs g.nodes pt number w (predecessors g s)
  last_pairs l =
      let all : take (head + 1) (list_of (cells w pt.tracks.places.queue) tail) ≡ list_of (cells w pt.tracks.places.queue) tail = take_all (head + 1) (list_of (cells w pt.tracks.places.queue) tail) (omega (arith, list_long (cells w pt.tracks.places.queue) tail)) in
      pairs_same pt number w done (predecessors g s) held_done (λ x h. ap (entered g (dist g s) x) (sym (all ∙ (track_finish R.tracked l).order)))

-- ---- the beginning

module _ {g : Graph} {pt : PairTracks} {s : ℕ} {w c w' c' : List ℕ} (H : Space g s w c pt.tracks.places.distances pt.tracks.places.queue) (S : Slots g pt.tracks w) (F : Fresh g.nodes w c pt.tracks.places.distances) (E : NoEntries g.nodes pt.tracks w) (some : 1 ≤ pt.tracks.places.limit)
    (B : Begun s pt.tracks.places.distances pt.tracks.places.queue w c w' c') (P : Paired g.nodes pt w) where
  pub begun_paired : Paired g.nodes pt w'
  begun_paired = paired_after (search.front H) (omega (arith, S.firsts)) (begun_stays H S F E some B) P

  -- no entry, and so no pair
  pub first_pairs : (number : ℕ → ℕ → ℕ) → Numbered g number w pt.table.beside → TrackedPairs g number pt s w' c' 0 1 (get_or w' (pt.tracks.places.queue + 0) 0) 0
  unfolding entered
  first_pairs number N =
      let T = track_first H S F E some B in
      record {
        tracked = T;
        paired = begun_paired;
        numbered = numbered_after number (search.front H) H.rows (begun_stays H S F E some B) P N;
        held = λ x k h l. absurd (none x k h l);
      }
    where
      none : (x k : ℕ) → x < g.nodes → k < length (entered_so_far g s w' pt.tracks.places.queue 0 1 (get_or w' (pt.tracks.places.queue + 0) 0) 0 x) → ⊥
      none x k h l = omega (arith, ap length (so_none g (dist g s) (take 0 (list_of (cells w' pt.tracks.places.queue) 1)) (get_or w' (pt.tracks.places.queue + 0) 0) (take 0 (entries g (get_or w' (pt.tracks.places.queue + 0) 0))) x refl))

-- ---- the visits

-- The search is to visit the node at place `head` of its queue, or it is over; the pairs of the entries so far are held.
pub record RunPairs (g : Graph) (number : ℕ → ℕ → ℕ) (pt : PairTracks) (s : ℕ) (w c : List ℕ) (head tail : ℕ) : Type 0 where
  pub going : head < tail → TrackedPairs g number pt s w c head tail (get_or w (pt.tracks.places.queue + head) 0) 0
  pub over : tail ≤ head → HeldPairs g.nodes pt number w (predecessors g s)

pub run_pairs_step : {pt : PairTracks} (directed : Bool) (es : List Edge) (number : ℕ → ℕ → ℕ) (s : ℕ) {w c w' c' : List ℕ} {head tail end : ℕ} → RunPairs (graph_of pt.tracks.places.nodes directed es) number pt s w c head tail → head < tail
    → VisitPairsPost pt head tail w c w' c' (Ok end) → RunPairs (graph_of pt.tracks.places.nodes directed es) number pt s w' c' (head + 1) end
run_pairs_step directed es number s R l P = let here = P.held directed es number s (R.going l) in record { going = λ q. next_pairs here q; over = λ q. last_pairs here q }
