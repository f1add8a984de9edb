-- A visit's walk over the entries of its node, with the pair of each that is entered. Assumes nothing.
use mathlib.Core.Path.{◌≡◌, refl, sym, ap, ap₂, ◌∙◌, subst}
use mathlib.Core.Logic.{◌≢◌, ◌⊎◌, inl, inr}
use mathlib.Core.List.{List, [], ◌∷◌, ◌++◌}
use Prim.Native.Nat.{ℕ, zero, suc, ◌+◌, ◌-◌, ◌≤◌, ◌<◌}
use native.Mathlib.Omega.{arith}
use lib.ListN.{length, get_or, set, take}
use lib.Seq.{take-nil, take_all, take-append-le}
use Rattle.std.specs.Prelude.{Result, Ok, Err}
use Rattle.regions.specs.Region.{list_of}
use Rattle.regions.proofs.Fronts.{hit, miss, list_same, list_long}
use Rattle.graph.specs.Edges.{Graph, entries}
use Rattle.hops.specs.declared.Step.{Step}
use Rattle.hops.specs.declared.Step.TheVariants.{First, Again, Other}
use Rattle.hops.specs.declared.TooManyPaths.{TooManyPaths}
use Rattle.hops.specs.Hops.{dist}
use Rattle.hops.specs.Search.{cells, TooMany, grown}
use Rattle.hops.proofs.Sums.{eq_or_ne}
use Rattle.hops.proofs.Search as search
use Rattle.predecessors.specs.Tracks.{so_far, Tracked, Stays, EnterPost}
use Rattle.predecessors.proofs.Predecessors.{so_hit, so_miss, so_far_lem}
use Rattle.predecessors.proofs.Tracking.{near_dist, other_dist, end_inside, seen_one, most_now, free_slot}
use Rattle.predecessors.proofs.Tours.{Tour, tour_none, u_lt, rows_in, row_end, more, in_rows, entry_is, tour_pre, tour_stays, tour_step, tour_paths, tour_done}
use Rattle.pairs.specs.Numbers.{Numbered}
use Rattle.pair_search.specs.declared.PairTracks.{PairTracks}
use Rattle.pair_search.specs.Pairs.{Paired, HeldPairs, entered_so_far, TrackedPairs, EnterPairPre, EnterPairPost}
use Rattle.pair_search.proofs.Entering.{enter_long, enter_same}
use Rattle.pair_search.proofs.Gap.{gap_stays, gap_tour}
use Rattle.pair_search.proofs.Pairing.{paired_after, numbered_after, pairs_same, pairs_after, pairs_push}

-- the front of a list of values
take_list : (f : ℕ → ℕ) (h n : ℕ) → h ≤ n → take h (list_of f n) ≡ list_of f h
unfolding list_of
take_list f h zero l = let e : 0 ≡ h = omega arith in take-nil h ∙ ap (list_of f) e
take_list f h (suc n) l = go (eq_or_ne h (suc n)) (take_list f h n)
  where
    go : (h ≡ suc n) ⊎ (h ≢ suc n) → (h ≤ n → take h (list_of f n) ≡ list_of f h) → take h (list_of f (suc n)) ≡ list_of f h
    go (inl e) ih = take_all h (list_of f (suc n)) (omega (arith, list_long f (suc n))) ∙ ap (list_of f) (sym e)
    go (inr k) ih = take-append-le h (list_of f n) (f n ∷ []) (omega (arith, k, list_long f n)) ∙ ih (omega (arith, k))

-- The walk stands at place p of the row entries. Whatever the numbers are, the pairs of the entries so far are held if they were where it began.
pub record TourPairs (g : Graph) (pt : PairTracks) (s head tail₀ : ℕ) (w₀ c₀ : List ℕ) (u further ways : ℕ) (w c : List ℕ) (p place : ℕ) : Type 0 where
  pub tour : Tour g pt.tracks s head w₀ c₀ u further ways w c (g.nodes + 1 + p) place
  pub held : (number : ℕ → ℕ → ℕ) → Numbered g number w₀ pt.table.beside → HeldPairs g.nodes pt number w₀ (entered_so_far g s w₀ pt.tracks.places.queue head tail₀ u 0)
      → HeldPairs g.nodes pt number w (entered_so_far g s w pt.tracks.places.queue head (place - pt.tracks.places.queue) u (p - get_or w u 0))

pub pairs_none : {g : Graph} (pt : PairTracks) {s head tail u : ℕ} {w c : List ℕ} → Tracked g pt.tracks s w c head tail u 0
    → TourPairs g pt s head tail w c u (get_or w (pt.tracks.places.distances + u) 0 + 1) (get_or c u 0) w c (get_or w u 0) (pt.tracks.places.queue + tail)
pairs_none {g} pt {s} {head} {tail} {u} {w} T =
    let t : pt.tracks.places.queue + tail - pt.tracks.places.queue ≡ tail = omega arith in
    let z : get_or w u 0 - get_or w u 0 ≡ 0 = omega arith in
    record {
      tour = tour_none T;
      held = λ number N H.
          pairs_same pt number w (entered_so_far g s w pt.tracks.places.queue head tail u 0) (entered_so_far g s w pt.tracks.places.queue head (pt.tracks.places.queue + tail - pt.tracks.places.queue) u (get_or w u 0 - get_or w u 0)) H
          (λ y h. ap₂ (λ (a b : ℕ). entered_so_far g s w pt.tracks.places.queue head a u b y) t z);
    }

module _ {g : Graph} {pt : PairTracks} {s head tail₀ : ℕ} {w₀ c₀ : List ℕ} {u further ways : ℕ} {w c : List ℕ} {p place : ℕ}
    (N : TourPairs g pt s head tail₀ w₀ c₀ u further ways w c p place) (P₀ : Paired g.nodes pt w₀) where
  -- where the walk stands
  pub pairs_paired : Paired g.nodes pt w
  pairs_paired = paired_after (rows_in N.tour) (omega (arith, N.tour.tracked.slots.firsts)) N.tour.stays P₀

  -- the entries so far
  abbrev now : ℕ → List ℕ
  now = so_far g (dist g s) (take head (list_of (cells w pt.tracks.places.queue) N.tour.tail)) u (take N.tour.j (entries g u))

  held_now : (number : ℕ → ℕ → ℕ) → Numbered g number w₀ pt.table.beside → HeldPairs g.nodes pt number w₀ (entered_so_far g s w₀ pt.tracks.places.queue head tail₀ u 0) → HeldPairs g.nodes pt number w now
  held_now number I H =
      let t : N.tour.tail ≡ place - pt.tracks.places.queue = omega (arith, N.tour.free) in
      let k : N.tour.j ≡ p - get_or w u 0 = omega (arith, N.tour.at) in
      pairs_same pt number w (entered_so_far g s w pt.tracks.places.queue head (place - pt.tracks.places.queue) u (p - get_or w u 0)) now (N.held number I H) (λ y h. ap₂ (λ (a b : ℕ). entered_so_far g s w pt.tracks.places.queue head a u b y) t k)

  -- before the row's end there is an entry
  module _ (before : p < get_or w₀ (u + 1) 0) where
    within : g.nodes + 1 + p < g.nodes + 1 + get_or w₀ (u + 1) 0
    within = omega arith

    has_more : N.tour.j < length (entries g u)
    has_more = more N.tour within

    is : get_or w (g.nodes + 1 + p) 0 ≡ get_or (entries g u) N.tour.j 0
    is = entry_is N.tour within

    x_node : get_or w (g.nodes + 1 + p) 0 < g.nodes
    x_node = search.entry_node N.tour.tracked.search has_more is N.tour.far N.tour.has N.tour.free

    -- the pair of an entry that is entered has its place, before the entries
    pair_inside : dist g s u + 1 ≡ dist g s (get_or w (g.nodes + 1 + p) 0) → pt.pairs + get_or w (pt.tracks.last + get_or w (g.nodes + 1 + p) 0) 0 < pt.tracks.base
    pair_inside e = omega (arith, pairs_paired.ends, end_inside N.tour.tracked has_more is N.tour.far N.tour.has N.tour.free e)

    pub pairs_pre : EnterPairPre pt (get_or w (g.nodes + 1 + p) 0) further ways place w c
    pairs_pre =
        record {
          enter = tour_pre N.tour within;
          end = omega (arith, x_node, N.tour.tracked.slots.lasts, N.tour.tracked.slots.inside);
          first_slot = λ e. omega (arith, pair_inside (near_dist N.tour.tracked has_more is N.tour.far N.tour.has N.tour.free (inl e)), N.tour.tracked.slots.inside);
          again_slot = λ e. omega (arith, pair_inside (near_dist N.tour.tracked has_more is N.tour.far N.tour.has N.tour.free (inr e)), N.tour.tracked.slots.inside);
        }

    -- beside the entry stands the number of its pair
    pair_is : (number : ℕ → ℕ → ℕ) → Numbered g number w₀ pt.table.beside → get_or w (pt.table.beside + p) 0 ≡ number u (get_or w (g.nodes + 1 + p) 0)
    pair_is number I =
        let k : p ≡ get_or w₀ u 0 + N.tour.j = omega (arith, N.tour.at, N.tour.stays.rows u (omega (arith, rows_in N.tour, u_lt N.tour))) in
        N.tour.stays.rows (pt.table.beside + p) (omega (arith, P₀.before u (u_lt N.tour)))
        ∙ ap (λ (i : ℕ). get_or w₀ (pt.table.beside + i) 0) k
        ∙ I u N.tour.j (u_lt N.tour) has_more
        ∙ ap (number u) (sym is)

    pub pairs_in_rows : g.nodes + 1 + p < length w
    pairs_in_rows = in_rows N.tour within

    pub pairs_row_in : pt.table.beside + p < length w
    pairs_row_in = omega (arith, P₀.before u (u_lt N.tour), N.tour.tracked.search.space.apart, N.tour.tracked.search.space.room)

    -- the entries after this one
    abbrev next : ℕ → List ℕ
    next = so_far g (dist g s) (take head (list_of (cells w pt.tracks.places.queue) N.tour.tail)) u (take N.tour.j (entries g u) ++ (get_or w (g.nodes + 1 + p) 0 ∷ []))

    lists_next : (w' : List ℕ) (k : ℕ) → ((i : ℕ) → i < head → get_or w' (pt.tracks.places.queue + i) 0 ≡ get_or w (pt.tracks.places.queue + i) 0) → get_or w' u 0 ≡ get_or w u 0 → (y : ℕ) → entered_so_far g s w' pt.tracks.places.queue head (place + k - pt.tracks.places.queue) u (p + 1 - get_or w' u 0) y ≡ next y
    lists_next w' k queue row y =
        let b = search.before_tail N.tour.tracked.search in
        let done : take head (list_of (cells w' pt.tracks.places.queue) (place + k - pt.tracks.places.queue)) ≡ take head (list_of (cells w pt.tracks.places.queue) N.tour.tail) =
        take_list (cells w' pt.tracks.places.queue) head (place + k - pt.tracks.places.queue) (omega (arith, b, N.tour.free)) ∙ list_same (cells w' pt.tracks.places.queue) (cells w pt.tracks.places.queue) head queue ∙ sym (take_list (cells w pt.tracks.places.queue) head N.tour.tail (omega (arith, b)))
        in
        let j : p + 1 - get_or w' u 0 ≡ N.tour.j + 1 = omega (arith, row, N.tour.at) in
        let seen : take (p + 1 - get_or w' u 0) (entries g u) ≡ take N.tour.j (entries g u) ++ (get_or w (g.nodes + 1 + p) 0 ∷ []) =
        ap (λ (i : ℕ). take i (entries g u)) j ∙ seen_one N.tour.tracked has_more is N.tour.far N.tour.has N.tour.free
        in
        ap₂ (λ (a b : List ℕ). so_far g (dist g s) a u b y) done seen

    module _ (w1 c' : List ℕ) (r : Step) (E : EnterPost pt.tracks u (get_or w (g.nodes + 1 + p) 0) further ways place w c w1 c' (Ok r)) where
      -- what the entry leaves as it was: the offsets, the queue up to the node, its row, the pairs
      same_at : (i : ℕ) → i ≢ pt.tracks.places.distances + get_or w (g.nodes + 1 + p) 0 → (N.tour.tail < g.nodes → i ≢ place) → i ≢ pt.tracks.last + get_or w (g.nodes + 1 + p) 0 → i < pt.tracks.base → get_or w1 i 0 ≡ get_or w i 0
      same_at i a b e l = enter_same (Ok r) E i a (λ q. b (search.place_in N.tour.tracked.search has_more is N.tour.far N.tour.has N.tour.free q)) e l

      offset_same : (y : ℕ) → y < g.nodes → get_or w1 (pt.tracks.first + y) 0 ≡ get_or w (pt.tracks.first + y) 0
      offset_same y h =
          let A = N.tour.tracked.search.space.apart in
          let S = N.tour.tracked.slots in
          same_at (pt.tracks.first + y) (λ e. omega (arith, x_node, A, S.queue)) (λ t e. omega (arith, N.tour.free, S.queue)) (λ e. omega (arith, S.firsts)) (omega (arith, S.firsts, S.lasts))

      queue_kept : (i : ℕ) → i < head → get_or w1 (pt.tracks.places.queue + i) 0 ≡ get_or w (pt.tracks.places.queue + i) 0
      queue_kept i l =
          let A = N.tour.tracked.search.space.apart in
          let S = N.tour.tracked.slots in
          let b = search.before_tail N.tour.tracked.search in
          let m = search.tail_most N.tour.tracked.search in
          same_at (pt.tracks.places.queue + i) (λ e. omega (arith, x_node, A)) (λ t e. omega (arith, N.tour.free, b)) (λ e. omega (arith, b, m, S.queue, S.firsts)) (omega (arith, b, m, S.queue, S.firsts, S.lasts))

      row_same : get_or w1 u 0 ≡ get_or w u 0
      row_same =
          let A = N.tour.tracked.search.space.apart in
          let S = N.tour.tracked.slots in
          let h : u < pt.tracks.places.distances = omega (arith, rows_in N.tour, u_lt N.tour) in
          same_at u (λ e. omega (arith, h)) (λ t e. omega (arith, h, A, N.tour.free)) (λ e. omega (arith, h, A, S.queue, S.firsts)) (omega (arith, h, A, S.queue, S.firsts, S.lasts))

      gap_same : (i : ℕ) → i < get_or w (pt.tracks.first + g.nodes) 0 → get_or w1 (pt.pairs + i) 0 ≡ get_or w (pt.pairs + i) 0
      gap_same i l =
          let A = N.tour.tracked.search.space.apart in
          let S = N.tour.tracked.slots in
          let P = pairs_paired in
          same_at (pt.pairs + i) (λ e. omega (arith, x_node, A, S.queue, S.firsts, P.lasts)) (λ t e. omega (arith, N.tour.free, S.queue, S.firsts, P.lasts)) (λ e. omega (arith, x_node, P.lasts)) (omega (arith, P.ends))

      module _ (k : ℕ) (ek : k ≡ grown r) where
        tour_next : Tour g pt.tracks s head w₀ c₀ u further ways w1 c' (g.nodes + 1 + (p + 1)) (place + k)
        tour_next =
            let e : g.nodes + 1 + p + 1 ≡ g.nodes + 1 + (p + 1) = omega arith in
            subst (λ (q : ℕ). Tour g pt.tracks s head w₀ c₀ u further ways w1 c' q (place + k)) e (tour_step N.tour within w1 c' r E k ek)

        -- the entry is not one hop further: no pair changes
        pass_pairs : dist g s u + 1 ≢ dist g s (get_or w (g.nodes + 1 + p) 0) → TourPairs g pt s head tail₀ w₀ c₀ u further ways w1 c' (p + 1) (place + k)
        pass_pairs n =
            record {
              tour = tour_next;
              held = λ number I H.
                  pairs_same pt number w1 now (entered_so_far g s w1 pt.tracks.places.queue head (place + k - pt.tracks.places.queue) u (p + 1 - get_or w1 u 0))
                  (pairs_after pt N.tour.tracked.slots N.tour.tracked.holding (λ y h. most_now N.tour.tracked has_more is N.tour.far N.tour.has N.tour.free y) number (held_now number I H) w1 offset_same gap_same)
                  (λ y h.
                  lists_next w1 k queue_kept row_same y
                  ∙ so_far_lem g (dist g s) (take head (list_of (cells w pt.tracks.places.queue) N.tour.tail)) u (take N.tour.j (entries g u)) (get_or w (g.nodes + 1 + p) 0) n y);
            }

        -- the entry is one hop further: its pair stands beside it
        push_pairs : dist g s u + 1 ≡ dist g s (get_or w (g.nodes + 1 + p) 0)
            → TourPairs g pt s head tail₀ w₀ c₀ u further ways (set w1 (pt.pairs + get_or w (pt.tracks.last + get_or w (g.nodes + 1 + p) 0) 0) (get_or w (pt.table.beside + p) 0)) c' (p + 1) (place + k)
        push_pairs e =
            let S = N.tour.tracked.slots in
            let at : ℕ = pt.pairs + get_or w (pt.tracks.last + get_or w (g.nodes + 1 + p) 0) 0 in
            let pair : ℕ = get_or w (pt.table.beside + p) 0 in
            let above : pt.tracks.last + g.nodes ≤ at = omega (arith, pairs_paired.lasts) in
            let below : at < pt.tracks.base = pair_inside e in
            let b = search.before_tail N.tour.tracked.search in
            let m = search.tail_most N.tour.tracked.search in
            record {
              tour = gap_tour at pair above below tour_next;
              held = λ number I H.
                  pairs_same pt number (set w1 at pair) next (entered_so_far g s (set w1 at pair) pt.tracks.places.queue head (place + k - pt.tracks.places.queue) u (p + 1 - get_or (set w1 at pair) u 0))
                  (pairs_push pt S N.tour.tracked.holding (λ y h. most_now N.tour.tracked has_more is N.tour.far N.tour.has N.tour.free y) number (held_now number I H) (set w1 at pair)
                  (λ y h. miss w1 at pair (pt.tracks.first + y) (λ q. omega (arith, S.firsts)) ∙ offset_same y h)
                  {lists' = next} u (get_or w (g.nodes + 1 + p) 0) x_node (free_slot N.tour.tracked has_more is N.tour.far N.tour.has N.tour.free e)
                  (so_hit g (dist g s) (take head (list_of (cells w pt.tracks.places.queue) N.tour.tail)) u (take N.tour.j (entries g u)) (get_or w (g.nodes + 1 + p) 0) e)
                  (λ y h n. so_miss g (dist g s) (take head (list_of (cells w pt.tracks.places.queue) N.tour.tail)) u (take N.tour.j (entries g u)) (get_or w (g.nodes + 1 + p) 0) y (λ q. n (sym q)))
                  (hit w1 at pair at refl (omega (arith, enter_long (Ok r) E, S.inside)) ∙ pair_is number I)
                  (λ i l n. miss w1 at pair (pt.pairs + i) (λ q. n (omega arith)) ∙ gap_same i l))
                  (λ y h.
                  lists_next (set w1 at pair) k (λ i l. miss w1 at pair (pt.tracks.places.queue + i) (λ q. omega (arith, b, m, S.queue, S.firsts)) ∙ queue_kept i l)
                  (miss w1 at pair u (λ q. omega (arith, u_lt N.tour, S.queue, S.firsts)) ∙ row_same) y);
            }

    -- one entry more
    module _ (w' c' : List ℕ) where
      pub pairs_step : (r : Step) → EnterPairPost pt u (get_or w (g.nodes + 1 + p) 0) (get_or w (pt.table.beside + p) 0) further ways place w c w' c' (Ok r) → (k : ℕ) → k ≡ grown r
          → TourPairs g pt s head tail₀ w₀ c₀ u further ways w' c' (p + 1) (place + k)
      pairs_step First E k ek =
          subst (λ (l : List ℕ). TourPairs g pt s head tail₀ w₀ c₀ u further ways l c' (p + 1) (place + k)) (sym E.stored)
          (push_pairs E.between c' First E.entered k ek (near_dist N.tour.tracked has_more is N.tour.far N.tour.has N.tour.free (inl E.entered.touched.was)))
      pairs_step Again E k ek =
          subst (λ (l : List ℕ). TourPairs g pt s head tail₀ w₀ c₀ u further ways l c' (p + 1) (place + k)) (sym E.stored)
          (push_pairs E.between c' Again E.entered k ek (near_dist N.tour.tracked has_more is N.tour.far N.tour.has N.tour.free (inr E.entered.touched.was)))
      pairs_step Other E k ek =
          subst (λ (l : List ℕ). TourPairs g pt s head tail₀ w₀ c₀ u further ways l c' (p + 1) (place + k)) (sym E.stored)
          (pass_pairs E.between c' Other E.entered k ek (other_dist N.tour.tracked has_more is N.tour.far N.tour.has N.tour.free E.entered.touched.known E.entered.touched.other))

      -- the pair's place lies where nothing need stay
      pushed_stays : (r : Step) (w1 : List ℕ) → EnterPost pt.tracks u (get_or w (g.nodes + 1 + p) 0) further ways place w c w1 c' (Ok r) → dist g s u + 1 ≡ dist g s (get_or w (g.nodes + 1 + p) 0)
          → Stays g.nodes pt.tracks w₀ c₀ (set w1 (pt.pairs + get_or w (pt.tracks.last + get_or w (g.nodes + 1 + p) 0) 0) (get_or w (pt.table.beside + p) 0)) c'
      pushed_stays r w1 E e =
          gap_stays (pt.pairs + get_or w (pt.tracks.last + get_or w (g.nodes + 1 + p) 0) 0) (get_or w (pt.table.beside + p) 0) (omega (arith, pairs_paired.lasts)) (pair_inside e)
          (omega (arith, N.tour.tracked.search.space.apart, N.tour.tracked.slots.queue, N.tour.tracked.slots.firsts)) (tour_stays N.tour within w1 c' (Ok r) E)

      pub pairs_stays : (r : Result Step TooManyPaths) → EnterPairPost pt u (get_or w (g.nodes + 1 + p) 0) (get_or w (pt.table.beside + p) 0) further ways place w c w' c' r → Stays g.nodes pt.tracks w₀ c₀ w' c'
      pairs_stays (Ok First) E =
          subst (λ (l : List ℕ). Stays g.nodes pt.tracks w₀ c₀ l c') (sym E.stored)
          (pushed_stays First E.between E.entered (near_dist N.tour.tracked has_more is N.tour.far N.tour.has N.tour.free (inl E.entered.touched.was)))
      pairs_stays (Ok Again) E =
          subst (λ (l : List ℕ). Stays g.nodes pt.tracks w₀ c₀ l c') (sym E.stored)
          (pushed_stays Again E.between E.entered (near_dist N.tour.tracked has_more is N.tour.far N.tour.has N.tour.free (inr E.entered.touched.was)))
      pairs_stays (Ok Other) E = subst (λ (l : List ℕ). Stays g.nodes pt.tracks w₀ c₀ l c') (sym E.stored) (tour_stays N.tour within E.between c' (Ok Other) E.entered)
      pairs_stays (Err e) E = subst (λ (l : List ℕ). Stays g.nodes pt.tracks w₀ c₀ l c') (sym E.stored) (tour_stays N.tour within E.between c' (Err e) E.entered)

      pub pairs_paths : {e : TooManyPaths} → EnterPairPost pt u (get_or w (g.nodes + 1 + p) 0) (get_or w (pt.table.beside + p) 0) further ways place w c w' c' (Err e) → TooMany g pt.tracks.places.limit s
      pairs_paths {e} E = tour_paths N.tour within E.between c' e E.entered

  -- at the row's end all entries have been looked at, and the pairs of those entered are held
  module _ (l : get_or w₀ (u + 1) 0 ≤ p) where
    at_end : g.nodes + 1 + get_or w₀ (u + 1) 0 ≤ g.nodes + 1 + p
    at_end = omega arith

    pub pairs_end : Tracked g pt.tracks s w c head (place - pt.tracks.places.queue) u (length (entries g u))
    pairs_end = tour_done N.tour at_end

    pub pairs_done : {number : ℕ → ℕ → ℕ} → TrackedPairs g number pt s w₀ c₀ head tail₀ u 0 → TrackedPairs g number pt s w c head (place - pt.tracks.places.queue) u (length (entries g u))
    pairs_done {number} R =
        let e : length (entries g u) ≡ p - get_or w u 0 = omega (arith, row_end N.tour, N.tour.at, N.tour.most) in
        record {
          tracked = pairs_end;
          paired = pairs_paired;
          numbered = numbered_after number (rows_in N.tour) R.tracked.search.space.rows N.tour.stays P₀ R.numbered;
          held =
              pairs_same pt number w (entered_so_far g s w pt.tracks.places.queue head (place - pt.tracks.places.queue) u (p - get_or w u 0)) (entered_so_far g s w pt.tracks.places.queue head (place - pt.tracks.places.queue) u (length (entries g u))) (N.held number R.numbered R.held)
              (λ y h. ap (λ (k : ℕ). entered_so_far g s w pt.tracks.places.queue head (place - pt.tracks.places.queue) u k y) e);
        }
