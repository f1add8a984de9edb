-- A visit's walk over the entries of its node, and the visits one after the other. Assumes nothing.
use mathlib.Core.Path.{◌≡◌, refl, sym, ap, ◌∙◌, subst}
use mathlib.Core.Logic.{◌≢◌, ◌⊎◌, inl, inr}
use mathlib.Core.Bool.{Bool}
use mathlib.Core.List.{List, [], ◌∷◌, ◌++◌, append-nil}
use Prim.Native.Nat.{ℕ, ◌+◌, ◌-◌, ◌≤◌, ◌<◌}
use native.Mathlib.Numerals.{add-one}
use native.Mathlib.Omega.{arith}
use lib.ListN.{length, get_or, set, take, length-set}
use Rattle.std.specs.Prelude.{Result, Ok, Err}
use lib.Seq.{take_all, take-suc}
use Rattle.regions.specs.Region.{list_of}
use Rattle.regions.proofs.Fronts.{hit, miss, front_none, front_then, list_long}
use Rattle.regions.proofs.Parts.{list_at_lem}
use Rattle.graph.specs.Edges.{Edge, Graph, entries}
use Rattle.hops.specs.declared.Step.{Step}
use Rattle.hops.specs.declared.Step.TheVariants.{First, Again, Other}
use Rattle.hops.specs.declared.TooManyPaths.{TooManyPaths}
use Rattle.hops.specs.Hops.{unreached, dist}
use Rattle.hops.specs.Search.{cells, graph_of, Space, Fresh, Begun, Kept, TooMany, Touched, grown}
use Rattle.hops.proofs.Sums.{eq_or_ne}
use Rattle.hops.proofs.Search as search
use Rattle.predecessors.specs.Order.{joined, entries_of, entered}
use Rattle.predecessors.specs.Order as breadth
use Rattle.predecessors.specs.declared.Tracks.{Tracks}
use Rattle.predecessors.specs.Tracks.{leading, so_far, Slots, Holding, Tracked, Traced, Stays, VisitPre, VisitPost, NoEntries, pushed, EnterPre, EnterPost}
use Rattle.predecessors.proofs.Order.{entries_more, queue_order}
use Rattle.predecessors.proofs.Predecessors.{so_none, so_done}
use Rattle.predecessors.proofs.Holding.{slots_after, holding_same}
use Rattle.predecessors.proofs.Tracking.{most, near_dist, end_inside, enter_pre, track, track_paths}

-- ---- what stays

pub stays_none : (n : ℕ) (tr : Tracks) (w c : List ℕ) → Stays n tr w c w c
stays_none n tr w c = record { long = refl; rows = λ i l. refl; offsets = λ i a b. refl; behind = λ i l. refl; wide = front_none c n }

pub stays_then : {n : ℕ} {tr : Tracks} {w c w' c' w'' c'' : List ℕ} → tr.first + n < tr.last → Stays n tr w c w' c' → Stays n tr w' c' w'' c'' → Stays n tr w c w'' c''
stays_then {n} {tr} {w} {c} {w'} h A B =
    record {
      long = B.long ∙ A.long;
      rows = λ i l. B.rows i l ∙ A.rows i l;
      offsets = λ i a b. B.offsets i a b ∙ A.offsets i a b;
      behind = λ i l. B.behind i (omega (arith, A.offsets (tr.first + n) (omega arith) h)) ∙ A.behind i l;
      wide = front_then A.wide B.wide;
    }

-- from what a search's step leaves
stays_kept : {n : ℕ} {tr : Tracks} {w c w' c' : List ℕ} → tr.places.distances ≤ tr.places.queue → tr.places.distances + n ≤ tr.first → tr.places.queue + n ≤ tr.first → tr.last ≤ tr.base → tr.first ≤ tr.last → Kept n tr.places.distances tr.places.queue w c w' c' → Stays n tr w c w' c'
stays_kept o a b d e K =
    record {
      long = K.narrow.long;
      rows = λ i l. K.narrow.rest 0 i (λ p q. omega arith) (λ p q. omega arith);
      offsets = λ i l h. K.narrow.rest 0 i (λ p q. omega arith) (λ p q. omega arith);
      behind = λ i l. K.narrow.rest 0 i (λ p q. omega arith) (λ p q. omega arith);
      wide = K.wide;
    }

stays_push : {n : ℕ} {tr : Tracks} {w : List ℕ} (c : List ℕ) (v x : ℕ) → tr.places.distances ≤ tr.last → tr.last + n ≤ tr.base → x < n → get_or w (tr.last + x) 0 < get_or w (tr.first + n) 0 → Stays n tr w c (pushed v x tr.last tr.base w) c
stays_push {n} {tr} {w} c v x a b hx l =
    let k : ℕ = get_or w (tr.last + x) 0 in
    record {
      long = length-set (set w (tr.base + k) v) (tr.last + x) (k + 1) ∙ length-set w (tr.base + k) v;
      rows = λ i h. miss (set w (tr.base + k) v) (tr.last + x) (k + 1) i (λ e. omega arith) ∙ miss w (tr.base + k) v i (λ e. omega arith);
      offsets = λ i p h. miss (set w (tr.base + k) v) (tr.last + x) (k + 1) i (λ e. omega arith) ∙ miss w (tr.base + k) v i (λ e. omega arith);
      behind = λ i h. miss (set w (tr.base + k) v) (tr.last + x) (k + 1) i (λ e. omega arith) ∙ miss w (tr.base + k) v i (λ e. omega arith);
      wide = front_none c n;
    }

-- ---- one entry

module _ {g : Graph} {tr : Tracks} {s : ℕ} {w c : List ℕ} {head tail u j : ℕ} (T : Tracked g tr s w c head tail u j)
    (more : j < length (entries g u)) {x further ways place : ℕ} (is : x ≡ get_or (entries g u) j 0) (far : further ≡ get_or w (tr.places.distances + u) 0 + 1) (own : ways ≡ get_or c u 0) (free : place ≡ tr.places.queue + tail) where
  x_node : x < g.nodes
  x_node = search.entry_node T.search more is far own free

  module _ (w1 c' : List ℕ) (r : Result Step TooManyPaths) (F : Touched x further ways tr.places.limit tr.places.distances place w c w1 c' r) where
    touch_kept : Kept g.nodes tr.places.distances tr.places.queue w c w1 c'
    touch_kept = search.step_kept T.search more is far own free w1 c' r F

    touch_stays : Stays g.nodes tr w c w1 c'
    touch_stays = stays_kept (omega (arith, T.search.space.apart)) (omega (arith, T.search.space.apart, T.slots.queue)) T.slots.queue (omega (arith, T.slots.lasts)) (omega (arith, T.slots.firsts)) touch_kept

    high : (i : ℕ) → tr.first ≤ i → get_or w1 i 0 ≡ get_or w i 0
    high i l = touch_kept.narrow.rest 0 i (λ p q. omega (arith, T.search.space.apart, T.slots.queue)) (λ p q. omega (arith, T.slots.queue))

    enter_stays_push : dist g s u + 1 ≡ dist g s x → Stays g.nodes tr w c (pushed u x tr.last tr.base w1) c'
    enter_stays_push e =
        stays_then (omega (arith, T.slots.firsts)) touch_stays
        (stays_push c' u x (omega (arith, T.search.space.apart, T.slots.queue, T.slots.firsts)) T.slots.lasts x_node
        (omega (arith, end_inside T more is far own free e, high (tr.last + x) (omega (arith, T.slots.firsts)), high (tr.first + g.nodes) (omega arith))))

    low : (i : ℕ) → i < tr.last → get_or (pushed u x tr.last tr.base w1) i 0 ≡ get_or w1 i 0
    low i l =
        miss (set w1 (tr.base + get_or w1 (tr.last + x) 0) u) (tr.last + x) (get_or w1 (tr.last + x) 0 + 1) i (λ e. omega arith)
        ∙ miss w1 (tr.base + get_or w1 (tr.last + x) 0) u i (λ e. omega (arith, T.slots.lasts))

  pub enter_stays : (w' c' : List ℕ) (r : Result Step TooManyPaths) → EnterPost tr u x further ways place w c w' c' r → Stays g.nodes tr w c w' c'
  enter_stays w' c' (Ok First) E =
      subst (λ (l : List ℕ). Stays g.nodes tr w c l c') (sym E.stored) (enter_stays_push E.between c' (Ok First) E.touched (near_dist T more is far own free (inl E.touched.was)))
  enter_stays w' c' (Ok Again) E =
      subst (λ (l : List ℕ). Stays g.nodes tr w c l c') (sym E.stored) (enter_stays_push E.between c' (Ok Again) E.touched (near_dist T more is far own free (inr E.touched.was)))
  enter_stays w' c' (Ok Other) E = subst (λ (l : List ℕ). Stays g.nodes tr w c l c') (sym E.stored) (touch_stays E.between c' (Ok Other) E.touched)
  enter_stays w' c' (Err e) E = subst (λ (l : List ℕ). Stays g.nodes tr w c l c') (sym E.stored) (touch_stays E.between c' (Err e) E.touched)

  u_before : tr.places.distances + u < tr.last
  u_before = omega (arith, search.node_lt T.search, T.search.space.apart, T.slots.queue, T.slots.firsts)

  -- the node itself keeps its distance and its count
  pub enter_node : (w' c' : List ℕ) (r : Result Step TooManyPaths) → EnterPost tr u x further ways place w c w' c' r → (get_or w' (tr.places.distances + u) 0 ≡ get_or w (tr.places.distances + u) 0) × (get_or c' u 0 ≡ get_or c u 0)
  enter_node w' c' (Ok First) E =
      let n = search.node_kept T.search more is far own free E.between c' (Ok First) E.touched in
      (ap (λ (l : List ℕ). get_or l (tr.places.distances + u) 0) E.stored ∙ low E.between c' (Ok First) E.touched (tr.places.distances + u) u_before ∙ n.0, n.1)
  enter_node w' c' (Ok Again) E =
      let n = search.node_kept T.search more is far own free E.between c' (Ok Again) E.touched in
      (ap (λ (l : List ℕ). get_or l (tr.places.distances + u) 0) E.stored ∙ low E.between c' (Ok Again) E.touched (tr.places.distances + u) u_before ∙ n.0, n.1)
  enter_node w' c' (Ok Other) E =
      let n = search.node_kept T.search more is far own free E.between c' (Ok Other) E.touched in
      (ap (λ (l : List ℕ). get_or l (tr.places.distances + u) 0) E.stored ∙ n.0, n.1)
  enter_node w' c' (Err e) E =
      let n = search.node_kept T.search more is far own free E.between c' (Err e) E.touched in
      (ap (λ (l : List ℕ). get_or l (tr.places.distances + u) 0) E.stored ∙ n.0, n.1)

-- ---- the entries of one node

-- The walk stands at place p of the workspace, an entry of u, and `place` is the next one of the queue. It began with w₀ and c₀.
pub record Tour (g : Graph) (tr : Tracks) (s head : ℕ) (w₀ c₀ : List ℕ) (u further ways : ℕ) (w c : List ℕ) (p place : ℕ) : Type 0 where
  pub j : ℕ
  pub tail : ℕ
  pub at : p ≡ g.nodes + 1 + (get_or w u 0 + j)
  pub most : j ≤ length (entries g u)
  pub free : place ≡ tr.places.queue + tail
  pub far : further ≡ get_or w (tr.places.distances + u) 0 + 1
  pub has : ways ≡ get_or c u 0
  pub tracked : Tracked g tr s w c head tail u j
  pub stays : Stays g.nodes tr w₀ c₀ w c

pub tour_none : {g : Graph} {tr : Tracks} {s head tail u : ℕ} {w c : List ℕ} → Tracked g tr s w c head tail u 0
    → Tour g tr s head w c u (get_or w (tr.places.distances + u) 0 + 1) (get_or c u 0) w c (g.nodes + 1 + get_or w u 0) (tr.places.queue + tail)
tour_none {g} {tr} {s} {head} {tail} {u} {w} {c} T =
    record {
      j = 0;
      tail = tail;
      at = omega arith;
      most = omega arith;
      free = refl;
      far = refl;
      has = refl;
      tracked = T;
      stays = stays_none g.nodes tr w c;
    }

module _ {g : Graph} {tr : Tracks} {s head : ℕ} {w₀ c₀ : List ℕ} {u further ways : ℕ} {w c : List ℕ} {p place : ℕ} (N : Tour g tr s head w₀ c₀ u further ways w c p place) where
  pub u_lt : u < g.nodes
  u_lt = search.node_lt N.tracked.search

  pub rows_in : g.nodes + 1 ≤ tr.places.distances
  rows_in = search.front N.tracked.search.space

  pub row_end : get_or w₀ (u + 1) 0 ≡ get_or w u 0 + length (entries g u)
  row_end = sym (N.stays.rows (u + 1) (omega (arith, rows_in, u_lt))) ∙ N.tracked.search.space.rows.long u u_lt

  -- before the row's end there is an entry
  module _ (before : p < g.nodes + 1 + get_or w₀ (u + 1) 0) where
    pub more : N.j < length (entries g u)
    more = omega (arith, row_end, N.at)

    pub in_rows : p < length w
    in_rows = omega (arith, row_end, N.at, N.tracked.search.space.rows.long u u_lt, N.tracked.search.space.rows.inside u u_lt, N.tracked.search.space.apart, N.tracked.search.space.room)

    pub entry_is : get_or w p 0 ≡ get_or (entries g u) N.j 0
    entry_is = ap (λ (i : ℕ). get_or w i 0) N.at ∙ N.tracked.search.space.rows.entry u N.j u_lt more

    pub tour_pre : EnterPre tr (get_or w p 0) further ways place w c
    tour_pre = enter_pre N.tracked more entry_is N.far N.has N.free

    module _ (w' c' : List ℕ) (r : Result Step TooManyPaths) (E : EnterPost tr u (get_or w p 0) further ways place w c w' c' r) where
      pub tour_stays : Stays g.nodes tr w₀ c₀ w' c'
      tour_stays = stays_then (omega (arith, N.tracked.slots.firsts)) N.stays (enter_stays N.tracked more entry_is N.far N.has N.free w' c' r E)

    pub tour_step : (w' c' : List ℕ) (r : Step) → EnterPost tr u (get_or w p 0) further ways place w c w' c' (Ok r) → (k : ℕ) → k ≡ grown r → Tour g tr s head w₀ c₀ u further ways w' c' (p + 1) (place + k)
    tour_step w' c' r E k ek =
        let n = enter_node N.tracked more entry_is N.far N.has N.free w' c' (Ok r) E in
        let stays = tour_stays w' c' (Ok r) E in
        record {
          j = N.j + 1;
          tail = N.tail + grown r;
          at = omega (arith, N.at, stays.rows u (omega (arith, rows_in, u_lt)), N.stays.rows u (omega (arith, rows_in, u_lt)));
          most = omega (arith, more);
          free = omega (arith, N.free, ek);
          far = N.far ∙ ap (λ (d : ℕ). d + 1) (sym n.0);
          has = N.has ∙ sym n.1;
          tracked = track N.tracked more entry_is N.far N.has N.free w' c' r E;
          stays = stays;
        }

    pub tour_paths : (w' c' : List ℕ) (e : TooManyPaths) → EnterPost tr u (get_or w p 0) further ways place w c w' c' (Err e) → TooMany g tr.places.limit s
    tour_paths w' c' e E = track_paths N.tracked more entry_is N.far N.has N.free w' c' e E

  -- the next place of the queue is in the workspace or at its end
  pub place_fits : place ≤ length w
  place_fits = omega (arith, N.free, search.tail_most N.tracked.search, N.tracked.search.space.room)

  -- at the row's end all entries have been looked at
  pub tour_done : g.nodes + 1 + get_or w₀ (u + 1) 0 ≤ p → Tracked g tr s w c head (place - tr.places.queue) u (length (entries g u))
  tour_done l =
      let e : N.j ≡ length (entries g u) = omega (arith, row_end, N.at, N.most) in
      let t : N.tail ≡ place - tr.places.queue = omega (arith, N.free) in
      subst (λ (k : ℕ). Tracked g tr s w c head (place - tr.places.queue) u k) e (subst (λ (k : ℕ). Tracked g tr s w c head k u N.j) t N.tracked)

-- ---- from node to node

module _ {g : Graph} {tr : Tracks} {s : ℕ} {w c : List ℕ} {head tail u : ℕ} (T : Tracked g tr s w c head tail u (length (entries g u))) where
  in_queue : head < length (list_of (cells w tr.places.queue) tail)
  in_queue = omega (arith, search.before_tail T.search, list_long (cells w tr.places.queue) tail)

  node_there : get_or (list_of (cells w tr.places.queue) tail) head 0 ≡ u
  node_there = list_at_lem (cells w tr.places.queue) tail 0 head (search.before_tail T.search) ∙ search.node_at T.search

  done_more : take (head + 1) (list_of (cells w tr.places.queue) tail) ≡ take head (list_of (cells w tr.places.queue) tail) ++ (u ∷ [])
  done_more =
      ap (λ (k : ℕ). take k (list_of (cells w tr.places.queue) tail)) (add-one head)
      ∙ take-suc (list_of (cells w tr.places.queue) tail) head 0 in_queue
      ∙ ap (λ (x : ℕ). take head (list_of (cells w tr.places.queue) tail) ++ (x ∷ [])) node_there

  come_more : list_of (cells w tr.places.queue) tail ≡ joined (s ∷ []) (entries_of g (take (head + 1) (list_of (cells w tr.places.queue) tail)))
  come_more =
      T.order.come
      ∙ ap (joined (s ∷ []))
      (ap (λ (t : List ℕ). entries_of g (take head (list_of (cells w tr.places.queue) tail)) ++ t) (take_all (length (entries g u)) (entries g u) (omega arith) ∙ ap (entries g) (sym node_there))
      ∙ sym (entries_more g (list_of (cells w tr.places.queue) tail) head in_queue))

  ahead_more : (k : ℕ) → k ≤ head + 1 → k < tail → k < length (joined (s ∷ []) (entries_of g (take k (list_of (cells w tr.places.queue) tail))))
  ahead_more k l h = go (eq_or_ne k (head + 1))
    where
      go : (k ≡ head + 1) ⊎ (k ≢ head + 1) → k < length (joined (s ∷ []) (entries_of g (take k (list_of (cells w tr.places.queue) tail))))
      go (inl e) =
          subst (λ (i : ℕ). k < length (joined (s ∷ []) (entries_of g (take i (list_of (cells w tr.places.queue) tail))))) (sym e)
          (omega (arith, ap length come_more, list_long (cells w tr.places.queue) tail))
      go (inr n) = T.order.ahead k (omega (arith, n))

  -- with all entries of u seen, u is one of the nodes done
  pub lists_more : (x : ℕ) → entered g (dist g s) x (take (head + 1) (list_of (cells w tr.places.queue) tail)) ≡ so_far g (dist g s) (take head (list_of (cells w tr.places.queue) tail)) u (take (length (entries g u)) (entries g u)) x
  lists_more x =
      ap (entered g (dist g s) x) done_more
      ∙ sym (so_done g (dist g s) (take head (list_of (cells w tr.places.queue) tail)) u x)
      ∙ ap (λ (t : List ℕ). so_far g (dist g s) (take head (list_of (cells w tr.places.queue) tail)) u t x) (sym (take_all (length (entries g u)) (entries g u) (omega arith)))

  held_more : Holding g.nodes tr w (λ x. entered g (dist g s) x (take (head + 1) (list_of (cells w tr.places.queue) tail)))
  held_more = holding_same T.holding (λ x h. lists_more x)

  pub track_next : head + 1 < tail → Tracked g tr s w c (head + 1) tail (get_or w (tr.places.queue + (head + 1)) 0) 0
  track_next h =
      record {
        search = search.next_node T.search (omega arith) h;
        slots = T.slots;
        order = record { come = come_more ∙ ap (joined (s ∷ [])) (sym (append-nil (entries_of g (take (head + 1) (list_of (cells w tr.places.queue) tail))))); ahead = λ k l. ahead_more k l (omega arith) };
        holding = holding_same held_more (λ x l. so_none g (dist g s) (take (head + 1) (list_of (cells w tr.places.queue) tail)) (get_or w (tr.places.queue + (head + 1)) 0) (take 0 (entries g (get_or w (tr.places.queue + (head + 1)) 0))) x refl);
      }

  pub track_finish : tail ≤ head + 1 → Traced g tr s w c tail
  track_finish h =
      let all : take (head + 1) (list_of (cells w tr.places.queue) tail) ≡ list_of (cells w tr.places.queue) tail = take_all (head + 1) (list_of (cells w tr.places.queue) tail) (omega (arith, list_long (cells w tr.places.queue) tail)) in
      let come : list_of (cells w tr.places.queue) tail ≡ joined (s ∷ []) (entries_of g (list_of (cells w tr.places.queue) tail)) = come_more ∙ ap (λ (t : List ℕ). joined (s ∷ []) (entries_of g t)) all in
      let o : list_of (cells w tr.places.queue) tail ≡ breadth.order g s =
      queue_order g s (list_of (cells w tr.places.queue) tail) come (λ k l. ahead_more k (omega (arith, list_long (cells w tr.places.queue) tail)) (omega (arith, list_long (cells w tr.places.queue) tail))) (omega (arith, list_long (cells w tr.places.queue) tail, search.tail_most T.search))
      in
      record {
        found = search.finish T.search (omega arith) h;
        slots = T.slots;
        order = o;
        holding = holding_same held_more (λ x l. ap (entered g (dist g s) x) (sym (all ∙ o)));
        most = λ x l.
            subst (λ (t : List ℕ). length t ≤ leading g x) (so_done g (dist g s) (take head (list_of (cells w tr.places.queue) tail)) u x ∙ ap (entered g (dist g s) x) (sym done_more ∙ all ∙ o))
            (most T (entries g u) (λ v. omega arith) x);
      }

-- ---- the beginning

module _ {g : Graph} {s : ℕ} {w c w' c' : List ℕ} {tr : Tracks} (H : Space g s w c tr.places.distances tr.places.queue) (S : Slots g tr w) (F : Fresh g.nodes w c tr.places.distances) (E : NoEntries g.nodes tr w) (some : 1 ≤ tr.places.limit)
    (B : Begun s tr.places.distances tr.places.queue w c w' c') where
  begun_only : Kept g.nodes tr.places.distances tr.places.queue w c w' c'
  begun_only = search.begun_kept H B

  from_first : (i : ℕ) → tr.first ≤ i → get_or w' i 0 ≡ get_or w i 0
  from_first i l = begun_only.narrow.rest 0 i (λ p q. omega (arith, H.apart, S.queue)) (λ p q. omega (arith, S.queue))

  pub begun_stays : Stays g.nodes tr w c w' c'
  begun_stays = stays_kept (omega (arith, H.apart)) (omega (arith, H.apart, S.queue)) S.queue (omega (arith, S.lasts)) (omega (arith, S.firsts)) begun_only

  alone : list_of (cells w' tr.places.queue) 1 ≡ s ∷ []
  unfolding list_of
  alone =
      ap (λ (x : ℕ). x ∷ [])
      (ap (λ (l : List ℕ). get_or l (tr.places.queue + 0) 0) B.stored ∙ hit (set w (tr.places.distances + s) 0) tr.places.queue s (tr.places.queue + 0) (omega arith) (omega (arith, H.start, H.room, length-set w (tr.places.distances + s) 0)))

  nothing : (l : List ℕ) → l ≡ s ∷ [] → (t : ℕ) → l ≡ joined (s ∷ []) (entries_of g (take 0 l) ++ take 0 (entries g t))
  unfolding entries_of
  nothing l e t = e

  pub track_first : Tracked g tr s w' c' 0 1 (get_or w' (tr.places.queue + 0) 0) 0
  unfolding entries_of entered
  track_first =
      record {
        search = search.first tr.places.limit H F some B;
        slots = slots_after S w' begun_only.narrow.long (λ i a b. from_first i a);
        order = record { come = nothing (list_of (cells w' tr.places.queue) 1) alone (get_or w' (tr.places.queue + 0) 0); ahead = λ k l. subst (λ (i : ℕ). i < length (joined (s ∷ []) (entries_of g (take i (list_of (cells w' tr.places.queue) 1))))) (zero_is k l) (omega arith) };
        holding =
            holding_same {lists = λ x. []}
            (record {
              filled = λ x h. omega (arith, E x h, from_first (tr.last + x) (omega (arith, S.firsts)), from_first (tr.first + x) (omega arith));
              kept = λ x k h l. absurd (omega arith);
            })
            (λ x h. so_none g (dist g s) (take 0 (list_of (cells w' tr.places.queue) 1)) (get_or w' (tr.places.queue + 0) 0) (take 0 (entries g (get_or w' (tr.places.queue + 0) 0))) x refl);
      }
    where
      zero_is : (k : ℕ) → k ≤ 0 → 0 ≡ k
      zero_is k l = omega arith

-- ---- the visits

-- The search that began with w₀ and c₀ is to visit the node at place `head` of its queue, if that is a place before `tail`; else it is over.
pub record Run (g : Graph) (tr : Tracks) (s : ℕ) (w₀ c₀ w c : List ℕ) (head tail : ℕ) : Type 0 where
  pub most : tail ≤ g.nodes
  pub apart : tr.first + g.nodes < tr.last
  pub stays : Stays g.nodes tr w₀ c₀ w c
  pub going : head < tail → Tracked g tr s w c head tail (get_or w (tr.places.queue + head) 0) 0
  pub over : tail ≤ head → Traced g tr s w c tail

pub run_none : {g : Graph} {tr : Tracks} {s : ℕ} {w c : List ℕ} → Tracked g tr s w c 0 1 (get_or w (tr.places.queue + 0) 0) 0 → Run g tr s w c w c 0 1
run_none {g} {tr} {s} {w} {c} T =
    record {
      most = search.tail_most T.search;
      apart = omega (arith, T.slots.firsts);
      stays = stays_none g.nodes tr w c;
      going = λ l. T;
      over = λ l. absurd (omega arith);
    }

module _ {tr : Tracks} (directed : Bool) (es : List Edge) (s : ℕ) {w₀ c₀ w c : List ℕ} {head tail : ℕ} (R : Run (graph_of tr.places.nodes directed es) tr s w₀ c₀ w c head tail) (l : head < tail) where
  pub run_visiting : VisitPre tr head tail w c
  run_visiting = record { directed = directed; edges = es; start = s; tracked = R.going l }

  pub run_stays : {w' c' : List ℕ} {r : Result ℕ TooManyPaths} → VisitPost tr head tail w c w' c' r → Stays tr.places.nodes tr w₀ c₀ w' c'
  run_stays P = stays_then R.apart R.stays P.stays

  pub run_step : {w' c' : List ℕ} (end : ℕ) → VisitPost tr head tail w c w' c' (Ok end) → Run (graph_of tr.places.nodes directed es) tr s w₀ c₀ w' c' (head + 1) end
  run_step {w'} {c'} end P = record { most = search.tail_most here.search; apart = R.apart; stays = run_stays P; going = λ q. track_next here q; over = λ q. track_finish here q }
    where
      here : Tracked (graph_of tr.places.nodes directed es) tr s w' c' head end (get_or w (tr.places.queue + head) 0) (length (entries (graph_of tr.places.nodes directed es) (get_or w (tr.places.queue + head) 0)))
      here = P.visited directed es s (R.going l)

  pub run_paths : {w' c' : List ℕ} (e : TooManyPaths) → VisitPost tr head tail w c w' c' (Err e) → TooMany (graph_of tr.places.nodes directed es) tr.places.limit s
  run_paths e P = P.visited directed es s (R.going l)

-- what a visit reads before its first entry
pub record Reads (n D Q head tail : ℕ) (w c : List ℕ) (u : ℕ) : Type 0 where
  pub slot : Q + head < length w
  pub node : u < n
  pub distance : D + u < length w
  pub near : get_or w (D + u) 0 + 1 ≤ unreached
  pub counted : u < length c
  pub first : u + 1 < length w
  pub row_from : n + 1 + get_or w u 0 ≤ length w
  pub row_to_lem : n + 1 + get_or w (u + 1) 0 ≤ length w
  pub place : Q + tail ≤ length w

pub reads_in : {tr : Tracks} {head tail : ℕ} {w c : List ℕ} → VisitPre tr head tail w c → Reads tr.places.nodes tr.places.distances tr.places.queue head tail w c (get_or w (tr.places.queue + head) 0)
reads_in P =
    let S = P.tracked.search in
    let H = S.space in
    let u = search.node_lt S in
    record {
      slot = omega (arith, search.before_tail S, search.tail_most S, H.room);
      node = u;
      distance = omega (arith, u, H.apart, H.room);
      near = omega (arith, search.node_near S, search.tail_most S, H.valid.few);
      counted = omega (arith, u, H.counts);
      first = omega (arith, u, search.front H, H.apart, H.room);
      row_from = omega (arith, H.rows.long _ u, H.rows.inside _ u, H.apart, H.room);
      row_to_lem = omega (arith, H.rows.inside _ u, H.apart, H.room);
      place = omega (arith, search.tail_most S, H.room);
    }
