-- A search that keeps the predecessor entries, entry by entry and node by node. Assumes nothing.
use mathlib.Core.Path.{◌≡◌, refl, sym, ap, ap₂, ◌∙◌, subst}
use mathlib.Core.Logic.{◌≢◌, ◌⊎◌, inl, inr}
use mathlib.Core.List.Memᴰ
use mathlib.Core.List.{List, [], ◌∷◌, ◌++◌, append_assoc, Memᴰ}
use Prim.Native.Nat.{ℕ, ◌+◌, ◌≤◌, ◌<◌}
use native.Mathlib.Nat.{add-zero}
use native.Mathlib.Numerals.{add-one}
use native.Mathlib.Omega.{arith}
use lib.ListN.{length, get_or, set, take, length-append, length-set}
use Rattle.std.specs.Prelude.{Result, Ok, Err}
use lib.Seq.{take_at, take-suc, take-append-le}
use Rattle.regions.specs.Region.{list_of}
use Rattle.regions.proofs.Fronts.{hit, miss, list_more, list_long, list_same}
use Rattle.graph.specs.Edges.{Graph, entries}
use Rattle.hops.specs.declared.Step.{Step}
use Rattle.hops.specs.declared.Step.TheVariants.{First, Again, Other}
use Rattle.hops.specs.declared.TooManyPaths.{TooManyPaths}
use Rattle.hops.specs.Sum.{sum_over, same, times}
use Rattle.hops.specs.Hops.{unreached, dist}
use Rattle.hops.specs.Search.{has, cells, Search, TooMany, Kept, Touched, FoundFirst, grown}
use Rattle.hops.proofs.Sums.{eq_or_ne, sum_append}
use Rattle.hops.proofs.Steps.{has_yes, has_no, has_le}
use Rattle.hops.proofs.Partial.{label_dist}
use Rattle.hops.proofs.Search.{take_times}
use Rattle.hops.proofs.Search as search
use Rattle.predecessors.specs.Order.{joined, entries_of}
use Rattle.predecessors.specs.declared.Tracks.{Tracks}
use Rattle.predecessors.specs.Tracks.{leading, so_far, Slots, Holding, Ordered, Tracked, pushed, PushPre, EnterPre, EnterPost}
use Rattle.predecessors.proofs.Order.{joined_new, joined_old}
use Rattle.predecessors.proofs.Predecessors.{so_hit, so_miss, so_far_lem, so_most}
use Rattle.predecessors.proofs.Same.{queue_same, search_same}
use Rattle.predecessors.proofs.Holding.{before_next, slots_after, holding_same, holding_after, push_room, push_long, push_low, push_holding}

-- ---- the order, with one entry more

module _ {g : Graph} {s : ℕ} {q : List ℕ} {head u j : ℕ} (O : Ordered g s q head u j) (inside : head < length q) (more : j < length (entries g u)) (x : ℕ) (is : x ≡ get_or (entries g u) j 0) where
  one_more : take (j + 1) (entries g u) ≡ take j (entries g u) ++ (x ∷ [])
  one_more = ap (λ (k : ℕ). take k (entries g u)) (add-one j) ∙ take-suc (entries g u) j 0 more ∙ ap (λ (y : ℕ). take j (entries g u) ++ (y ∷ [])) (sym is)

  with_entry_lem : (done : List ℕ) → (entries_of g done ++ take j (entries g u)) ++ (x ∷ []) ≡ entries_of g done ++ take (j + 1) (entries g u)
  with_entry_lem done = append_assoc (entries_of g done) (take j (entries g u)) (x ∷ []) ∙ ap (λ (t : List ℕ). entries_of g done ++ t) (sym one_more)

  pub order_old : 0 < times x q → Ordered g s q head u (j + 1)
  order_old h =
      record {
        come = joined_old (s ∷ []) q (entries_of g (take head q) ++ take j (entries g u)) x O.come h ∙ ap (joined (s ∷ [])) (with_entry_lem (take head q));
        ahead = O.ahead;
      }

  pub done_new : (k : ℕ) → k ≤ head → take k (q ++ (x ∷ [])) ≡ take k q
  done_new k l = take-append-le k q (x ∷ []) (omega arith)

  pub order_new : times x q ≡ 0 → Ordered g s (q ++ (x ∷ [])) head u (j + 1)
  order_new h =
      record {
        come =
            joined_new (s ∷ []) q (entries_of g (take head q) ++ take j (entries g u)) x O.come h
            ∙ ap (joined (s ∷ [])) (with_entry_lem (take head q))
            ∙ ap (λ (t : List ℕ). joined (s ∷ []) (entries_of g t ++ take (j + 1) (entries g u))) (sym (done_new head (omega arith)));
        ahead = λ k l. subst (λ (t : List ℕ). k < length (joined (s ∷ []) (entries_of g t))) (sym (done_new k l)) (O.ahead k l);
      }

-- ---- where the search stands

module _ {g : Graph} {tr : Tracks} {s : ℕ} {w c : List ℕ} {head tail u j : ℕ} (T : Tracked g tr s w c head tail u j) where
  queue : List ℕ
  queue = list_of (cells w tr.places.queue) tail

  pub queue_times : (v : ℕ) → v < g.nodes → times v (list_of (cells w tr.places.queue) tail) ≡ has (get_or w (tr.places.distances + v) 0)
  queue_times v h = ap (times v) T.search.queue ∙ T.search.mid.once v h

  pub done_is : take head (list_of (cells w tr.places.queue) tail) ≡ T.search.done
  done_is = ap (take head) T.search.queue ∙ take_at T.search.done (u ∷ T.search.rest) head T.search.passed

  -- the nodes done, and u, are nodes and each stands once
  pub done_in : (y : ℕ) → Memᴰ y (take head (list_of (cells w tr.places.queue) tail) ++ (u ∷ [])) → y < g.nodes
  done_in y m = go (Memᴰ.append_cases (take head (list_of (cells w tr.places.queue) tail)) m)
    where
      go : Memᴰ y (take head (list_of (cells w tr.places.queue) tail)) ⊎ Memᴰ y (u ∷ []) → y < g.nodes
      go (inl k) = T.search.mid.nodes y (Memᴰ.append_left (u ∷ T.search.rest) (subst (λ (l : List ℕ). Memᴰ y l) done_is k))
      go (inr k) = T.search.mid.nodes y (Memᴰ.append_right T.search.done (Memᴰ.head (Memᴰ.eq_of_singleton k)))

  done_once : (v : ℕ) → v < g.nodes → times v (take head (list_of (cells w tr.places.queue) tail) ++ (u ∷ [])) ≤ 1
  unfolding sum_over
  done_once v h =
      omega (
        arith,
        T.search.mid.once v h,
        has_le (get_or w (tr.places.distances + v) 0),
        ap (λ (l : List ℕ). times v (l ++ (u ∷ []))) done_is,
        sum_append T.search.done (u ∷ []) (λ y. same y v),
        sum_append T.search.done (u ∷ T.search.rest) (λ y. same y v),
      )

  -- no node has more predecessor entries than places, of those seen
  pub most : (seen : List ℕ) → ((v : ℕ) → times v seen ≤ times v (entries g u)) → (x : ℕ) → length (so_far g (dist g s) (take head (list_of (cells w tr.places.queue) tail)) u seen x) ≤ leading g x
  most seen part x = so_most g (dist g s) (take head (list_of (cells w tr.places.queue) tail)) u seen x (part x) done_in done_once

-- ---- one entry

module _ {g : Graph} {tr : Tracks} {s : ℕ} {w c : List ℕ} {head tail u j : ℕ} (T : Tracked g tr s w c head tail u j)
    (more : j < length (entries g u)) {x further ways place : ℕ} (is : x ≡ get_or (entries g u) j 0) (far : further ≡ get_or w (tr.places.distances + u) 0 + 1) (own : ways ≡ get_or c u 0) (free : place ≡ tr.places.queue + tail) where
  x_node : x < g.nodes
  x_node = search.entry_node T.search more is far own free

  -- a node found first is one hop further than u
  first_dist : get_or w (tr.places.distances + x) 0 ≡ unreached → dist g s u + 1 ≡ dist g s x
  first_dist e =
      let w1 : List ℕ = set (set w (tr.places.distances + x) further) place x in
      let F : FoundFirst x further ways tr.places.distances place w c w1 (set c x ways) = record { was = e; stored = refl; counted = refl } in
      let S1 = search.step T.search more is far own free w1 (set c x ways) First F in
      let room = T.search.space.room in
      let at : get_or w1 (tr.places.distances + x) 0 ≡ further =
      miss (set w (tr.places.distances + x) further) place x (tr.places.distances + x) (λ q. omega (arith, x_node, T.search.space.apart))
      ∙ hit w (tr.places.distances + x) further (tr.places.distances + x) refl (omega (arith, x_node, T.search.space.apart))
      in
      let few : further < unreached = omega (arith, search.node_near T.search, search.place_in T.search more is far own free e, T.search.space.valid.few) in
      omega (arith, label_dist S1.space.valid S1.space.start S1.mid x x_node (λ z. omega arith), search.node_dist T.search)

  -- and so is one that is `further` hops away
  pub near_dist : (get_or w (tr.places.distances + x) 0 ≡ unreached) ⊎ (get_or w (tr.places.distances + x) 0 ≡ further) → dist g s u + 1 ≡ dist g s x
  near_dist (inl e) = first_dist e
  near_dist (inr e) = go (eq_or_ne (get_or w (tr.places.distances + x) 0) unreached)
    where
      go : (get_or w (tr.places.distances + x) 0 ≡ unreached) ⊎ (get_or w (tr.places.distances + x) 0 ≢ unreached) → dist g s u + 1 ≡ dist g s x
      go (inl q) = first_dist q
      go (inr n) = omega (arith, label_dist T.search.space.valid T.search.space.start T.search.mid x x_node n, search.node_dist T.search)

  pub other_dist : get_or w (tr.places.distances + x) 0 ≢ unreached → get_or w (tr.places.distances + x) 0 ≢ further → dist g s u + 1 ≢ dist g s x
  other_dist n m e = m (omega (arith, label_dist T.search.space.valid T.search.space.start T.search.mid x x_node n, search.node_dist T.search))

  done : List ℕ
  done = take head (list_of (cells w tr.places.queue) tail)

  pub seen_one : take (j + 1) (entries g u) ≡ take j (entries g u) ++ (x ∷ [])
  seen_one = one_more T.order (omega (arith, search.before_tail T.search, list_long (cells w tr.places.queue) tail)) more x is

  in_queue : head < length (list_of (cells w tr.places.queue) tail)
  in_queue = omega (arith, search.before_tail T.search, list_long (cells w tr.places.queue) tail)

  -- the entries after this one
  abbrev pub later : ℕ → List ℕ
  later = so_far g (dist g s) (take head (list_of (cells w tr.places.queue) tail)) u (take j (entries g u) ++ (x ∷ []))

  abbrev pub sofar : ℕ → List ℕ
  sofar = so_far g (dist g s) (take head (list_of (cells w tr.places.queue) tail)) u (take j (entries g u))

  pub most_now : (y : ℕ) → length (sofar y) ≤ leading g y
  most_now y = most T (take j (entries g u)) (λ v. take_times j (entries g u) v) y

  -- where u enters among the predecessors of x there is a place
  pub free_slot : dist g s u + 1 ≡ dist g s x → length (sofar x) < leading g x
  free_slot e =
      let h : length (later x) ≤ leading g x = most T (take j (entries g u) ++ (x ∷ [])) (λ v. subst (λ (l : List ℕ). times v l ≤ times v (entries g u)) seen_one (take_times (j + 1) (entries g u) v)) x in
      omega (arith, ap length (so_hit g (dist g s) (take head (list_of (cells w tr.places.queue) tail)) u (take j (entries g u)) x e), length-append (sofar x) (u ∷ []))

  slot : dist g s u + 1 ≡ dist g s x → PushPre x tr.last tr.base w
  slot e = push_room T.slots sofar T.holding x x_node (free_slot e)

  pub enter_pre : EnterPre tr x further ways place w c
  enter_pre =
      record {
        touch = search.touch_pre T.search more {further = further} is far own free;
        apart = omega (arith, x_node, T.search.space.apart);
        behind = omega (arith, search.tail_most T.search, T.slots.queue, T.slots.firsts);
        end = omega (arith, x_node, T.slots.lasts);
        room = omega (arith, T.slots.inside);
        first_slot = λ e. slot (near_dist (inl e));
        again_slot = λ e. slot (near_dist (inr e));
      }

  -- the entry has been looked at: the search stands in w1, the queue there is q, and w' differs from w1 only behind the queue
  carry : (w1 w' c' : List ℕ) (t : ℕ) (q : List ℕ) → Search g tr.places.limit s w1 c' tr.places.distances tr.places.queue head t u (j + 1) → length w' ≡ length w1 → ((i : ℕ) → i < tr.places.queue + g.nodes → get_or w' i 0 ≡ get_or w1 i 0)
      → list_of (cells w1 tr.places.queue) t ≡ q → Ordered g s q head u (j + 1) → take head q ≡ take head (list_of (cells w tr.places.queue) tail) → Slots g tr w'
      → Holding g.nodes tr w' later → Tracked g tr s w' c' head t u (j + 1)
  carry w1 w' c' t q S1 long low eq O ed sl H =
      let e : list_of (cells w' tr.places.queue) t ≡ q = queue_same w1 w' tr.places.queue t (λ i l. low i (omega (arith, search.tail_most S1))) ∙ eq in
      record {
        search = search_same w' S1 long low;
        slots = sl;
        order = subst (λ (l : List ℕ). Ordered g s l head u (j + 1)) (sym e) O;
        holding =
            holding_same H
            (λ y h. ap₂ (λ (a b : List ℕ). so_far g (dist g s) a u b y) (ap (take head) e ∙ ed) seen_one);
      }

  module _ (w1 c' : List ℕ) (r : Result Step TooManyPaths) (F : Touched x further ways tr.places.limit tr.places.distances place w c w1 c' r) where
    K : Kept g.nodes tr.places.distances tr.places.queue w c w1 c'
    K = search.step_kept T.search more is far own free w1 c' r F

    high : (i : ℕ) → tr.first ≤ i → get_or w1 i 0 ≡ get_or w i 0
    high i l = K.narrow.rest 0 i (λ p q. omega (arith, T.search.space.apart, T.slots.queue)) (λ p q. omega (arith, T.slots.queue))

    slots1 : Slots g tr w1
    slots1 = slots_after T.slots w1 K.narrow.long (λ i a b. high i a)

    holding1 : Holding g.nodes tr w1 sofar
    holding1 = holding_after w1 (omega (arith, T.slots.firsts)) (omega (arith, T.slots.lasts)) high T.holding

    -- u is pushed behind the predecessors of x
    pushing : (t : ℕ) (q : List ℕ) → dist g s u + 1 ≡ dist g s x → Search g tr.places.limit s w1 c' tr.places.distances tr.places.queue head t u (j + 1) → list_of (cells w1 tr.places.queue) t ≡ q → Ordered g s q head u (j + 1) → take head q ≡ take head (list_of (cells w tr.places.queue) tail)
        → Tracked g tr s (pushed u x tr.last tr.base w1) c' head t u (j + 1)
    pushing t q e S1 eq O ed =
        let f = free_slot e in
        let hit-own = so_hit g (dist g s) (take head (list_of (cells w tr.places.queue) tail)) u (take j (entries g u)) x e in
        let others : (y : ℕ) → y < g.nodes → y ≢ x → later y ≡ sofar y = λ y h n. so_miss g (dist g s) (take head (list_of (cells w tr.places.queue) tail)) u (take j (entries g u)) x y (λ p. n (sym p)) in
        let H : Holding g.nodes tr (pushed u x tr.last tr.base w1) later = push_holding slots1 holding1 (λ y h. most_now y) u x x_node f hit-own others in
        let low : (i : ℕ) → i < tr.last → get_or (pushed u x tr.last tr.base w1) i 0 ≡ get_or w1 i 0 = push_low slots1 {lists = sofar} {lists' = later} holding1 (λ y h. most_now y) u x x_node f hit-own others in
        let long : length (pushed u x tr.last tr.base w1) ≡ length w1 = push_long slots1 {lists = sofar} {lists' = later} holding1 (λ y h. most_now y) u x x_node f hit-own others in
        carry w1 (pushed u x tr.last tr.base w1) c' t q S1 long (λ i l. low i (omega (arith, T.slots.queue, T.slots.firsts))) eq O ed (slots_after slots1 (pushed u x tr.last tr.base w1) long (λ i a b. low i b)) H

  pub track : (w' c' : List ℕ) (r : Step) → EnterPost tr u x further ways place w c w' c' (Ok r) → Tracked g tr s w' c' head (tail + grown r) u (j + 1)
  track w' c' First E =
      let w1 = E.between in
      let F = E.touched in
      let S1 = search.step T.search more is far own free w1 c' First F in
      let was : times x (list_of (cells w tr.places.queue) tail) ≡ 0 = queue_times T x x_node ∙ has_no F.was in
      let t_in = search.place_in T.search more is far own free F.was in
      let at : get_or w1 (tr.places.queue + tail) 0 ≡ x =
      ap (λ (l : List ℕ). get_or l (tr.places.queue + tail) 0) F.stored
      ∙ hit (set w (tr.places.distances + x) further) place x (tr.places.queue + tail) (sym free) (omega (arith, length-set w (tr.places.distances + x) further, T.search.space.room))
      in
      let low : (k : ℕ) → k < tail → get_or w1 (tr.places.queue + k) 0 ≡ get_or w (tr.places.queue + k) 0 = λ k l.
      ap (λ (t : List ℕ). get_or t (tr.places.queue + k) 0) F.stored
      ∙ miss (set w (tr.places.distances + x) further) place x (tr.places.queue + k) (λ q. omega arith)
      ∙ miss w (tr.places.distances + x) further (tr.places.queue + k) (λ q. omega (arith, x_node, T.search.space.apart))
      in
      let eq : list_of (cells w1 tr.places.queue) (tail + 1) ≡ list_of (cells w tr.places.queue) tail ++ (x ∷ []) =
      list_more (cells w1 tr.places.queue) tail ∙ ap₂ (λ (a : List ℕ) (b : ℕ). a ++ (b ∷ [])) (list_same (cells w1 tr.places.queue) (cells w tr.places.queue) tail low) at
      in
      subst (λ (l : List ℕ). Tracked g tr s l c' head (tail + 1) u (j + 1)) (sym E.stored)
      (pushing w1 c' (Ok First) F (tail + 1) (list_of (cells w tr.places.queue) tail ++ (x ∷ [])) (near_dist (inl F.was)) S1 eq (order_new T.order in_queue more x is was) (done_new T.order in_queue more x is head (omega arith)))
  track w' c' Again E =
      let w1 = E.between in
      let F = E.touched in
      let S1 = search.step T.search more is far own free w1 c' Again F in
      let q : get_or w (tr.places.distances + x) 0 ≢ unreached = λ z. F.known (sym F.was ∙ z) in
      let was : 0 < times x (list_of (cells w tr.places.queue) tail) = omega (arith, queue_times T x x_node, has_yes q) in
      let eq : list_of (cells w1 tr.places.queue) (tail + 0) ≡ list_of (cells w tr.places.queue) tail = ap₂ (λ (a : List ℕ) (b : ℕ). list_of (cells a tr.places.queue) b) F.same (add-zero tail) in
      subst (λ (l : List ℕ). Tracked g tr s l c' head (tail + 0) u (j + 1)) (sym E.stored)
      (pushing w1 c' (Ok Again) F (tail + 0) (list_of (cells w tr.places.queue) tail) (near_dist (inr F.was)) S1 eq (order_old T.order in_queue more x is was) refl)
  track w' c' Other E =
      let w1 = E.between in
      let F = E.touched in
      let S1 = search.step T.search more is far own free w1 c' Other F in
      let was : 0 < times x (list_of (cells w tr.places.queue) tail) = omega (arith, queue_times T x x_node, has_yes F.known) in
      let eq : list_of (cells w1 tr.places.queue) (tail + 0) ≡ list_of (cells w tr.places.queue) tail = ap₂ (λ (a : List ℕ) (b : ℕ). list_of (cells a tr.places.queue) b) F.same (add-zero tail) in
      let H : Holding g.nodes tr w1 later = holding_same (holding1 w1 c' (Ok Other) F) (λ y h. so_far_lem g (dist g s) (take head (list_of (cells w tr.places.queue) tail)) u (take j (entries g u)) x (other_dist F.known F.other) y) in
      subst (λ (l : List ℕ). Tracked g tr s l c' head (tail + 0) u (j + 1)) (sym E.stored)
      (carry w1 w1 c' (tail + 0) (list_of (cells w tr.places.queue) tail) S1 refl (λ i l. refl) eq (order_old T.order in_queue more x is was) refl (slots1 w1 c' (Ok Other) F) H)

  -- the limit is exceeded
  pub track_paths : (w' c' : List ℕ) (e : TooManyPaths) → EnterPost tr u x further ways place w c w' c' (Err e) → TooMany g tr.places.limit s
  track_paths w' c' e E = search.paths T.search more is far own free E.between c' E.touched

  -- where u enters among the predecessors of x, the end of those lies before the end of all
  pub end_inside : dist g s u + 1 ≡ dist g s x → get_or w (tr.last + x) 0 < get_or w (tr.first + g.nodes) 0
  end_inside e = omega (arith, T.holding.filled x x_node, free_slot e, before_next T.slots x g.nodes x_node (omega arith))
