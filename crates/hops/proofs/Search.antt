-- The search over the workspace: its beginning, its step at one entry, the next node of the queue, its end. Assumes nothing.
use mathlib.Core.Path.{◌≡◌, refl, sym, ap, ◌∙◌, subst}
use mathlib.Core.Logic.{◌≢◌, ◌⊎◌, inl, inr}
use mathlib.Core.List.{List, [], ◌∷◌, ◌++◌, append_assoc, Memᴰ}
use Prim.Native.Nat.{ℕ, zero, suc, ◌+◌, ◌≤◌, ◌<◌}
use Rattle.std.specs.Prelude.{Result, Ok, Err}
use native.Mathlib.Nat.{add-zero}
use native.Mathlib.Numerals.{add-one}
use native.Mathlib.Omega.{arith}
use lib.ListN.{length, get_or, set, take, length-append, length-set}
use lib.Seq.{take-suc, take_all, get_or_at}
use Rattle.regions.specs.Region.{list_of, Front, Frame2}
use Rattle.regions.proofs.Fronts.{list_long, list_more, list_same, front_none, front_set, front_then, hit, miss}
use Rattle.regions.proofs.Parts.{list_at_lem}
use Rattle.regions.proofs.Frames.{frame2_none, frame2_then, frame2_set_left, frame2_set_right}
use Rattle.graph.specs.Edges.{Graph, entries}
use Rattle.hops.specs.declared.Step.{Step}
use Rattle.hops.specs.declared.Step.TheVariants.{First, Again, Other}
use Rattle.hops.specs.declared.TooManyPaths.{TooManyPaths}
use Rattle.hops.specs.Sum.{sum_over, same, times}
use Rattle.hops.specs.Hops.{unreached, dist, count}
use Rattle.hops.specs.Search.{Mid, cells, places, RowsOf, Space, Fresh, BeginPre, Begun, Kept, Search, Found, TooMany, TouchPre, FoundFirst, FoundAgain, PassedOver, Exceeded, Touched, grown}
use Rattle.hops.proofs.Sums.{eq_or_ne, not_long}
use Rattle.hops.proofs.Walks.{entry_lt}
use Rattle.hops.proofs.Labels.{Labels, labels_dist, labels_count}
use Rattle.hops.proofs.Steps.{Put, begin, next, room, skip, add, new, u_in, labelled, queued, has_le}
use Rattle.hops.proofs.Steps as steps
use Rattle.hops.proofs.Partial.{label_dist, ways_most}

-- ---- places of lists

pub get_or_mem : (l : List ℕ) (j : ℕ) → j < length l → Memᴰ (get_or l j 0) l
get_or_mem [] j h = absurd (omega arith)
get_or_mem (x ∷ xs) zero h = Memᴰ.head refl
get_or_mem (x ∷ xs) (suc j) h = Memᴰ.tail (get_or_mem xs j (omega arith))

pub mem_get_or : (l : List ℕ) (x : ℕ) → Memᴰ x l → (j : ℕ) × (j < length l) × (get_or l j 0 ≡ x)
mem_get_or l x m = go x l m
  where
    go : (u : ℕ) (xs : List ℕ) → Memᴰ u xs → (j : ℕ) × (j < length xs) × (get_or xs j 0 ≡ u)
    go u xs (Memᴰ.head {x = y} {xs = ys} e) = (0, omega arith, sym e)
    go u xs (Memᴰ.tail {x = y} {xs = ys} m) = let r = go u ys m in (suc r.0, omega (arith, r.1), r.2)

pub take_times : (k : ℕ) (l : List ℕ) (v : ℕ) → times v (take k l) ≤ times v l
unfolding sum_over
take_times zero l v = omega arith
take_times (suc k) [] v = omega arith
take_times (suc k) (x ∷ xs) v = omega (arith, take_times k xs v)

pub take_mem : (k : ℕ) (l : List ℕ) (v : ℕ) → Memᴰ v (take k l) → Memᴰ v l
take_mem zero l v m = elim m [ ]
take_mem (suc k) [] v m = elim m [ ]
take_mem (suc k) (x ∷ xs) v (Memᴰ.head e) = Memᴰ.head e
take_mem (suc k) (x ∷ xs) v (Memᴰ.tail m) = Memᴰ.tail (take_mem k xs v m)

-- ---- the workspace

-- stores at `top` or behind it leave the rows as they are
pub rows_after : {g : Graph} {w : List ℕ} {top : ℕ} (w' : List ℕ) → RowsOf g w top → g.nodes + 1 ≤ top → ((i : ℕ) → i < top → get_or w' i 0 ≡ get_or w i 0) → RowsOf g w' top
rows_after {g} {w} {top} w' R front same =
    record {
      long = λ v hv. off v hv ∙ R.long v hv ∙ ap (λ (x : ℕ). x + length (entries g v)) (sym (first v hv));
      inside = λ v hv. omega (arith, off v hv, R.inside v hv);
      entry = λ v k hv l.
          ap (λ (x : ℕ). get_or w' (g.nodes + 1 + (x + k)) 0) (first v hv)
          ∙ same (g.nodes + 1 + (get_or w v 0 + k)) (omega (arith, R.long v hv, R.inside v hv))
          ∙ R.entry v k hv l;
    }
  where
    off : (v : ℕ) → v < g.nodes → get_or w' (v + 1) 0 ≡ get_or w (v + 1) 0
    off v hv = same (v + 1) (omega arith)

    first : (v : ℕ) → v < g.nodes → get_or w' v 0 ≡ get_or w v 0
    first v hv = same v (omega arith)

module _ {g : Graph} {s : ℕ} {w c : List ℕ} {D Q : ℕ} (H : Space g s w c D Q) where
  pub front : g.nodes + 1 ≤ D
  front = omega (arith, H.rows.inside s H.start)

  pub space_after : (w' c' : List ℕ) → length w' ≡ length w → length c' ≡ length c → ((i : ℕ) → i < D → get_or w' i 0 ≡ get_or w i 0) → Space g s w' c' D Q
  space_after w' c' lw lc same =
      record {
        valid = H.valid;
        start = H.start;
        rows = rows_after w' H.rows front same;
        apart = H.apart;
        room = omega (arith, H.room);
        counts = omega (arith, H.counts);
      }

pub kept_none : (n D Q : ℕ) (w c : List ℕ) → Kept n D Q w c w c
kept_none n D Q w c = record { narrow = frame2_none w D n Q n; wide = front_none c n }

pub kept_then : {n D Q : ℕ} {w c w' c' w'' c'' : List ℕ} → Kept n D Q w c w' c' → Kept n D Q w' c' w'' c'' → Kept n D Q w c w'' c''
kept_then a b = record { narrow = frame2_then a.narrow b.narrow; wide = front_then a.wide b.wide }

unchanged : {n D Q : ℕ} {w c w' c' : List ℕ} → w' ≡ w → c' ≡ c → Kept n D Q w c w' c'
unchanged {n} {D} {Q} {w} {c} {w'} {c'} p q =
    subst (λ (t : List ℕ). Kept n D Q w c t c') (sym p) (subst (λ (t : List ℕ). Kept n D Q w c w t) (sym q) (kept_none n D Q w c))

-- ---- where a search stands

module _ {g : Graph} {limit s : ℕ} {w c : List ℕ} {D Q head tail u j : ℕ} (S : Search g limit s w c D Q head tail u j) where
  pub queue_long : length (S.done ++ (u ∷ S.rest)) ≡ tail
  queue_long = sym (ap length S.queue) ∙ list_long (cells w Q) tail

  count_queue : tail ≡ head + (1 + length S.rest)
  count_queue = omega (arith, queue_long, length-append S.done (u ∷ S.rest), S.passed)

  pub before_tail : head < tail
  before_tail = omega (arith, count_queue)

  -- the node that the search is at
  pub node_at : get_or w (Q + head) 0 ≡ u
  node_at = sym (list_at_lem (cells w Q) tail 0 head before_tail) ∙ ap (λ (l : List ℕ). get_or l head 0) S.queue ∙ get_or_at S.done u S.rest 0 head S.passed

  pub node_lt : u < g.nodes
  node_lt = S.mid.nodes u (u_in S.mid)

  pub node_labelled : get_or w (D + u) 0 ≢ unreached
  node_labelled = labelled S.mid u (u_in S.mid)

  pub tail_most : tail ≤ g.nodes
  tail_most = omega (arith, queue_long, not_long g.nodes (S.done ++ (u ∷ S.rest)) S.mid.nodes (λ v hv. omega (arith, S.mid.once v hv, has_le (get_or w (D + v) 0))))

  -- its distance is a number of hops that is not the largest
  pub node_near : get_or w (D + u) 0 < tail
  node_near = omega (arith, S.mid.near u node_lt node_labelled, queue_long)

  -- and it is the fewest
  pub node_dist : get_or w (D + u) 0 ≡ dist g s u
  node_dist = sym (label_dist S.space.valid S.space.start S.mid u node_lt node_labelled)

  seen_in : (y : ℕ) → Memᴰ y (take j (entries g u)) → y < g.nodes
  seen_in y m = entry_lt g S.space.valid.inside u y (take_mem j (entries g u) y m)

  -- ---- the entry x, and what `touch` is asked and leaves
  module _ (more : j < length (entries g u)) {x further ways place : ℕ} (is : x ≡ get_or (entries g u) j 0) (far : further ≡ get_or w (D + u) 0 + 1) (has : ways ≡ get_or c u 0) (free : place ≡ Q + tail) where
    entry_in : Memᴰ x (entries g u)
    entry_in = subst (λ (y : ℕ). Memᴰ y (entries g u)) (sym is) (get_or_mem (entries g u) j more)

    pub entry_node : x < g.nodes
    entry_node = entry_lt g S.space.valid.inside u x entry_in

    one_more : take j (entries g u) ++ (x ∷ []) ≡ take (j + 1) (entries g u)
    one_more = ap (λ (y : ℕ). take j (entries g u) ++ (y ∷ [])) is ∙ sym (take-suc (entries g u) j 0 more) ∙ ap (λ (k : ℕ). take k (entries g u)) (sym (add-one j))

    -- there is a place in the queue for a node that has no distance
    pub place_in : get_or w (D + x) 0 ≡ unreached → tail < g.nodes
    place_in e = omega (arith, queue_long, room S.mid x entry_node e)

    pub touch_pre : TouchPre x ways limit D place w c
    touch_pre =
        record {
          distance = omega (arith, entry_node, S.space.apart, S.space.room);
          slot = λ e. omega (arith, place_in e, S.space.room);
          counted = omega (arith, entry_node, S.space.counts);
          small = omega (arith, S.small u node_lt);
        }

    -- the counts with more ways for x
    grow : List ℕ
    grow = set c x (get_or c x 0 + ways)

    put_grow : Put g.nodes (places c) (places grow) x (get_or c x 0 + get_or c u 0)
    unfolding grow
    put_grow =
        record {
          at = hit c x (get_or c x 0 + ways) x refl touch_pre.counted ∙ ap (λ (t : ℕ). get_or c x 0 + t) has;
          off = λ v hv n. miss c x (get_or c x 0 + ways) v n;
        }

    mid_grow : get_or w (D + x) 0 ≡ further → further ≢ unreached → Mid g s (cells w D) (places grow) S.done u (take (j + 1) (entries g u)) S.rest
    mid_grow e k =
        subst (λ (seen : List ℕ). Mid g s (cells w D) (places grow) S.done u seen S.rest) one_more
        (add S.mid (places grow) x entry_node (λ z. k (sym e ∙ z)) (e ∙ far) put_grow)

    module _ (w' c' : List ℕ) where
      step_first : FoundFirst x further ways D place w c w' c' → Search g limit s w' c' D Q head (tail + 1) u (j + 1)
      step_first F =
          record {
            space = space_after S.space w' c' long_w long_c (λ i l. ap (λ (t : List ℕ). get_or t i 0) F.stored ∙ miss (set w (D + x) further) place x i (λ e. omega (arith, S.space.apart)) ∙ miss w (D + x) further i (λ e. omega arith));
            done = S.done;
            rest = S.rest ++ (x ∷ []);
            queue =
                list_more (cells w' Q) tail
                ∙ ap (λ (l : List ℕ). l ++ (cells w' Q tail ∷ [])) (list_same (cells w' Q) (cells w Q) tail old ∙ S.queue)
                ∙ ap (λ (y : ℕ). (S.done ++ (u ∷ S.rest)) ++ (y ∷ [])) last
                ∙ append_assoc S.done (u ∷ S.rest) (x ∷ []);
            passed = S.passed;
            small = λ v hv. small' v hv (eq_or_ne v x);
            mid =
                subst (λ (seen : List ℕ). Mid g s (cells w' D) (places c') S.done u seen (S.rest ++ (x ∷ []))) one_more
                (new S.mid S.space.valid S.space.start seen_in (cells w' D) (places c') x entry_node entry_in F.was put_d put_c);
          }
        where
          in_w : D + x < length w
          in_w = touch_pre.distance

          in_q : place < length w
          in_q = touch_pre.slot F.was

          long_w : length w' ≡ length w
          long_w = ap length F.stored ∙ length-set (set w (D + x) further) place x ∙ length-set w (D + x) further

          long_c : length c' ≡ length c
          long_c = ap length F.counted ∙ length-set c x ways

          old : (i : ℕ) → i < tail → get_or w' (Q + i) 0 ≡ get_or w (Q + i) 0
          old i l = ap (λ (t : List ℕ). get_or t (Q + i) 0) F.stored ∙ miss (set w (D + x) further) place x (Q + i) (λ e. omega arith) ∙ miss w (D + x) further (Q + i) (λ e. omega (arith, entry_node, S.space.apart))

          last : get_or w' (Q + tail) 0 ≡ x
          last = ap (λ (t : List ℕ). get_or t (Q + tail) 0) F.stored ∙ hit (set w (D + x) further) place x (Q + tail) (sym free) (omega (arith, in_q, length-set w (D + x) further))

          put_d : Put g.nodes (cells w D) (cells w' D) x (get_or w (D + u) 0 + 1)
          put_d =
              record {
                at = ap (λ (t : List ℕ). get_or t (D + x) 0) F.stored ∙ miss (set w (D + x) further) place x (D + x) (λ e. omega (arith, entry_node, S.space.apart)) ∙ hit w (D + x) further (D + x) refl in_w ∙ far;
                off = λ v hv n. ap (λ (t : List ℕ). get_or t (D + v) 0) F.stored ∙ miss (set w (D + x) further) place x (D + v) (λ e. omega (arith, S.space.apart)) ∙ miss w (D + x) further (D + v) (λ e. n (omega arith));
              }

          put_c : Put g.nodes (places c) (places c') x (get_or c u 0)
          put_c =
              record {
                at = ap (λ (t : List ℕ). get_or t x 0) F.counted ∙ hit c x ways x refl touch_pre.counted ∙ has;
                off = λ v hv n. ap (λ (t : List ℕ). get_or t v 0) F.counted ∙ miss c x ways v n;
              }

          small' : (v : ℕ) → v < g.nodes → (v ≡ x) ⊎ (v ≢ x) → get_or c' v 0 ≤ limit
          small' v hv (inl e) = omega (arith, ap (places c') e, put_c.at, S.small u node_lt)
          small' v hv (inr n) = omega (arith, put_c.off v hv n, S.small v hv)

      step_again : FoundAgain x further ways limit D w c w' c' → Search g limit s w' c' D Q head tail u (j + 1)
      unfolding grow
      step_again F = subst (λ (t : List ℕ). Search g limit s t c' D Q head tail u (j + 1)) (sym F.same) (subst (λ (t : List ℕ). Search g limit s w t D Q head tail u (j + 1)) (sym F.counted) grown_search)
        where
          small' : (v : ℕ) → v < g.nodes → (v ≡ x) ⊎ (v ≢ x) → get_or grow v 0 ≤ limit
          small' v hv (inl e) = omega (arith, ap (places grow) e, put_grow.at, F.within)
          small' v hv (inr n) = omega (arith, put_grow.off v hv n, S.small v hv)

          grown_search : Search g limit s w grow D Q head tail u (j + 1)
          grown_search =
              record {
                space = space_after S.space w grow refl (length-set c x (get_or c x 0 + ways)) (λ i l. refl);
                done = S.done;
                rest = S.rest;
                queue = S.queue;
                passed = S.passed;
                small = λ v hv. small' v hv (eq_or_ne v x);
                mid = mid_grow F.was F.known;
              }

      step_other : PassedOver x further D w c w' c' → Search g limit s w' c' D Q head tail u (j + 1)
      step_other F = subst (λ (t : List ℕ). Search g limit s t c' D Q head tail u (j + 1)) (sym F.same) (subst (λ (t : List ℕ). Search g limit s w t D Q head tail u (j + 1)) (sym F.counts) passed_search)
        where
          passed_search : Search g limit s w c D Q head tail u (j + 1)
          passed_search =
              record {
                space = S.space;
                done = S.done;
                rest = S.rest;
                queue = S.queue;
                passed = S.passed;
                small = S.small;
                mid =
                    subst (λ (seen : List ℕ). Mid g s (cells w D) (places c) S.done u seen S.rest) one_more
                    (skip S.mid x entry_node F.known (λ e. F.other (e ∙ sym far)));
              }

      -- the entry is looked at, and the limit not exceeded
      pub step : (t : Step) → Touched x further ways limit D place w c w' c' (Ok t) → Search g limit s w' c' D Q head (tail + grown t) u (j + 1)
      step First T = step_first T
      step Again T = subst (λ (t : ℕ). Search g limit s w' c' D Q head t u (j + 1)) (sym (add-zero tail)) (step_again T)
      step Other T = subst (λ (t : ℕ). Search g limit s w' c' D Q head t u (j + 1)) (sym (add-zero tail)) (step_other T)

      -- the limit is exceeded: so is it by the number of fewest hop sequences to x
      pub paths : Exceeded x further ways limit D w c w' c' → TooMany g limit s
      paths T =
          record {
            node = x;
            inside = entry_node;
            more =
                omega (
                  arith,
                  T.more,
                  has,
                  put_grow.at,
                  ways_most S.space.valid S.space.start (mid_grow T.was T.known) (λ v. take_times (j + 1) (entries g u) v) (get_or w (D + x) 0) x entry_node refl (λ z. T.known (sym T.was ∙ z)),
                );
          }

      -- what else `touch` may have changed: nothing but distances, the queue and counts
      pub step_kept : (r : Result Step TooManyPaths) → Touched x further ways limit D place w c w' c' r → Kept g.nodes D Q w c w' c'
      step_kept (Ok First) T =
          record {
            narrow = subst (λ (t : List ℕ). Frame2 w D g.nodes Q g.nodes t) (sym T.stored) (frame2_set_right place x (frame2_set_left (D + x) further (frame2_none w D g.nodes Q g.nodes) (omega arith) (omega (arith, entry_node))) (omega arith) (omega (arith, place_in T.was)));
            wide = subst (λ (t : List ℕ). Front c g.nodes t) (sym T.counted) (front_set x ways (front_none c g.nodes) entry_node);
          }
      step_kept (Ok Again) T =
          record {
            narrow = subst (λ (t : List ℕ). Frame2 w D g.nodes Q g.nodes t) (sym T.same) (frame2_none w D g.nodes Q g.nodes);
            wide = subst (λ (t : List ℕ). Front c g.nodes t) (sym T.counted) (front_set x (get_or c x 0 + ways) (front_none c g.nodes) entry_node);
          }
      step_kept (Ok Other) T = unchanged T.same T.counts
      step_kept (Err e) T = unchanged T.same T.counts

      -- the node itself keeps its distance and its count
      pub node_kept : (r : Result Step TooManyPaths) → Touched x further ways limit D place w c w' c' r → (get_or w' (D + u) 0 ≡ get_or w (D + u) 0) × (get_or c' u 0 ≡ get_or c u 0)
      node_kept (Ok First) T =
          let n : u ≢ x = λ e. node_labelled (ap (cells w D) e ∙ T.was) in (
            ap (λ (t : List ℕ). get_or t (D + u) 0) T.stored
                ∙ miss (set w (D + x) further) place x (D + u) (λ e. omega (arith, node_lt, S.space.apart))
                ∙ miss w (D + x) further (D + u) (λ e. n (omega arith)),
            ap (λ (t : List ℕ). get_or t u 0) T.counted ∙ miss c x ways u n,
          )
      node_kept (Ok Again) T =
          let n : u ≢ x = λ e. omega (arith, ap (cells w D) e, T.was, far) in
          (ap (λ (t : List ℕ). get_or t (D + u) 0) T.same, ap (λ (t : List ℕ). get_or t u 0) T.counted ∙ miss c x (get_or c x 0 + ways) u n)
      node_kept (Ok Other) T = (ap (λ (t : List ℕ). get_or t (D + u) 0) T.same, ap (λ (t : List ℕ). get_or t u 0) T.counts)
      node_kept (Err e) T = (ap (λ (t : List ℕ). get_or t (D + u) 0) T.same, ap (λ (t : List ℕ). get_or t u 0) T.counts)

-- ---- from node to node

module _ {g : Graph} {limit s : ℕ} {w c : List ℕ} {D Q head tail u j : ℕ} (S : Search g limit s w c D Q head tail u j) (all : length (entries g u) ≤ j) where
  whole : Mid g s (cells w D) (places c) S.done u (entries g u) S.rest
  whole = subst (λ (seen : List ℕ). Mid g s (cells w D) (places c) S.done u seen S.rest) (take_all j (entries g u) all) S.mid

  -- on to the next node of the queue
  pub next_node : head + 1 < tail → Search g limit s w c D Q (head + 1) tail (get_or w (Q + (head + 1)) 0) 0
  next_node h = go S.rest S.queue whole (count_queue S)
    where
      go : (rest : List ℕ) → list_of (cells w Q) tail ≡ S.done ++ (u ∷ rest) → Mid g s (cells w D) (places c) S.done u (entries g u) rest → tail ≡ head + (1 + length rest)
          → Search g limit s w c D Q (head + 1) tail (get_or w (Q + (head + 1)) 0) 0
      go [] q m t = absurd (omega arith)
      go (v ∷ rest) q m t = subst (λ (x : ℕ). Search g limit s w c D Q (head + 1) tail x 0) (sym (node_at moved)) moved
        where
          moved : Search g limit s w c D Q (head + 1) tail v 0
          moved =
              record {
                space = S.space;
                done = S.done ++ (u ∷ []);
                rest = rest;
                queue = q ∙ sym (append_assoc S.done (u ∷ []) (v ∷ rest));
                passed = length-append S.done (u ∷ []) ∙ ap (λ (k : ℕ). k + 1) S.passed;
                small = S.small;
                mid = next m;
              }

  -- or the queue is at its end, and the search over
  pub finish : tail ≤ head + 1 → Found g limit s w c D Q tail
  finish h = go S.rest S.queue whole (count_queue S)
    where
      go : (rest : List ℕ) → list_of (cells w Q) tail ≡ S.done ++ (u ∷ rest) → Mid g s (cells w D) (places c) S.done u (entries g u) rest → tail ≡ head + (1 + length rest) → Found g limit s w c D Q tail
      go (v ∷ rest) q m t = absurd (omega arith)
      go [] q m t =
          record {
            space = S.space;
            dists = λ v hv. sym (dists v hv);
            ways = λ v hv. sym (ways v hv);
            small = λ v hv. omega (arith, ways v hv, S.small v hv);
            taken = tail_most S;
            queued = λ i l. let k = in_queue i l in (m.nodes (get_or w (Q + i) 0) k, λ z. labelled m (get_or w (Q + i) 0) k (sym (dists (get_or w (Q + i) 0) (m.nodes (get_or w (Q + i) 0) k)) ∙ z));
            reached = λ v hv r. there v (mem_get_or (list_of (cells w Q) tail) v (subst (λ (l : List ℕ). Memᴰ v l) (sym q) (queued m v hv (λ z. r (dists v hv ∙ z)))));
          }
        where
          labels : Labels g s (cells w D) (places c)
          labels = steps.finish S.space.valid S.space.start m

          dists : (v : ℕ) → v < g.nodes → dist g s v ≡ get_or w (D + v) 0
          dists v hv = labels_dist g S.space.valid s S.space.start (cells w D) (places c) labels v hv

          ways : (v : ℕ) → v < g.nodes → count g s v ≡ get_or c v 0
          ways v hv = labels_count g S.space.valid s S.space.start (cells w D) (places c) labels v hv

          place_mem : (i : ℕ) → i < tail → Memᴰ (get_or w (Q + i) 0) (list_of (cells w Q) tail)
          place_mem i l =
              subst (λ (x : ℕ). Memᴰ x (list_of (cells w Q) tail)) (list_at_lem (cells w Q) tail 0 i l)
              (get_or_mem (list_of (cells w Q) tail) i (omega (arith, list_long (cells w Q) tail)))

          in_queue : (i : ℕ) → i < tail → Memᴰ (get_or w (Q + i) 0) (S.done ++ (u ∷ []))
          in_queue i l = subst (λ (l : List ℕ). Memᴰ (get_or w (Q + i) 0) l) q (place_mem i l)

          there : (v : ℕ) → (i : ℕ) × (i < length (list_of (cells w Q) tail)) × (get_or (list_of (cells w Q) tail) i 0 ≡ v) → (i : ℕ) × (i < tail) × (get_or w (Q + i) 0 ≡ v)
          there v r = let l : r.0 < tail = omega (arith, r.1, list_long (cells w Q) tail) in (r.0, l, sym (list_at_lem (cells w Q) tail 0 r.0 l) ∙ r.2)

-- ---- the beginning

pub begin_pre : {g : Graph} {s : ℕ} {w c : List ℕ} {D Q : ℕ} → Space g s w c D Q → BeginPre s D Q w c
begin_pre H =
    record {
      small = omega (arith, H.start, H.valid.few);
      distance = omega (arith, H.start, H.apart, H.room);
      slot = omega (arith, H.start, H.room);
      counted = omega (arith, H.start, H.counts);
    }

pub begun_kept : {g : Graph} {s : ℕ} {w c w' c' : List ℕ} {D Q : ℕ} → Space g s w c D Q → Begun s D Q w c w' c' → Kept g.nodes D Q w c w' c'
begun_kept {g} {s} {w} {c} {w'} {c'} {D} {Q} H B =
    record {
      narrow = subst (λ (t : List ℕ). Frame2 w D g.nodes Q g.nodes t) (sym B.stored) (frame2_set_right Q s (frame2_set_left (D + s) 0 (frame2_none w D g.nodes Q g.nodes) (omega arith) (omega (arith, H.start))) (omega arith) (omega (arith, H.start)));
      wide = subst (λ (t : List ℕ). Front c g.nodes t) (sym B.counted) (front_set s 1 (front_none c g.nodes) H.start);
    }

-- s alone has a distance and a count, and stands first in the queue
pub first : {g : Graph} (limit : ℕ) {s : ℕ} {w c w' c' : List ℕ} {D Q : ℕ} → Space g s w c D Q → Fresh g.nodes w c D → 1 ≤ limit → Begun s D Q w c w' c' → Search g limit s w' c' D Q 0 1 (get_or w' (Q + 0) 0) 0
unfolding list_of
first {g} limit {s} {w} {c} {w'} {c'} {D} {Q} H F l B = subst (λ (x : ℕ). Search g limit s w' c' D Q 0 1 x 0) (sym (node_at begun)) begun
  where
    in_w : D + s < length w
    in_w = omega (arith, H.start, H.apart, H.room)

    long_w : length w' ≡ length w
    long_w = ap length B.stored ∙ length-set (set w (D + s) 0) Q s ∙ length-set w (D + s) 0

    d_other : (v : ℕ) → v < g.nodes → v ≢ s → get_or w' (D + v) 0 ≡ unreached
    d_other v hv n = ap (λ (t : List ℕ). get_or t (D + v) 0) B.stored ∙ miss (set w (D + s) 0) Q s (D + v) (λ e. omega (arith, H.apart)) ∙ miss w (D + s) 0 (D + v) (λ e. n (omega arith)) ∙ F.far v hv

    d_start : get_or w' (D + s) 0 ≡ 0
    d_start = ap (λ (t : List ℕ). get_or t (D + s) 0) B.stored ∙ miss (set w (D + s) 0) Q s (D + s) (λ e. omega (arith, H.start, H.apart)) ∙ hit w (D + s) 0 (D + s) refl in_w

    c_other : (v : ℕ) → v < g.nodes → v ≢ s → get_or c' v 0 ≡ 0
    c_other v hv n = ap (λ (t : List ℕ). get_or t v 0) B.counted ∙ miss c s 1 v n ∙ F.none v hv

    c_start : get_or c' s 0 ≡ 1
    c_start = ap (λ (t : List ℕ). get_or t s 0) B.counted ∙ hit c s 1 s refl (omega (arith, H.start, H.counts))

    q_first : get_or w' (Q + 0) 0 ≡ s
    q_first = ap (λ (t : List ℕ). get_or t (Q + 0) 0) B.stored ∙ hit (set w (D + s) 0) Q s (Q + 0) (add-zero Q) (omega (arith, H.start, H.room, length-set w (D + s) 0))

    small' : (v : ℕ) → v < g.nodes → (v ≡ s) ⊎ (v ≢ s) → get_or c' v 0 ≤ limit
    small' v hv (inl e) = omega (arith, ap (places c') e, c_start)
    small' v hv (inr n) = omega (arith, c_other v hv n)

    begun : Search g limit s w' c' D Q 0 1 s 0
    begun =
        record {
          space = space_after H w' c' long_w (ap length B.counted ∙ length-set c s 1) (λ i h. ap (λ (t : List ℕ). get_or t i 0) B.stored ∙ miss (set w (D + s) 0) Q s i (λ e. omega (arith, H.apart)) ∙ miss w (D + s) 0 i (λ e. omega arith));
          done = [];
          rest = [];
          queue = ap (λ (x : ℕ). x ∷ []) q_first;
          passed = refl;
          small = λ v hv. small' v hv (eq_or_ne v s);
          mid = begin g s (cells w' D) (places c') H.start d_start c_start d_other c_other;
        }
