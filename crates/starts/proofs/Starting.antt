-- One start: from the workspace between two starts through search, accumulation and taking back to the next. Of the accumulation only where it writes
-- and which deltas it keeps matters to what comes after. Assumes nothing.
use mathlib.Core.Path.{◌≡◌, refl, sym, ap, ◌∙◌}
use mathlib.Core.Logic.{◌≢◌, ◌⊎◌, inl, inr, ⊎_elim}
use mathlib.Core.Bool.{true, false}
use mathlib.Core.List.{List, [], foldr, Memᴰ}
use Prim.Native.Nat.{ℕ, ◌+◌, ◌*◌, ◌≤◌, ◌<◌}
use native.Mathlib.Omega.{arith}
use lib.ListN.{length, get_or, replicate, length-replicate, get_or-replicate}
use lib.Ieee.{Float, nan}
use Rattle.regions.specs.Doubles.{double}
use Rattle.regions.specs.Region.{zero_f, list_of, part, Front}
use Rattle.regions.proofs.Fronts.{list_long, front_by, front_none, front_then, front_wide}
use Rattle.regions.proofs.Parts.{list_at_lem}
use Rattle.graph.specs.Edges.{Graph}
use Rattle.graph.specs.Fronts.{usual_fronts}
use Rattle.graph.specs.Layout.{distances_at, queue_at, incoming_at, filled_at}
use Rattle.hops.specs.Hops.{unreached, dist, count, exceeds, path_limit}
use Rattle.hops.specs.Search.{Found, TooMany, Forgotten}
use Rattle.hops.proofs.Sums.{eq_or_ne}
use Rattle.hops.proofs.Dist.{dist_cases}
use Rattle.hops.proofs.Search.{space_after}
use Rattle.hops.proofs.Forgetting.{fresh_again, forgotten_kept, space_again}
use Rattle.hops.proofs.Limits.{within_limit, exceeds_exactly}
use Rattle.predecessors.specs.Order.{order, predecessors}
use Rattle.brandes.specs.Shares.{sums, from_start}
use Rattle.brandes.specs.Steps.{held_predecessors, left_by, ReleasePre, Released}
use Rattle.predecessors.specs.Tracks.{Traced, Stays}
use Rattle.predecessors.proofs.Predecessors.{entered_mem}
use Rattle.predecessors.proofs.Holding.{slots_after}
use Rattle.brandes.proofs.Accumulating.{SumsIn}
use Rattle.brandes.proofs.Starts.{order_reached, accumulated, accumulated_front}
use Rattle.brandes.proofs.Deltas.{delta_off, entered_none}
use Rattle.starts.specs.Starts.{tracks_at, Within, Still, Scored}

module _ {g : Graph} {m s : ℕ} {w c : List ℕ} {f : List Float} (S : Still g m w c f)
    {w1 c1 : List ℕ} {tail : ℕ} (stays : Stays g.nodes (tracks_at g.nodes m) w c w1 c1)
    (R : Traced g (tracks_at g.nodes m) s w1 c1 tail) where
  F : Found g path_limit s w1 c1 (distances_at g.nodes m) (queue_at g.nodes m) tail
  F = R.found

  pub not_many : exceeds path_limit g s ≡ false
  not_many = within_limit path_limit g s R.found.small

  -- the accumulation has written within the front
  module _ (f1 : List Float) (front1 : Front f (usual_fronts g.nodes m).floats f1) where
    module _ {w2 c2 : List ℕ} (X : Forgotten tail (distances_at g.nodes m) (queue_at g.nodes m) w1 c1 w2 c2) where
      low2 : (i : ℕ) → i < distances_at g.nodes m → get_or w2 i 0 ≡ get_or w1 i 0
      low2 i l = X.kept i (λ k h e. omega arith)

      high2 : (i : ℕ) → queue_at g.nodes m ≤ i → get_or w2 i 0 ≡ get_or w1 i 0
      high2 i l = X.kept i (λ k h e. omega (arith, (R.found.queued k h).0, R.found.space.apart))

      pub release_pre : ReleasePre (tracks_at g.nodes m) tail w2 f1
      release_pre =
          record {
            before = omega (arith, R.found.taken);
            firsts = omega arith;
            lasts = omega (arith, X.long, R.slots.lasts, R.slots.inside);
            floats = omega (arith, front1.long, S.floats);
            queued = λ i l. omega (arith, high2 (queue_at g.nodes m + i) (omega arith), (R.found.queued i l).0);
          }

      module _ {w3 : List ℕ} {f2 : List Float} (Y : Released (tracks_at g.nodes m) tail w2 f1 w3 f2) where
        low3 : (i : ℕ) → i < filled_at g.nodes m → get_or w3 i 0 ≡ get_or w2 i 0
        low3 i l = Y.kept i (λ k h e. omega arith)

        behind3 : (i : ℕ) → filled_at g.nodes m + g.nodes ≤ i → get_or w3 i 0 ≡ get_or w2 i 0
        behind3 i l = Y.kept i (λ k h e. omega (arith, release_pre.queued k h))

        offset3 : (x : ℕ) → x ≤ g.nodes → get_or w3 (incoming_at g.nodes m + x) 0 ≡ get_or w1 (incoming_at g.nodes m + x) 0
        offset3 x h = low3 (incoming_at g.nodes m + x) (omega arith) ∙ high2 (incoming_at g.nodes m + x) (omega arith)

        -- what stands before the distances is as it was
        pub low_next : (i : ℕ) → i < distances_at g.nodes m → get_or w3 i 0 ≡ get_or w i 0
        low_next i l = low3 i (omega arith) ∙ low2 i l ∙ stays.rows i l

        queue2 : (i : ℕ) → get_or w2 (queue_at g.nodes m + i) 0 ≡ get_or w1 (queue_at g.nodes m + i) 0
        queue2 i = high2 (queue_at g.nodes m + i) (omega arith)

        -- a node that was not reached is not in the queue
        off : (x : ℕ) → dist g s x ≡ unreached → (i : ℕ) → i < tail → x ≢ get_or w2 (queue_at g.nodes m + i) 0
        off x e i l p = (R.found.queued i l).1 (ap (dist g s) (sym (p ∙ queue2 i)) ∙ e)

        -- and has no predecessor entry
        none_entered : (x : ℕ) → dist g s x ≡ unreached → predecessors g s x ≡ []
        none_entered x e = entered_none g (dist g s) x (order g s) (λ v m. far v m)
          where
            far : (v : ℕ) → Memᴰ v (order g s) → dist g s v + 1 ≢ dist g s x
            far v m p =
                ⊎_elim (λ q. omega (arith, q.0, S.few)) (λ q. omega (arith, q.0))
                (dist_cases g R.found.space.valid.inside s v R.found.space.start)

        ends3 : (x : ℕ) → x < g.nodes → (dist g s x ≡ unreached) ⊎ (dist g s x ≢ unreached) → get_or w3 (filled_at g.nodes m + x) 0 ≡ get_or w3 (incoming_at g.nodes m + x) 0
        ends3 x h (inl e) =
            Y.kept (filled_at g.nodes m + x) (λ i l p. off x e i l (omega arith))
            ∙ high2 (filled_at g.nodes m + x) (omega arith)
            ∙ R.holding.filled x h
            ∙ omega (arith, ap length (none_entered x e), offset3 x (omega arith))
        ends3 x h (inr n) = go (R.found.reached x h n)
          where
            go : (i : ℕ) × (i < tail) × (get_or w1 (queue_at g.nodes m + i) 0 ≡ x) → get_or w3 (filled_at g.nodes m + x) 0 ≡ get_or w3 (incoming_at g.nodes m + x) 0
            go (i, l, e) =
                let q : get_or w2 (queue_at g.nodes m + i) 0 ≡ x = queue2 i ∙ e in
                ap (λ (y : ℕ). get_or w3 (filled_at g.nodes m + y) 0) (sym q)
                ∙ Y.ends i l
                ∙ ap (λ (y : ℕ). get_or w2 (incoming_at g.nodes m + y) 0) q
                ∙ sym (low3 (incoming_at g.nodes m + x) (omega arith))

        pub within_next : Within g.nodes m w c f w3 c2 f2
        within_next =
            record {
              narrow =
                  front_by 0 (Y.long ∙ X.long ∙ stays.long)
                  (λ j l. behind3 j (omega arith) ∙ high2 j (omega arith) ∙ stays.behind j (omega (arith, S.top)));
              wide = front_wide (2 * g.nodes) (omega arith) (front_then stays.wide (forgotten_kept R.found X).wide);
              floats = front_then front1 (front_by nan Y.long_floats (λ j l. Y.kept_floats j (λ i h e. omega (arith, release_pre.queued i h))));
            }

        -- and a node that was not reached has kept its delta
        module _ (kept-delta : (x : ℕ) → x < g.nodes → dist g s x ≡ unreached → get_or f1 (g.nodes + x) nan ≡ zero_f) where
          deltas3 : (x : ℕ) → x < g.nodes → (dist g s x ≡ unreached) ⊎ (dist g s x ≢ unreached) → get_or f2 (g.nodes + x) nan ≡ zero_f
          deltas3 x h (inl e) = Y.kept_floats (g.nodes + x) (λ i l p. off x e i l (omega arith)) ∙ kept-delta x h e
          deltas3 x h (inr n) = go (R.found.reached x h n)
            where
              go : (i : ℕ) × (i < tail) × (get_or w1 (queue_at g.nodes m + i) 0 ≡ x) → get_or f2 (g.nodes + x) nan ≡ zero_f
              go (i, l, e) = ap (λ (y : ℕ). get_or f2 (g.nodes + y) nan) (sym (queue2 i ∙ e)) ∙ Y.deltas i l

          pub still_next : Still g m w3 c2 f2
          still_next =
              record {
                few = S.few;
                space = λ t h. space_after (space_again R.found X h) w3 c2 Y.long refl (λ i l. low3 i (omega arith));
                slots =
                    slots_after (slots_after R.slots w2 X.long (λ i a b. high2 i (omega arith))) w3 Y.long
                    (λ i a b. low3 i b);
                top = omega (arith, S.top, offset3 g.nodes (omega arith), stays.offsets (incoming_at g.nodes m + g.nodes) (omega arith) (omega arith));
                fresh =
                    let fr = fresh_again R.found X in
                    record { far = λ v h. low3 (distances_at g.nodes m + v) (omega arith) ∙ fr.far v h; none = fr.none };
                empty = λ x h. ends3 x h (eq_or_ne (dist g s x) unreached);
                floats = omega (arith, Y.long_floats, front1.long, S.floats);
                deltas = λ x h. deltas3 x h (eq_or_ne (dist g s x) unreached);
              }

  -- ---- the accumulation of scores

  module _ (f1 : List Float) (acc : f1 ≡ foldr (left_by g.nodes c1 (held_predecessors (tracks_at g.nodes m) w1) s) f (part w1 (queue_at g.nodes m) tail)) where
    pub score_front : Front f (usual_fronts g.nodes m).floats f1
    score_front = front_wide (usual_fronts g.nodes m).floats (omega arith) (accumulated_front R f f1 acc)

    -- the sums that the accumulation began with
    began : (scores : List Float) → Scored g.nodes f scores → SumsIn g.nodes f (sums (replicate g.nodes zero_f) scores)
    began scores C =
        record {
          room = S.floats;
          deltas = length-replicate g.nodes zero_f;
          totals = C.long;
          delta = λ v h. S.deltas v h ∙ sym (get_or-replicate g.nodes v zero_f nan h);
          score = C.at;
        }

    ended : (scores : List Float) → Scored g.nodes f scores → SumsIn g.nodes f1 (from_start g s scores)
    unfolding from_start
    ended scores C = accumulated R f f1 acc (began scores C)

    -- whatever the scores are, a node that was not reached keeps its delta
    now_scored : Scored g.nodes f (list_of (λ v. get_or f v nan) g.nodes)
    now_scored = record { long = list_long (λ v. get_or f v nan) g.nodes; at = λ v h. sym (list_at_lem (λ v. get_or f v nan) g.nodes nan v h) }

    pub score_kept : (x : ℕ) → x < g.nodes → dist g s x ≡ unreached → get_or f1 (g.nodes + x) nan ≡ zero_f
    unfolding from_start
    score_kept x h e =
        (ended (list_of (λ v. get_or f v nan) g.nodes) now_scored).delta x h
        ∙ delta_off (λ v. double (count g s v)) (predecessors g s) s x (order g s) (λ u m y k p. order_reached R y (entered_mem g (dist g s) u (order g s) y k) (ap (dist g s) (sym p) ∙ e)) (sums (replicate g.nodes zero_f) (list_of (λ v. get_or f v nan) g.nodes))
        ∙ get_or-replicate g.nodes x zero_f nan h

    pub scored_next : {w2 w3 : List ℕ} {f2 : List Float} → Released (tracks_at g.nodes m) tail w2 f1 w3 f2
        → (scores : List Float) → Scored g.nodes f scores → Scored g.nodes f2 (from_start g s scores).scores
    scored_next Y scores C =
        record {
          long = (ended scores C).totals;
          at = λ v h. Y.kept_floats v (λ i l e. omega arith) ∙ (ended scores C).score v h;
        }

-- a path count is above the limit
module _ {g : Graph} {m : ℕ} {w c : List ℕ} {f : List Float} (S : Still g m w c f)
    {w1 c1 : List ℕ} (stays : Stays g.nodes (tracks_at g.nodes m) w c w1 c1) where
  pub within_paths : Within g.nodes m w c f w1 c1 f
  within_paths =
      record {
        narrow = front_by 0 stays.long (λ j l. stays.behind j (omega (arith, S.top)));
        wide = front_wide (2 * g.nodes) (omega arith) stays.wide;
        floats = front_none f (6 * g.nodes + 4 * m);
      }

pub many : {g : Graph} {s : ℕ} → TooMany g path_limit s → exceeds path_limit g s ≡ true
many {g} {s} t = (exceeds_exactly path_limit g s).1 t
