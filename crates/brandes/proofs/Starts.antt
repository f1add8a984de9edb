-- From a search that is over to the accumulation: what it asks, and what it comes to by the definitions. Assumes nothing.
use Rattle.std.proofs.Common.{◌≡◌, ℕ, zero, suc, ◌+◌, ◌-◌, ◌<◌, ◌≤◌, ◌≢◌, ◌⊎◌, List, [], ◌∷◌, length, get_or, sym, ap, ◌∙◌, subst, inl, inr, arith, ext_get_or}
use mathlib.Core.List.Memᴰ
use mathlib.Core.List.{foldr, Memᴰ}
use lib.Ieee.{Float}
use Rattle.regions.specs.Doubles.{double}
use Rattle.regions.specs.Region.{list_of, part, Front}
use Rattle.regions.proofs.Parts.{part_long, part_at, part_list}
use Rattle.graph.specs.Edges.{Graph}
use Rattle.hops.specs.Hops.{unreached, dist, count}
use Rattle.hops.specs.Search.{cells}
use Rattle.hops.proofs.Search.{get_or_mem}
use Rattle.predecessors.specs.declared.Tracks.{Tracks}
use Rattle.predecessors.specs.Order.{order, predecessors}
use Rattle.brandes.specs.Shares.{Sums, leave}
use Rattle.brandes.specs.Steps.{held_predecessors, left_by, HeldEntries, AccumulatePre}
use Rattle.predecessors.specs.Tracks.{Traced}
use Rattle.predecessors.proofs.Predecessors.{entered_mem}
use Rattle.predecessors.proofs.Holding.{before_next}
use Rattle.brandes.proofs.Accumulating.{SumsIn, all_held, all_front}

-- a member of a list of values is one of them
list_mem : (f : ℕ → ℕ) (n y : ℕ) → Memᴰ y (list_of f n) → (i : ℕ) × (i < n) × (y ≡ f i)
unfolding list_of
list_mem f zero y m = absurd (Memᴰ.not-nil m)
list_mem f (suc n) y m = go (Memᴰ.append_cases (list_of f n) m) (list_mem f n y)
  where
    go : Memᴰ y (list_of f n) ⊎ Memᴰ y (f n ∷ []) → (Memᴰ y (list_of f n) → (i : ℕ) × (i < n) × (y ≡ f i)) → (i : ℕ) × (i < suc n) × (y ≡ f i)
    go (inl k) ih = let r = ih k in (r.0, omega (arith, r.1), r.2)
    go (inr k) ih = (n, omega arith, Memᴰ.eq_of_singleton k)

module _ {g : Graph} {tr : Tracks} {s : ℕ} {w c : List ℕ} {tail : ℕ} (R : Traced g tr s w c tail) where
  -- a node of the order stands in the queue, and is reached
  pub order_reached : (y : ℕ) → Memᴰ y (order g s) → dist g s y ≢ unreached
  order_reached y m = go (list_mem (cells w tr.places.queue) tail y (subst (λ (l : List ℕ). Memᴰ y l) (sym R.order) m))
    where
      go : (i : ℕ) × (i < tail) × (y ≡ get_or w (tr.places.queue + i) 0) → dist g s y ≢ unreached
      go (i, l, e) q = (R.found.queued i l).1 (ap (dist g s) (sym e) ∙ q)

  pub order_in : (y : ℕ) → Memᴰ y (order g s) → y < g.nodes
  order_in y m = go (list_mem (cells w tr.places.queue) tail y (subst (λ (l : List ℕ). Memᴰ y l) (sym R.order) m))
    where
      go : (i : ℕ) × (i < tail) × (y ≡ get_or w (tr.places.queue + i) 0) → y < g.nodes
      go (i, l, e) = omega (arith, (R.found.queued i l).0)

  pub entries_in : (x : ℕ) → x < g.nodes → (y : ℕ) → Memᴰ y (predecessors g s x) → y < g.nodes
  entries_in x h y m = order_in y (entered_mem g (dist g s) x (order g s) y m)

  end_in : (x : ℕ) → x < g.nodes → get_or w (tr.last + x) 0 ≤ get_or w (tr.first + g.nodes) 0
  end_in x h = omega (arith, R.holding.filled x h, R.most x h, before_next R.slots x g.nodes h (omega arith))

  long : (x : ℕ) → x < g.nodes → get_or w (tr.last + x) 0 - get_or w (tr.first + x) 0 ≡ length (predecessors g s x)
  long x h = omega (arith, R.holding.filled x h)

  pub held_is : (x : ℕ) → x < g.nodes → held_predecessors tr w x ≡ predecessors g s x
  held_is x h =
      let room : tr.base + get_or w (tr.first + x) 0 + (get_or w (tr.last + x) 0 - get_or w (tr.first + x) 0) ≤ length w = omega (arith, R.holding.filled x h, end_in x h, R.slots.inside) in
      let len : length (held_predecessors tr w x) ≡ length (predecessors g s x) = part_long w (tr.base + get_or w (tr.first + x) 0) (get_or w (tr.last + x) 0 - get_or w (tr.first + x) 0) room ∙ long x h in
      ext_get_or 0 (held_predecessors tr w x) (predecessors g s x) len
      (λ k l.
      let e : tr.base + get_or w (tr.first + x) 0 + k ≡ tr.base + (get_or w (tr.first + x) 0 + k) = omega arith in
      part_at w (tr.base + get_or w (tr.first + x) 0) (get_or w (tr.last + x) 0 - get_or w (tr.first + x) 0) 0 k (omega (arith, len, long x h))
      ∙ ap (λ (i : ℕ). get_or w i 0) e
      ∙ R.holding.kept x k h (omega (arith, len)))

  queue_in : tr.places.queue + tail ≤ length w
  queue_in = omega (arith, R.found.taken, R.found.space.room)

  pub queue_is : part w tr.places.queue tail ≡ order g s
  queue_is = sym (part_list 0 w tr.places.queue tail queue_in) ∙ R.order

  -- where the search's places are those of the graph's nodes
  module _ (same : tr.places.nodes ≡ g.nodes) where
    pub entries_held : HeldEntries tr w
    entries_held =
        record {
          firsts = omega (arith, R.slots.firsts, R.slots.lasts, R.slots.inside);
          lasts = omega (arith, R.slots.lasts, R.slots.inside);
          ordered = λ x h. omega (arith, R.holding.filled x (omega arith));
          inside = λ x h. omega (arith, end_in x (omega arith), R.slots.inside);
          nodes = λ x k h a b.
              let l : x < g.nodes = omega arith in
              let i : k - get_or w (tr.first + x) 0 < length (predecessors g s x) = omega (arith, R.holding.filled x l) in
              let e : get_or w (tr.first + x) 0 + (k - get_or w (tr.first + x) 0) ≡ k = omega arith in
              let kept = R.holding.kept x (k - get_or w (tr.first + x) 0) l i in
              let inside = entries_in x l (get_or (predecessors g s x) (k - get_or w (tr.first + x) 0) 0) (get_or_mem (predecessors g s x) (k - get_or w (tr.first + x) 0) i) in
              omega (arith, kept, ap (λ (t : ℕ). get_or w (tr.base + t) 0) e, inside);
        }

    pub accumulate_pre : {wf : List Float} → g.nodes + g.nodes ≤ length wf → AccumulatePre tr tail w c wf
    accumulate_pre h =
        record {
          kept = entries_held;
          room = queue_in;
          queued = λ i l. omega (arith, (R.found.queued i l).0);
          counts = omega (arith, R.found.space.counts);
          floats = omega arith;
        }

  module _ (wf wf' : List Float) (e : wf' ≡ foldr (left_by g.nodes c (held_predecessors tr w) s) wf (part w tr.places.queue tail)) where
    whole : wf' ≡ foldr (left_by g.nodes c (held_predecessors tr w) s) wf (order g s)
    whole = e ∙ ap (foldr (left_by g.nodes c (held_predecessors tr w) s) wf) queue_is

    pub accumulated : {x : Sums} → SumsIn g.nodes wf x → SumsIn g.nodes wf' (foldr (leave (λ v. double (count g s v)) (predecessors g s) s) x (order g s))
    accumulated {x} S =
        subst (λ (f : List Float). SumsIn g.nodes f (foldr (leave (λ v. double (count g s v)) (predecessors g s) s) x (order g s))) (sym whole)
        (all_held g.nodes c (λ v. double (count g s v)) (λ v h. ap double (R.found.ways v h)) (held_predecessors tr w) (predecessors g s) held_is entries_in s (order g s) order_in S)

    pub accumulated_front : Front wf (g.nodes + g.nodes) wf'
    accumulated_front =
        subst (λ (f : List Float). Front wf (g.nodes + g.nodes) f) (sym whole)
        (all_front g.nodes c (held_predecessors tr w) s (order g s) order_in (λ x h y m. entries_in x h y (subst (λ (l : List ℕ). Memᴰ y l) (held_is x h) m)) wf)
