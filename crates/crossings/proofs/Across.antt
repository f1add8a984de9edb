-- From a search that is over, with the pairs of its predecessor entries, to the accumulation: what it asks, and what it comes to by the definitions.
-- Assumes nothing.
use Rattle.std.proofs.Common.{◌≡◌, ℕ, ◌+◌, ◌-◌, ◌<◌, ◌≤◌, Bool, true, false, cond, eqb, ◌≢◌, ◌⊎◌, List, [], ◌∷◌, ◌++◌, map, length, get_or, replicate, sym, ap, ◌∙◌, subst, inl, inr, arith, ext_get_or}
use mathlib.Core.List.Memᴰ
use mathlib.Core.List.{foldr, Memᴰ}
use lib.ListN.{length-replicate, get_or-replicate, length-map, get_or-map}
use lib.Ieee.{Float, nan}
use Rattle.regions.specs.Doubles.{double}
use Rattle.regions.specs.Region.{zero_f, part, Frame2}
use Rattle.regions.proofs.Parts.{part_long, part_at}
use Rattle.regions.proofs.Fronts.{get_d_any}
use Rattle.regions.proofs.Frames.{frame2_by}
use Rattle.graph.specs.Edges.{Graph, entries, only}
use Rattle.hops.specs.Hops.{unreached, dist, count}
use Rattle.hops.proofs.Sums.{eq_or_ne, eqb_no}
use Rattle.hops.proofs.Search.{get_or_mem}
use Rattle.predecessors.specs.Order.{order, predecessors, copies, entered_by, entered}
use Rattle.brandes.specs.Steps.{held_predecessors}
use Rattle.predecessors.specs.Tracks.{Traced}
use Rattle.predecessors.proofs.Predecessors.{by_mem, entered_mem}
use Rattle.brandes.proofs.Starts.{order_reached, order_in, entries_in, held_is, queue_is, entries_held, accumulate_pre}
use Rattle.pair_search.specs.declared.PairTracks.{PairTracks}
use Rattle.pair_search.specs.Pairs.{HeldPairs}
use Rattle.crossings.specs.Totals.{Totals, leave_by}
use Rattle.crossings.specs.Crossings.{held_pairs, left_across, AcrossPre}
use Rattle.crossings.proofs.Crossing.{totals, TotalsIn, totals_held, left_off, left_long}

-- ---- a predecessor entry of w is a node with an entry w

copies_lead : (v w : ℕ) (xs : List ℕ) (y : ℕ) → Memᴰ y (copies v w xs) → Memᴰ w xs
unfolding copies
copies_lead v w [] y m = absurd (Memᴰ.not-nil m)
copies_lead v w (x ∷ xs) y m = go (eq_or_ne x w) (copies_lead v w xs y)
  where
    go : (x ≡ w) ⊎ (x ≢ w) → (Memᴰ y (copies v w xs) → Memᴰ w xs) → Memᴰ w (x ∷ xs)
    go (inl e) ih = Memᴰ.head (sym e)
    go (inr n) ih = Memᴰ.tail (ih (subst (λ (b : Bool). Memᴰ y (only b v ++ copies v w xs)) (eqb_no n) m))

by_lead : (d : ℕ → ℕ) (w v : ℕ) (seen : List ℕ) (y : ℕ) → Memᴰ y (entered_by d w v seen) → Memᴰ w seen
by_lead d w v seen y = go (eqb (d v + 1) (d w))
  where
    go : (b : Bool) → Memᴰ y (cond b (copies v w seen) []) → Memᴰ w seen
    go true m = copies_lead v w seen y m
    go false m = absurd (Memᴰ.not-nil m)

pub entered_lead : (g : Graph) (d : ℕ → ℕ) (w : ℕ) (vs : List ℕ) (y : ℕ) → Memᴰ y (entered g d w vs) → Memᴰ w (entries g y)
unfolding entered
entered_lead g d w [] y m = absurd (Memᴰ.not-nil m)
entered_lead g d w (v ∷ vs) y m = go (Memᴰ.append_cases (entered_by d w v (entries g v)) m) (entered_lead g d w vs y)
  where
    go : Memᴰ y (entered_by d w v (entries g v)) ⊎ Memᴰ y (entered g d w vs) → (Memᴰ y (entered g d w vs) → Memᴰ w (entries g y)) → Memᴰ w (entries g y)
    go (inl k) ih = subst (λ (u : ℕ). Memᴰ w (entries g u)) (sym (by_mem d w v (entries g v) y k)) (by_lead d w v (entries g v) y k)
    go (inr k) ih = ih k

module _ (number : ℕ → ℕ → ℕ) (pt : PairTracks) {g : Graph} {s : ℕ} {w c : List ℕ} {tail : ℕ} (same : pt.tracks.places.nodes ≡ g.nodes) (R : Traced g pt.tracks s w c tail)
    (H : HeldPairs g.nodes pt number w (predecessors g s)) (before : pt.pairs ≤ pt.tracks.base) where
  leads : (x : ℕ) → x < g.nodes → (y : ℕ) → Memᴰ y (predecessors g s x) → (y < g.nodes) × Memᴰ x (entries g y)
  leads x h y m = (entries_in R x h y m, entered_lead g (dist g s) x (order g s) y m)

  -- ---- what the accumulation asks

  -- the pair beside a predecessor entry of x has a number with a place
  beside_in : (t : ℕ) {len : ℕ} → ((a b : ℕ) → a < g.nodes → Memᴰ b (entries g a) → t + number a b < len) → (x k : ℕ) → x < g.nodes → get_or w (pt.tracks.first + x) 0 ≤ k → k < get_or w (pt.tracks.last + x) 0 → t + get_or w (pt.pairs + k) 0 < len
  beside_in t {len} inside x k h a b =
      let i : k - get_or w (pt.tracks.first + x) 0 < length (predecessors g s x) = omega (arith, R.holding.filled x h) in
      let e : get_or w (pt.tracks.first + x) 0 + (k - get_or w (pt.tracks.first + x) 0) ≡ k = omega arith in
      let p = leads x h (get_or (predecessors g s x) (k - get_or w (pt.tracks.first + x) 0) 0) (get_or_mem (predecessors g s x) (k - get_or w (pt.tracks.first + x) 0) i) in
      subst (λ (y : ℕ). t + y < len) (sym (H x (k - get_or w (pt.tracks.first + x) 0) h i) ∙ ap (λ (z : ℕ). get_or w (pt.pairs + z) 0) e) (inside _ x p.0 p.1)

  pub across_pre : {wf : List Float} → g.nodes + g.nodes ≤ pt.table.totals → g.nodes + g.nodes ≤ length wf → ((a b : ℕ) → a < g.nodes → Memᴰ b (entries g a) → pt.table.totals + number a b < length wf)
      → AcrossPre pt tail w c wf
  across_pre {wf} behind room inside =
      let A = accumulate_pre R same {wf = wf} room in
      record {
        held = record { kept = A.kept; before = before; deltas = omega (arith, same); totals = λ x k h a b. beside_in pt.table.totals inside x k (omega (arith, same)) a b };
        room = A.room;
        queued = A.queued;
        counts = A.counts;
        floats = A.floats;
      }

  -- ---- what it comes to

  pairs_are : (x : ℕ) → x < g.nodes → held_pairs pt w x ≡ map (λ v. number v x) (predecessors g s x)
  pairs_are x h =
      let size : get_or w (pt.tracks.last + x) 0 - get_or w (pt.tracks.first + x) 0 ≡ length (predecessors g s x) = omega (arith, R.holding.filled x h) in
      let room : pt.pairs + get_or w (pt.tracks.first + x) 0 + (get_or w (pt.tracks.last + x) 0 - get_or w (pt.tracks.first + x) 0) ≤ length w = omega (arith, before, R.holding.filled x h, (entries_held R same).inside x (omega (arith, same))) in
      let len = part_long w (pt.pairs + get_or w (pt.tracks.first + x) 0) (get_or w (pt.tracks.last + x) 0 - get_or w (pt.tracks.first + x) 0) room ∙ size in
      ext_get_or 0 (held_pairs pt w x) (map (λ v. number v x) (predecessors g s x)) (len ∙ sym (length-map (predecessors g s x) (λ v. number v x)))
      (λ k l.
      let e : pt.pairs + get_or w (pt.tracks.first + x) 0 + k ≡ pt.pairs + (get_or w (pt.tracks.first + x) 0 + k) = omega arith in
      let m : k < length (predecessors g s x) = omega (arith, l, len) in
      part_at w (pt.pairs + get_or w (pt.tracks.first + x) 0) (get_or w (pt.tracks.last + x) 0 - get_or w (pt.tracks.first + x) 0) 0 k (omega (arith, m, size))
      ∙ ap (λ (i : ℕ). get_or w i 0) e
      ∙ H x k h m
      ∙ sym (get_or-map (λ v. number v x) (predecessors g s x) k 0)
      ∙ get_d_any (map (λ v. number v x) (predecessors g s x)) k (number 0 x) 0 (omega (arith, m, length-map (predecessors g s x) (λ v. number v x))))

  module _ (t : ℕ) (behind : g.nodes + g.nodes ≤ t) (wf wf' : List Float)
      (e : wf' ≡ foldr (left_across g.nodes t c (held_predecessors pt.tracks w) (held_pairs pt w)) wf (part w pt.tracks.places.queue tail)) where
    whole : wf' ≡ foldr (left_across g.nodes t c (held_predecessors pt.tracks w) (held_pairs pt w)) wf (order g s)
    whole = e ∙ ap (foldr (left_across g.nodes t c (held_predecessors pt.tracks w) (held_pairs pt w)) wf) (queue_is R)

    module _ (apart : (v x a b : ℕ) → v < g.nodes → a < g.nodes → Memᴰ x (entries g v) → Memᴰ b (entries g a) → number v x ≡ number a b → (v ≡ a) × (x ≡ b)) where
      -- delta and totals as the definition has them
      pub crossed_totals : {x : Totals} → TotalsIn g.nodes t number (entries g) wf x
          → TotalsIn g.nodes t number (entries g) wf' (foldr (leave_by (λ v. double (count g s v)) (predecessors g s)) x (order g s))
      crossed_totals {x} S =
          subst (λ (f : List Float). TotalsIn g.nodes t number (entries g) f (foldr (leave_by (λ v. double (count g s v)) (predecessors g s)) x (order g s))) (sym whole)
          (totals_held behind apart c (λ v. double (count g s v)) (λ v h. ap double (R.found.ways v h)) (held_predecessors pt.tracks w) (held_pairs pt w) (predecessors g s) (held_is R) pairs_are leads (order g s) (order_in R) S)

      -- from delta +0.0 at each node
      pub total_is : {total : ℕ → ℕ → Float} → g.nodes + g.nodes ≤ length wf → ((a b : ℕ) → a < g.nodes → Memᴰ b (entries g a) → t + number a b < length wf)
          → ((v : ℕ) → v < g.nodes → get_or wf (g.nodes + v) nan ≡ zero_f) → ((a b : ℕ) → a < g.nodes → Memᴰ b (entries g a) → get_or wf (t + number a b) nan ≡ total a b)
          → (a b : ℕ) → a < g.nodes → Memᴰ b (entries g a)
          → get_or wf' (t + number a b) nan ≡ (foldr (leave_by (λ v. double (count g s v)) (predecessors g s)) (totals (replicate g.nodes zero_f) total) (order g s)).total a b
      total_is {total} room inside deltas held =
          (crossed_totals {x = totals (replicate g.nodes zero_f) total}
          (record {
            room = room;
            deltas = length-replicate g.nodes zero_f;
            inside = inside;
            delta = λ v h. deltas v h ∙ sym (get_or-replicate g.nodes v zero_f nan h);
            total = held;
          })
          ).total

    -- ---- what stays

    -- what a node that leaves takes from its predecessor entries
    off : (j : ℕ) → ((x : ℕ) → Memᴰ x (order g s) → (y : ℕ) → Memᴰ y (predecessors g s x) → (j ≢ g.nodes + y) × (j ≢ t + number y x)) → get_or wf' j nan ≡ get_or wf j nan
    off j h =
        ap (λ (f : List Float). get_or f j nan) whole
        ∙ left_off g.nodes t c (held_predecessors pt.tracks w) (held_pairs pt w) j (order g s)
        (λ x m y k. (h x m y (subst (λ (l : List ℕ). Memᴰ y l) (held_is R x (order_in R x m)) k)).0) (λ x m p k. pair x m p (Memᴰ.of_map (λ v. number v x) (predecessors g s x) (subst (λ (l : List ℕ). Memᴰ p l) (pairs_are x (order_in R x m)) k))) wf
      where
        pair : (x : ℕ) → Memᴰ x (order g s) → (p : ℕ) → (a : ℕ) × Memᴰ a (predecessors g s x) × (number a x ≡ p) → j ≢ t + p
        pair x m p (a, k, q) r = (h x m a k).1 (r ∙ ap (λ (z : ℕ). t + z) (sym q))

    -- a node that was not reached keeps its delta
    pub crossed_delta : (x : ℕ) → x < g.nodes → dist g s x ≡ unreached → get_or wf' (g.nodes + x) nan ≡ get_or wf (g.nodes + x) nan
    crossed_delta x h far =
        off (g.nodes + x)
        (λ u m y k. (λ p. let q : y ≡ x = omega arith in order_reached R y (entered_mem g (dist g s) u (order g s) y k) (ap (dist g s) q ∙ far), λ p. omega arith))

    -- nothing changes but deltas and totals
    pub crossed_frame : (bound : ℕ) → ((a b : ℕ) → a < g.nodes → Memᴰ b (entries g a) → number a b < bound) → Frame2 wf g.nodes g.nodes t bound wf'
    crossed_frame bound low =
        frame2_by nan (ap length whole ∙ left_long g.nodes t c (held_predecessors pt.tracks w) (held_pairs pt w) (order g s) wf)
        (λ j a b. off j (λ x m y k. let l = leads x (order_in R x m) y k in (λ p. a (omega arith) (omega (arith, l.0)), λ p. b (omega arith) (omega (arith, low y x l.0 l.1)))))
