-- Taking back what a start left: node by node of its queue, until no node has a predecessor entry or a delta. Assumes nothing.
use Rattle.std.proofs.Common.{◌≡◌, ℕ, ◌+◌, ◌<◌, ◌≢◌, ◌⊎◌, List, length, get_or, set, sym, refl, ap, ◌∙◌, inl, inr, arith, length-set}
use lib.Ieee.{Float, nan}
use Rattle.regions.specs.Region.{zero_f}
use Rattle.regions.proofs.Fronts.{hit, miss, hit_d, miss_d}
use Rattle.hops.proofs.Sums.{eq_or_ne}
use Rattle.predecessors.specs.declared.Tracks.{Tracks}
use Rattle.brandes.specs.Steps.{ReleasePre, Released}

-- what a turn reads and writes lies in the slices
pub record Turn (t : Tracks) (i : ℕ) (w : List ℕ) (wf : List Float) : Type 0 where
  pub slot : t.places.queue + i < length w
  pub offset : t.first + get_or w (t.places.queue + i) 0 < length w
  pub end : t.last + get_or w (t.places.queue + i) 0 < length w
  pub delta : t.places.nodes + get_or w (t.places.queue + i) 0 < length wf

module _ {t : Tracks} {tail : ℕ} {w₀ : List ℕ} {wf₀ : List Float} (pre : ReleasePre t tail w₀ wf₀) {i : ℕ} {w : List ℕ} {wf : List Float} (R : Released t i w₀ wf₀ w wf) (l : i < tail) where
  queue_kept : get_or w (t.places.queue + i) 0 ≡ get_or w₀ (t.places.queue + i) 0
  queue_kept = R.kept (t.places.queue + i) (λ k h e. omega (arith, pre.before, pre.firsts))

  node : get_or w (t.places.queue + i) 0 < t.places.nodes
  node = omega (arith, queue_kept, pre.queued i l)

  pub turn : Turn t i w wf
  turn =
      record {
        slot = omega (arith, R.long, pre.before, pre.firsts, pre.lasts);
        offset = omega (arith, R.long, node, pre.firsts, pre.lasts);
        end = omega (arith, R.long, node, pre.lasts);
        delta = omega (arith, R.long_floats, node, pre.floats);
      }

  first_kept : (x : ℕ) → x < t.places.nodes → get_or w (t.first + x) 0 ≡ get_or w₀ (t.first + x) 0
  first_kept x h = R.kept (t.first + x) (λ k q e. omega (arith, pre.firsts))

  pub released_more : Released t (i + 1) w₀ wf₀ (set w (t.last + get_or w (t.places.queue + i) 0) (get_or w (t.first + get_or w (t.places.queue + i) 0) 0)) (set wf (t.places.nodes + get_or w (t.places.queue + i) 0) zero_f)
  released_more =
      record {
        long = length-set w (t.last + v) (get_or w (t.first + v) 0) ∙ R.long;
        long_floats = length-set wf (t.places.nodes + v) zero_f ∙ R.long_floats;
        ends = λ k h. ends' k h (eq_or_ne (get_or w₀ (t.places.queue + k) 0) v) (eq_or_ne k i);
        deltas = λ k h. deltas' k h (eq_or_ne (get_or w₀ (t.places.queue + k) 0) v) (eq_or_ne k i);
        kept = λ k h. miss w (t.last + v) (get_or w (t.first + v) 0) k (λ e. h i (omega arith) (omega (arith, queue_kept))) ∙ R.kept k (λ j q. h j (omega arith));
        kept_floats = λ k h. miss_d wf (t.places.nodes + v) zero_f k nan (λ e. h i (omega arith) (omega (arith, queue_kept))) ∙ R.kept_floats k (λ j q. h j (omega arith));
      }
    where
      v : ℕ
      v = get_or w (t.places.queue + i) 0

      same : (k : ℕ) → k ≡ i → get_or w₀ (t.places.queue + k) 0 ≡ v
      same k e = ap (λ (x : ℕ). get_or w₀ (t.places.queue + x) 0) e ∙ sym queue_kept

      ends' : (k : ℕ) → k < i + 1 → (get_or w₀ (t.places.queue + k) 0 ≡ v) ⊎ (get_or w₀ (t.places.queue + k) 0 ≢ v) → (k ≡ i) ⊎ (k ≢ i) → get_or (set w (t.last + v) (get_or w (t.first + v) 0)) (t.last + get_or w₀ (t.places.queue + k) 0) 0 ≡ get_or w₀ (t.first + get_or w₀ (t.places.queue + k) 0) 0
      ends' k h (inl e) d =
          hit w (t.last + v) (get_or w (t.first + v) 0) (t.last + get_or w₀ (t.places.queue + k) 0) (ap (λ (x : ℕ). t.last + x) e) (omega (arith, turn.end))
          ∙ first_kept v node ∙ ap (λ (x : ℕ). get_or w₀ (t.first + x) 0) (sym e)
      ends' k h (inr m) (inl e) = absurd (m (same k e))
      ends' k h (inr m) (inr d) = miss w (t.last + v) (get_or w (t.first + v) 0) (t.last + get_or w₀ (t.places.queue + k) 0) (λ e. m (omega arith)) ∙ R.ends k (omega arith)

      deltas' : (k : ℕ) → k < i + 1 → (get_or w₀ (t.places.queue + k) 0 ≡ v) ⊎ (get_or w₀ (t.places.queue + k) 0 ≢ v) → (k ≡ i) ⊎ (k ≢ i) → get_or (set wf (t.places.nodes + v) zero_f) (t.places.nodes + get_or w₀ (t.places.queue + k) 0) nan ≡ zero_f
      deltas' k h (inl e) d = hit_d wf (t.places.nodes + v) zero_f (t.places.nodes + get_or w₀ (t.places.queue + k) 0) nan (ap (λ (x : ℕ). t.places.nodes + x) e) (omega (arith, turn.delta))
      deltas' k h (inr m) (inl e) = absurd (m (same k e))
      deltas' k h (inr m) (inr d) = miss_d wf (t.places.nodes + v) zero_f (t.places.nodes + get_or w₀ (t.places.queue + k) 0) nan (λ e. m (omega arith)) ∙ R.deltas k (omega arith)
