-- The turns of the PageRanks' loops over the vectors in the workspace. Assumes nothing.
use Rattle.std.proofs.Common.{◌≡◌, ℕ, ◌+◌, ◌*◌, ◌<◌, ◌≤◌, List, [], length, get_or, set, sym, refl, ap, ◌∙◌, arith}
use mathlib.Core.List.{foldl}
use lib.Ieee.{Float, nan, binary64, mul, div}
use Rattle.regions.specs.Region.{list_of, part, Front, Frame}
use Rattle.regions.proofs.Parts.{part_at, part_is, list_at_lem}
use Rattle.regions.proofs.Fronts.{list_same, front_none, front_wide}
use Rattle.regions.proofs.Frames.{frame_part, front_frame, frame_none, frame_set, store_more}
use Rattle.graph.specs.Layout.{entries_at}
use Rattle.lists.specs.Lists.{Share, share, long_at}
use Rattle.rounds.specs.Rounds.{after}
use Rattle.rounds.specs.Vectors.{entry, current_in, next_in, Vectors}
use Rattle.rounds.proofs.Rounds.{after_none, after_more}
use Rattle.rounds.proofs.Vectors.{current_at, vectors_then, vectors_are}
use Rattle.links.specs.Links.{links_in, share_in, shares_in, weights_at, outs_in, gives, distributes}
use Rattle.links.specs.Steps.{Divided}

-- both vectors as they are
pub vectors_none : (n : ℕ) (w : List Float) {y : List Float} → next_in n w ≡ y → Vectors n w (current_in n w) y w
vectors_none n w e = record { front = front_none w (n + n); current = refl; next = e }

-- ---- what a round reads is kept while it writes
-- the lists, whatever becomes of the four vectors
pub shares_kept : (n : ℕ) (w : List ℕ) {wf wf' : List Float} → Front wf (4 * n) wf' → list_of (shares_in n w wf') n ≡ list_of (shares_in n w wf) n
shares_kept n w {wf} {wf'} front =
    list_same (shares_in n w wf') (shares_in n w wf) n
    (λ v l. list_same (λ k. share_in n w wf' (get_or w v 0 + k)) (λ k. share_in n w wf (get_or w v 0 + k)) (long_at w v)
    (λ k h. ap (share (get_or w (entries_at n + (get_or w v 0 + k)) 0)) (front.rest nan (weights_at n + (get_or w v 0 + k)) (omega arith))))

module _ (n : ℕ) (w : List ℕ) {wf wf' : List Float} (room : 4 * n ≤ length wf) (front : Front wf (n + n) wf') where
  pub region_kept : (b : ℕ) → n + n ≤ b → b + n ≤ 4 * n → part wf' b n ≡ part wf b n
  region_kept b l h = frame_part nan b n (front_frame front) (omega arith) (λ i k p q. omega arith)

  pub outs_kept : outs_in n wf' ≡ outs_in n wf
  outs_kept = region_kept (2 * n) (omega arith) (omega arith)

  pub links_kept : links_in n w wf' ≡ links_in n w wf
  links_kept =
      ap (λ (o : List Float). record { nodes = n; outs = o; shares = list_of (shares_in n w wf') n }) outs_kept
      ∙ ap (λ (x : List (List Share)). record { nodes = n; outs = outs_in n wf; shares = x }) (shares_kept n w (front_wide (4 * n) (omega arith) front))

pub out_at : (n : ℕ) (wf : List Float) (v : ℕ) → v < n → get_or wf (2 * n + v) nan ≡ entry (outs_in n wf) v
out_at n wf v l = sym (part_at wf (2 * n) n nan v l)

-- what `give` did for a node that distributes
module _ (n : ℕ) (w : List ℕ) (d : Float) (v : ℕ) (wf : List Float) (l : v < n) where
  pub distributed : {wf' : List Float}
      → Vectors n wf (current_in n wf) (foldl (gives (div binary64 (mul binary64 d (get_or wf v nan)) (get_or wf (2 * n + v) nan))) (next_in n wf) (shares_in n w wf v)) wf'
      → Vectors n wf (current_in n wf) (distributes (links_in n w wf) d (current_in n wf) v (next_in n wf)) wf'
  unfolding distributes
  distributed s =
      vectors_are refl
      (ap (λ (x : Float). foldl (gives (div binary64 (mul binary64 d x) (get_or wf (2 * n + v) nan))) (next_in n wf) (shares_in n w wf v)) (current_at n wf v l)
      ∙ ap (λ (o : Float). foldl (gives (div binary64 (mul binary64 d (entry (current_in n wf) v)) o)) (next_in n wf) (shares_in n w wf v)) (out_at n wf v l)
      ∙ ap (λ (shares : List Share). foldl (gives (div binary64 (mul binary64 d (entry (current_in n wf) v)) (entry (outs_in n wf) v))) (next_in n wf) shares) (sym (list_at_lem (shares_in n w wf) n [] v l)))
      s

-- ---- a loop over the nodes that changes the next vector
module _ (n : ℕ) (turn : ℕ → List Float → List Float) (wf₀ : List Float) where
  pub nodes_none : Vectors n wf₀ (current_in n wf₀) (after turn 0 (next_in n wf₀)) wf₀
  nodes_none = vectors_none n wf₀ (after_none turn (next_in n wf₀))

  -- one node: y is what it makes of the next vector
  pub nodes_more : {v : ℕ} {wf wf' x y : List Float} → Vectors n wf₀ (current_in n wf₀) (after turn v (next_in n wf₀)) wf → Vectors n wf x y wf'
      → x ≡ current_in n wf → y ≡ turn v (next_in n wf) → Vectors n wf₀ (current_in n wf₀) (after turn (v + 1) (next_in n wf₀)) wf'
  nodes_more {v} {wf} s t ex ey =
      vectors_then s (vectors_are (ex ∙ s.current) (ey ∙ after_more turn v (next_in n wf₀) (next_in n wf) s.next) t)

  pub nodes_done : {v : ℕ} {wf : List Float} → v ≡ n → Vectors n wf₀ (current_in n wf₀) (after turn v (next_in n wf₀)) wf → Vectors n wf₀ (current_in n wf₀) (after turn n (next_in n wf₀)) wf
  nodes_done e s = vectors_are refl (ap (λ (k : ℕ). after turn k (next_in n wf₀)) e) s

-- ---- `divide`
-- after i nodes
pub record Dividing (n base : ℕ) (f : ℕ → Float) (wf₀ : List Float) (i : ℕ) (wf : List Float) : Type 0 where
  pub frame : Frame wf₀ base n wf
  pub at : (k : ℕ) → k < i → get_or wf (base + k) nan ≡ f k

module _ (n base : ℕ) (f : ℕ → Float) (wf₀ : List Float) (room : base + n ≤ length wf₀) where
  pub dividing_none : Dividing n base f wf₀ 0 wf₀
  dividing_none = record { frame = frame_none wf₀ base n; at = λ k h. absurd (omega arith) }

  pub dividing_more : (i : ℕ) (wf : List Float) {a : Float} → i < n → a ≡ f i → Dividing n base f wf₀ i wf → Dividing n base f wf₀ (i + 1) (set wf (base + i) a)
  dividing_more i wf {a} l e s =
      record {
        frame = frame_set (base + i) a s.frame (omega arith) (omega arith);
        at = store_more (λ k z. z ≡ f k) nan wf base i a (omega (arith, s.frame.long)) s.at e;
      }

  pub dividing_done : (i : ℕ) (wf : List Float) → i ≡ n → Dividing n base f wf₀ i wf → Divided n (list_of f n) base wf₀ wf
  dividing_done i wf e s = record { frame = s.frame; there = part_is nan wf base n f (omega (arith, s.frame.long)) (λ k h. s.at k (omega arith)) }
