-- The weights of the entries, copied in the entries' order: where the walk reads, and what it leaves. Assumes nothing.
use Rattle.std.proofs.Common.{◌≡◌, ℕ, zero, suc, ◌+◌, ◌-◌, ◌*◌, ◌<◌, ◌≤◌, List, length, get_or, set, sym, ap, ◌∙◌, ⊎_elim, arith}
use lib.Ieee.{Float, nan}
use Rattle.regions.specs.Region.{Frame}
use Rattle.regions.proofs.Cases.{below_or_not}
use Rattle.regions.proofs.Fronts.{hit_d, miss_d}
use Rattle.regions.proofs.Frames.{frame_none, frame_set}
use Rattle.graph.specs.Layout.{beside_at}
use Rattle.lists.specs.Lists.{ListsFit}
use Rattle.links.specs.Links.{weights_at}
use Rattle.links.specs.Steps.{CopyPre, WeightsCopied}

-- the weight that the jth entry has
abbrev pub weight_in : ℕ → ℕ → List Float → List ℕ → ℕ → Float
weight_in n m weight w j = get_or weight (get_or w (beside_at n m + j) 0) nan

module _ (n m : ℕ) (w : List ℕ) (fit : ListsFit n m w) where
  -- offsets rise from node to node
  rising : (v k : ℕ) → v + k ≤ n → get_or w v 0 ≤ get_or w (v + k) 0
  rising v zero l = let e : get_or w (v + zero) 0 ≡ get_or w v 0 = ap (λ (i : ℕ). get_or w i 0) (omega arith) in omega (arith, e)
  rising v (suc k) l =
      let a = rising v k (omega arith) in
      let b = fit.rises (v + k) (omega arith) in
      let e : get_or w (v + k + 1) 0 ≡ get_or w (v + suc k) 0 = ap (λ (i : ℕ). get_or w i 0) (omega arith) in
      omega (arith, a, b, e)

  pub first_least : (v : ℕ) → v ≤ n → get_or w 0 0 ≤ get_or w v 0
  first_least v l = let e : get_or w (0 + v) 0 ≡ get_or w v 0 = ap (λ (i : ℕ). get_or w i 0) (omega arith) in omega (arith, rising 0 v (omega arith), e)

  pub last_most : (v : ℕ) → v ≤ n → get_or w v 0 ≤ get_or w n 0
  last_most v l =
      let e : get_or w (v + (n - v)) 0 ≡ get_or w n 0 = ap (λ (i : ℕ). get_or w i 0) (omega arith) in
      omega (arith, rising v (n - v) (omega arith), e)

  -- an entry of one of the first v lists has a place and the position of an edge
  pub record Reads (j : ℕ) : Type 0 where
    pub place : j < 2 * m
    pub position : get_or w (beside_at n m + j) 0 < m

  pub reads : (j v : ℕ) → v ≤ n → get_or w 0 0 ≤ j → j < get_or w v 0 → Reads j
  reads j zero l a b = absurd (omega arith)
  reads j (suc v) l a b =
      ⊎_elim
      (λ h. reads j v (omega arith) a h)
      (λ h. let e : get_or w (suc v) 0 ≡ get_or w (v + 1) 0 = ap (λ (i : ℕ). get_or w i 0) (omega arith) in
      record { place = omega (arith, b, e, fit.inside v (omega arith)); position = fit.edges v j (omega arith) h (omega (arith, b, e)) })
      (below_or_not j (get_or w v 0))

-- the entries before the kth place have their weights
pub record Copying (n m : ℕ) (weight : List Float) (w : List ℕ) (wf₀ : List Float) (k : ℕ) (wf : List Float) : Type 0 where
  pub frame : Frame wf₀ (weights_at n) (2 * m) wf
  pub at : (j : ℕ) → get_or w 0 0 ≤ j → j < k → get_or wf (weights_at n + j) nan ≡ weight_in n m weight w j

module _ (n m : ℕ) (weight : List Float) (w : List ℕ) (wf₀ : List Float) where
  pub copying_none : Copying n m weight w wf₀ (get_or w 0 0) wf₀
  copying_none = record { frame = frame_none wf₀ (weights_at n) (2 * m); at = λ j a b. absurd (omega arith) }

  pub copying_more : (k : ℕ) (wf : List Float) → weights_at n + 2 * m ≤ length wf₀ → k < 2 * m → Copying n m weight w wf₀ k wf
      → Copying n m weight w wf₀ (k + 1) (set wf (weights_at n + k) (weight_in n m weight w k))
  copying_more k wf room l s =
      record {
        frame = frame_set (weights_at n + k) (weight_in n m weight w k) s.frame (omega arith) (omega arith);
        at = λ j a b.
            ⊎_elim
            (λ h. miss_d wf (weights_at n + k) (weight_in n m weight w k) (weights_at n + j) nan (λ e. omega arith) ∙ s.at j a h)
            (λ h.
            let e : j ≡ k = omega arith in
            hit_d wf (weights_at n + k) (weight_in n m weight w k) (weights_at n + j) nan (ap (λ (i : ℕ). weights_at n + i) e) (omega (arith, s.frame.long)) ∙ ap (weight_in n m weight w) (sym e))
            (below_or_not j k);
      }

  pub copying_done : CopyPre n m weight w wf₀ → (k : ℕ) (wf : List Float) → get_or w n 0 ≤ k → Copying n m weight w wf₀ k wf → WeightsCopied n m weight w wf₀ wf
  copying_done pre k wf l s =
      record {
        frame = s.frame;
        at = λ v j h a b. s.at j (omega (arith, a, first_least n m w pre.fit v (omega arith))) (omega (arith, b, last_most n m w pre.fit (v + 1) (omega arith)));
      }
