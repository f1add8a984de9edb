-- Laws of `Frame`, `Frame2`, `Filled` and `Copied`. Assumes nothing.
use mathlib.Core.Path.{◌≡◌, refl, sym, ◌∙◌}
use mathlib.Core.Logic.{⊎_elim}
use mathlib.Core.List.{List}
use Prim.Native.Nat.{ℕ, ◌+◌, ◌-◌, ◌≤◌, ◌<◌}
use native.Mathlib.Omega.{arith}
use lib.ListN.{length, get_or, set, length-set}
use lib.Seq.{ext_get_or, get_or-set_same, get_or-set_other}
use Rattle.regions.specs.Region.{list_of, part, Front, Frame, Frame2, Filled, Copied, Apart}
use Rattle.regions.proofs.Cases.{same_or_not, below_or_not}
use Rattle.regions.proofs.Fronts.{miss_d, get_d_any, same_any}
use Rattle.regions.proofs.Parts.{part_at, part_is, part_long}

-- ---- one region
-- a frame from what holds under one default
pub frame_by : {A : Type 0} {w w' : List A} {b n : ℕ} (d : A) → length w' ≡ length w → ((j : ℕ) → (b ≤ j → j < b + n → ⊥) → get_or w' j d ≡ get_or w j d) → Frame w b n w'
frame_by {A} {w} {w'} d n h = record { long = n; rest = λ e j o. same_any w w' n d e j (h j o) }

pub frame_none : {A : Type 0} (w : List A) (b n : ℕ) → Frame w b n w
frame_none w b n = record { long = refl; rest = λ d j h. refl }

pub frame_set : {A : Type 0} {w w' : List A} {b n : ℕ} (k : ℕ) (v : A) → Frame w b n w' → b ≤ k → k < b + n → Frame w b n (set w' k v)
frame_set {A} {w} {w'} {b} {n} k v f lo hi =
    record {
      long = length-set w' k v ∙ f.long;
      rest = λ d j h. miss_d w' k v j d (λ e. h (omega arith) (omega arith)) ∙ f.rest d j h;
    }

pub frame_then : {A : Type 0} {w w' w'' : List A} {b n : ℕ} → Frame w b n w' → Frame w' b n w'' → Frame w b n w''
frame_then f g = record { long = g.long ∙ f.long; rest = λ d j h. g.rest d j h ∙ f.rest d j h }

-- a region inside a larger one
pub frame_wide : {A : Type 0} {w w' : List A} {b n : ℕ} (b' n' : ℕ) → b' ≤ b → b + n ≤ b' + n' → Frame w b n w' → Frame w b' n' w'
frame_wide b' n' lo hi f = record { long = f.long; rest = λ d j h. f.rest d j (λ p q. h (omega arith) (omega arith)) }

-- a region that shares no place with the written one is as it was
pub frame_part : {A : Type 0} {w w' : List A} {b n : ℕ} (d : A) (b' n' : ℕ) → Frame w b n w' → b' + n' ≤ length w → ((i : ℕ) → i < n' → b ≤ b' + i → b' + i < b + n → ⊥) → part w' b' n' ≡ part w b' n'
frame_part {A} {w} {w'} {b} {n} d b' n' f l h =
    let p : length (part w b' n') ≡ n' = part_long w b' n' l in
    let q : length (part w' b' n') ≡ n' = part_long w' b' n' (omega (arith, f.long)) in
    ext_get_or d (part w' b' n') (part w b' n') (q ∙ sym p)
    (λ i m. part_at w' b' n' d i (omega arith) ∙ f.rest d (b' + i) (h i (omega arith)) ∙ sym (part_at w b' n' d i (omega arith)))

-- ---- a region inside the front
pub frame_front : {A : Type 0} {w w' : List A} {b n : ℕ} (k : ℕ) → b + n ≤ k → Frame w b n w' → Front w k w'
frame_front k l f = record { long = f.long; rest = λ d j h. f.rest d j (λ p q. omega arith) }

pub front_frame : {A : Type 0} {w w' : List A} {k : ℕ} → Front w k w' → Frame w 0 k w'
front_frame {A} {w} {w'} {k} f =
    record {
      long = f.long;
      rest = λ d j h. ⊎_elim (λ p. absurd (h (omega arith) (omega arith))) (λ p. f.rest d j p) (below_or_not j k);
    }

-- ---- two regions
pub frame2_by : {A : Type 0} {w w' : List A} {a n b m : ℕ} (d : A) → length w' ≡ length w → ((j : ℕ) → (a ≤ j → j < a + n → ⊥) → (b ≤ j → j < b + m → ⊥) → get_or w' j d ≡ get_or w j d) → Frame2 w a n b m w'
frame2_by {A} {w} {w'} d l h = record { long = l; rest = λ e j p q. same_any w w' l d e j (h j p q) }

pub frame2_none : {A : Type 0} (w : List A) (a n b m : ℕ) → Frame2 w a n b m w
frame2_none w a n b m = record { long = refl; rest = λ d j p q. refl }

pub frame2_then : {A : Type 0} {w w' w'' : List A} {a n b m : ℕ} → Frame2 w a n b m w' → Frame2 w' a n b m w'' → Frame2 w a n b m w''
frame2_then f g = record { long = g.long ∙ f.long; rest = λ d j p q. g.rest d j p q ∙ f.rest d j p q }

pub frame2_set_left : {A : Type 0} {w w' : List A} {a n b m : ℕ} (k : ℕ) (v : A) → Frame2 w a n b m w' → a ≤ k → k < a + n → Frame2 w a n b m (set w' k v)
frame2_set_left {A} {w} {w'} {a} {n} {b} {m} k v f lo hi =
    record {
      long = length-set w' k v ∙ f.long;
      rest = λ d j p q. miss_d w' k v j d (λ e. p (omega arith) (omega arith)) ∙ f.rest d j p q;
    }

pub frame2_set_right : {A : Type 0} {w w' : List A} {a n b m : ℕ} (k : ℕ) (v : A) → Frame2 w a n b m w' → b ≤ k → k < b + m → Frame2 w a n b m (set w' k v)
frame2_set_right {A} {w} {w'} {a} {n} {b} {m} k v f lo hi =
    record {
      long = length-set w' k v ∙ f.long;
      rest = λ d j p q. miss_d w' k v j d (λ e. q (omega arith) (omega arith)) ∙ f.rest d j p q;
    }

pub frame2_front : {A : Type 0} {w w' : List A} {a n b m : ℕ} (k : ℕ) → a + n ≤ k → b + m ≤ k → Frame2 w a n b m w' → Front w k w'
frame2_front k p q f = record { long = f.long; rest = λ d j h. f.rest d j (λ x y. omega arith) (λ x y. omega arith) }

-- what holds of each place below i, and of the value stored at i, holds below i + 1
pub store_more : {A : Type 0} (P : ℕ → A → Type 0) (d : A) (w : List A) (b i : ℕ) (v : A) → b + i < length w
    → ((k : ℕ) → k < i → P k (get_or w (b + k) d)) → P i v
    → (k : ℕ) → k < i + 1 → P k (get_or (set w (b + i) v) (b + k) d)
store_more P d w b i v l all here k h =
    ⊎_elim
    (λ e. rw e (rw (get_or-set_same w (b + i) v d l) here))
    (λ e. rw (get_or-set_other w (b + i) (b + k) v d (λ q. e (omega arith))) (all k (omega arith)))
    (same_or_not k i)

-- ---- a fill, one place after the other

pub filled_part : {A : Type 0} {w w' : List A} {b n : ℕ} {v : A} → Filled w b n v w' → b + n ≤ length w → part w' b n ≡ list_of (λ _. v) n
filled_part {A} {w} {w'} {b} {n} {v} f l = part_is v w' b n (λ _. v) (omega (arith, f.frame.long)) (f.at v)

-- ---- a copy, one place after the other
pub copied_none : {A : Type 0} (s : List A) (from : ℕ) (w : List A) (b : ℕ) → Copied s from w b 0 w
copied_none s from w b = record { frame = frame_none w b 0; at = λ d i h. absurd (omega arith) }

pub copied_more : {A : Type 0} {s w w' : List A} {from b i : ℕ} (d v : A) → Copied s from w b i w' → from + i < length s → b + i < length w → v ≡ get_or s (from + i) d → Copied s from w b (i + 1) (set w' (b + i) v)
copied_more {A} {s} {w} {w'} {from} {b} {i} d v f m l e =
    let p : b + i < length w' = omega (arith, f.frame.long) in
    record {
      frame = frame_set (b + i) v (frame_wide b (i + 1) (omega arith) (omega arith) f.frame) (omega arith) (omega arith);
      at = λ z. store_more (λ k x. x ≡ get_or s (from + k) z) z w' b i v p (f.at z) (e ∙ get_d_any s (from + i) d z m);
    }

-- inside one slice: the next source place has not been written
pub copied_source : {A : Type 0} {w w' : List A} {from b i len : ℕ} (d : A) → Apart w from b len → i < len → Copied w from w b i w' → get_or w' (from + i) d ≡ get_or w (from + i) d
copied_source {A} {w} {w'} {from} {b} {i} {len} d a l f =
    f.frame.rest d (from + i)
    (λ p q. let e : from + i ≡ b + (from + i - b) = omega arith in a.apart i (from + i - b) l (omega arith) e)

-- inside one slice: one place more, with what is read there
pub copied_next : {A : Type 0} {w w' : List A} {from b i len : ℕ} {v : A} → Apart w from b len → i < len → Copied w from w b i w' → v ≡ get_or w' (from + i) v → Copied w from w b (i + 1) (set w' (b + i) v)
copied_next {A} {w} {w'} {from} {b} {i} {len} {v} a l f e =
    copied_more v v f (omega (arith, a.source)) (omega (arith, a.target)) (e ∙ copied_source v a l f)
