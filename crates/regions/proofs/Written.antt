-- A part of a list written anew: at its front, or from a place on. Assumes nothing.
use mathlib.Core.Path.{◌≡◌, ap, ◌∙◌}
use mathlib.Core.Logic.{⊎_elim}
use mathlib.Core.List.{List, ◌++◌, append-nil}
use Prim.Native.Nat.{ℕ, ◌+◌, ◌-◌, ◌≤◌, ◌<◌}
use native.Mathlib.Omega.{arith}
use borrow.Rule.Slice.PartMut.{put_mid}
use lib.ListN.{length, get_or, take, drop, replicate, length-append, length-take, length-drop, length-replicate, get_or-append, get_or-replicate, drop_of_length-le}
use lib.Seq.{get_or-take, get_or-drop}
use Rattle.std.proofs.lemmas.List.{get_or-append_right}
use Rattle.regions.specs.Region.{over, cleared, Filled}
use Rattle.regions.proofs.Cases.{below_or_not}
use Rattle.regions.proofs.Frames.{frame_by}

-- a list cleared to its end
pub cleared_whole : {A : Type 0} (z : A) (w : List A) (k : ℕ) → length w ≤ k → cleared z k w ≡ replicate k z
unfolding cleared over
cleared_whole {A} z w k l =
    ap (λ (x : List A). replicate k z ++ x) (drop_of_length-le w (omega (arith, length-replicate k z))) ∙ append-nil (replicate k z)

-- a front cleared to its end, in front of the rest
pub front_cleared : {A : Type 0} (z : A) (w ys : List A) (i len : ℕ) → len ≤ length w → i ≡ len → ys ≡ cleared z i (take len w) → ys ++ drop len w ≡ cleared z len w
unfolding cleared over
front_cleared {A} z w ys i len l e h =
    let n : length (take len w) ≤ i = omega (arith, length-take len w) in
    let p : ys ≡ replicate len z = h ∙ cleared_whole z (take len w) i n ∙ ap (λ (k : ℕ). replicate k z) e in
    rw (p, length-replicate len z)

-- each place of a part written from `base` on is v, and no other place is touched
pub part_filled : {A : Type 0} (v : A) (w ys : List A) (base k len i : ℕ) → base + len ≤ length w → k ≡ len → i ≡ len → ys ≡ cleared v i (take k (drop base w)) → Filled w base len v (put_mid base k w ys)
part_filled {A} v w ys base k len i l ek ei h =
    record {
      frame = frame_by v long (λ j out. ⊎_elim (before j) (after j out) (below_or_not j base));
      at = λ d j lj. inside d j lj;
    }
  where
    part_long : length (take k (drop base w)) ≡ len
    part_long = simp (length-take, length-drop) (omega arith)

    ys_is : ys ≡ replicate len v
    ys_is = h ∙ cleared_whole v (take k (drop base w)) i (omega (arith, part_long)) ∙ ap (λ (n : ℕ). replicate n v) ei

    ys_long : length ys ≡ len
    ys_long = ap length ys_is ∙ length-replicate len v

    front_long : length (take base w) ≡ base
    front_long = simp length-take (omega arith)

    long : length (put_mid base k w ys) ≡ length w
    long = simp (length-append, length-take, length-drop) (omega (arith, ys_long))

    before : (j : ℕ) → j < base → get_or (put_mid base k w ys) j v ≡ get_or w j v
    before j lj =
        get_or-append (take base w) (ys ++ drop k (drop base w)) v j (omega (arith, front_long)) ∙ get_or-take base w j v lj

    inside : (d : A) (j : ℕ) → j < len → get_or (put_mid base k w ys) (base + j) d ≡ v
    inside d j lj =
        get_or-append_right (take base w) (ys ++ drop k (drop base w)) base (base + j) d front_long (omega arith)
        ∙ get_or-append ys (drop k (drop base w)) d (base + j - base) (omega (arith, ys_long))
        ∙ ap (λ (x : List A). get_or x (base + j - base) d) ys_is
        ∙ get_or-replicate len (base + j - base) v d (omega arith)

    after : (j : ℕ) → (base ≤ j → j < base + len → ⊥) → base ≤ j → get_or (put_mid base k w ys) j v ≡ get_or w j v
    after j out lj =
        let h : base + len ≤ j = omega (arith, out lj) in
        let e : base + (k + (j - base - len)) ≡ j = omega arith in
        get_or-append_right (take base w) (ys ++ drop k (drop base w)) base j v front_long lj
        ∙ get_or-append_right ys (drop k (drop base w)) len (j - base) v ys_long (omega arith)
        ∙ get_or-drop k (drop base w) (j - base - len) v
        ∙ get_or-drop base w (k + (j - base - len)) v
        ∙ ap (λ (n : ℕ). get_or w n v) e
