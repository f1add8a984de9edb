-- A region lent to a call as `&mut w[a..e]`: what the whole is when the part s is back. Assumes nothing.
use mathlib.Core.Path.{◌≡◌, sym, ap, ◌∙◌}
use mathlib.Core.Logic.{⊎_elim}
use mathlib.Core.List.{List, ◌++◌}
use Prim.Native.Nat.{ℕ, ◌+◌, ◌-◌, ◌≤◌, ◌<◌}
use native.Mathlib.Omega.{arith}
use lib.ListN.{length, get_or, take, get_or-append}
use lib.Seq.{get_or-take, get_or-drop, get_or-append-add, length-take-le}
use borrow.Rule.Slice.PartMut.{put_mid, post_of, take_put, drop_put, same_len_mid, mid_len}
use Rattle.regions.specs.Region.{Frame}
use Rattle.regions.proofs.Cases.{below_or_not}

module _ {A : Type 0} (a e : ℕ) (w s : List A) (ae : a ≤ e) (ew : e ≤ length w) (long : length s ≡ e - a) where
  pub lent_frame : Frame w a (e - a) (put_mid a (e - a) w s)
  lent_frame =
      record {
        long = same_len_mid a (e - a) w s (long ∙ sym (mid_len a e w ew));
        rest = λ d j h.
            ⊎_elim
            (λ p. sym (get_or-take a (put_mid a (e - a) w s) j d p) ∙ ap (λ (l : List A). get_or l j d) (take_put a (e - a) w s (omega arith)) ∙ get_or-take a w j d p)
            (λ p.
            ⊎_elim
            (λ q. absurd (h p (omega arith)))
            (λ q.
            let i : j ≡ e + (j - e) = omega arith in
            ap (λ (x : ℕ). get_or (put_mid a (e - a) w s) x d) i
            ∙ sym (get_or-drop e (put_mid a (e - a) w s) (j - e) d)
            ∙ ap (λ (l : List A). get_or l (j - e) d) (drop_put a e w s ae ew long)
            ∙ get_or-drop e w (j - e) d
            ∙ ap (λ (x : ℕ). get_or w x d) (sym i))
            (below_or_not j e))
            (below_or_not j a);
      }

  pub lent_at : (d : A) (i : ℕ) → i < e - a → get_or (put_mid a (e - a) w s) (a + i) d ≡ get_or s i d
  lent_at d i l =
      let t : length (take a w) ≡ a = length-take-le a w (omega arith) in
      ap (λ (x : ℕ). get_or (put_mid a (e - a) w s) (x + i) d) (sym t)
      ∙ get_or-append-add (take a w) (s ++ post_of a (e - a) w) i d
      ∙ get_or-append s (post_of a (e - a) w) d i (omega arith)
