-- Laws of lines that are written one after the other.
-- Assumes nothing.
use mathlib.Core.Path.{◌≡◌, sym, ap, ◌∙◌}
use mathlib.Core.List.{List, [], ◌++◌}
use Prim.Native.Nat.{ℕ, ◌+◌, ◌<◌, ◌≤◌}
use native.Mathlib.Numerals.{add-one}
use lib.ListN.{length, get_or, drop, drop_of_length-le}
use lib.Seq.{drop-cons}
use Rattle.text.specs.Written.{Written}
use Rattle.text.proofs.Stores.{and_then, nothing}
use Rattle.reply.specs.Reply.{lines_text}

module _ {A : Type 0} (line : ℕ → A → List ℕ) (none : A) where
  one_line : (xs : List A) (k : ℕ) → k < length xs → lines_text line k (drop k xs) ≡ line k (get_or xs k none) ++ lines_text line (k + 1) (drop (k + 1) xs)
  unfolding lines_text
  one_line xs k h = ap (λ (l : List A). lines_text line k l) (drop-cons xs k none h) ∙ ap (λ (n : ℕ). line k (get_or xs k none) ++ lines_text line (k + 1) (drop n xs)) (sym (add-one k))

  no_line : (xs : List A) (k : ℕ) → length xs ≤ k → lines_text line k (drop k xs) ≡ []
  unfolding lines_text
  no_line xs k h = rw (drop_of_length-le xs h)

  -- Once what is left of the lines is written, all of them are.
  pub Leads : List A → List ℕ → ℕ → List ℕ → ℕ → ℕ → Type 0
  Leads xs before start mid at k = (after : List ℕ) (next : ℕ) → Written (lines_text line k (drop k xs)) mid at after next → Written (lines_text line 0 xs) before start after next

  pub begun : (xs : List A) (before : List ℕ) (start : ℕ) → Leads xs before start before start 0
  unfolding Leads
  begun xs before start after next w = w

  pub one_more_line : (xs : List A) (before mid mid' : List ℕ) (start at at' k : ℕ) → k < length xs → Written (line k (get_or xs k none)) mid at mid' at' → Leads xs before start mid at k → Leads xs before start mid' at' (k + 1)
  unfolding Leads
  one_more_line xs before mid mid' start at at' k h w l after next r = l after next (rw (one_line xs k h) (and_then w r))

  pub all_lines : (xs : List A) (before mid : List ℕ) (start at k : ℕ) → length xs ≤ k → Leads xs before start mid at k → Written (lines_text line 0 xs) before start mid at
  unfolding Leads
  all_lines xs before mid start at k h l = l mid at (rw (no_line xs k h) (nothing mid at))
