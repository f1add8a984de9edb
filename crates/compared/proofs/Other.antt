-- Laws of what a call says and leaves, held to its record. Assumes nothing.
use mathlib.Core.Path.{◌≡◌, refl, sym, ap, ◌∙◌}
use mathlib.Core.Bool.{Bool, true, false, cond, not, ◌||◌}
use mathlib.Core.List.{List, [], ◌∷◌}
use Prim.Native.Nat.{ℕ, zero, suc, ◌+◌, ◌≤◌, ◌<◌}
use native.Mathlib.Numerals.{add-one}
use native.Mathlib.Omega.{arith}
use lib.Dec.{eqb}
use lib.ListN.{length, drop, get_or, drop_of_length-le}
use lib.Seq.{drop-nil}
use borrow.Author.Tests.{eq-eqb, ne_eqb, eqb-true, not-false}
use Rattle.words.specs.declared.Places.{Places}
use Rattle.words.specs.Words.{word_at}
use Rattle.lent.specs.declared.Left.{Left}
use Rattle.compared.specs.Other.{is_other, leaves_other, says_other, finds_other}
use Rattle.compared.specs.Told.{Told}

module _ {A : Type 0} (read : A → ℕ) (old : ℕ) (d : A) where
  -- The next slot, and those after it.
  step :
      (xs : List A) (ws : List ℕ) (i : ℕ) → i < length xs → is_other read old (drop i xs) (drop i ws) ≡ cond (eqb (read (get_or xs i d)) (get_or ws i old)) (is_other read old (drop (suc i) xs) (drop (suc i) ws)) true
  unfolding is_other
  step [] ws i h = absurd (omega arith)
  step (x ∷ xs) [] zero h = refl
  step (x ∷ xs) (w ∷ ws) zero h = refl
  step (x ∷ xs) [] (suc i) h = rw (drop-nil {A = ℕ} i) at (step xs [] i (omega arith))
  step (x ∷ xs) (w ∷ ws) (suc i) h = step xs ws i (omega arith)

  -- A slot that holds what belongs there leaves it to the slots after it.
  pub same_slot :
      (xs : List A) (ws : List ℕ) (i x w : ℕ) → i < length xs → x ≡ read (get_or xs i d) → w ≡ get_or ws i old → x ≡ w → is_other read old (drop i xs) (drop i ws) ≡ is_other read old (drop (i + 1) xs) (drop (i + 1) ws)
  same_slot xs ws i x w h a b e =
      let same : read (get_or xs i d) ≡ get_or ws i old = cc in
      step xs ws i h ∙ rw (eq-eqb (read (get_or xs i d)) (get_or ws i old) same, add-one)

  -- One that does not decides it.
  pub other_slot :
      (xs : List A) (ws : List ℕ) (i x w : ℕ) → i < length xs → x ≡ read (get_or xs i d) → w ≡ get_or ws i old → (x ≡ w → ⊥) → is_other read old (drop i xs) (drop i ws) ≡ true
  other_slot xs ws i x w h a b e =
      step xs ws i h ∙ rw (ne_eqb (read (get_or xs i d)) (get_or ws i old) (λ same. e (a ∙ same ∙ sym b)))

module _ {A : Type 0} (read : A → ℕ) (old : ℕ) where
  -- After the last slot nothing is other.
  pub no_slot : (xs : List A) (ws : List ℕ) (i : ℕ) → length xs ≤ i → length ws ≤ length xs → is_other read old (drop i xs) (drop i ws) ≡ false
  unfolding is_other
  no_slot xs ws i h l =
      let k : length ws ≤ i = omega arith in
      rw (drop_of_length-le xs h, drop_of_length-le ws k)

  -- A slice with less slots than numbers is other.
  pub too_short : (xs : List A) (ws : List ℕ) → length xs < length ws → true ≡ is_other read old xs ws
  unfolding is_other
  too_short [] [] h = absurd (omega arith)
  too_short [] (w ∷ ws) h = refl
  too_short (x ∷ xs) [] h = absurd (omega arith)
  too_short (x ∷ xs) (w ∷ ws) h = either (eqb (read x) w) (is_other read old xs ws) (too_short xs ws (omega arith))
    where
      either : (b r : Bool) → true ≡ r → true ≡ cond b r true
      either true r e = e
      either false r e = refl

-- Where nothing other is found, the answer and the reports are the record's.
pub else_told : (ws : List ℕ) (p : Places) (edges : ℕ) (l : Left) → finds_other ws p edges l ≡ false → Told ws p l
unfolding finds_other says_other
else_told ws p edges l e =
    let said = neither (leaves_other ws p edges l) _ e in
    let after = neither (not (eqb l.said.answer (word_at ws p.said 0))) _ said.1 in
    let last = neither (not (eqb l.said.settled (word_at ws p.said 1))) _ after.1 in
    let end = neither (not (eqb l.said.rounds (word_at ws p.said 2))) _ last.1 in
    (is l.said.answer _ after.0, is l.said.settled _ last.0, is l.said.rounds _ end.0, is l.said.elected _ end.1)
  where
    neither : (a b : Bool) → (a || b) ≡ false → (a ≡ false) × (b ≡ false)
    neither true b h = absurd (omega (arith, ap {B = ℕ} (λ (x : Bool). cond x 1 0) h))
    neither false b h = (refl, h)

    is : (m n : ℕ) → not (eqb m n) ≡ false → m ≡ n
    is m n h = eqb-true m n (not-false (eqb m n) h)
