-- Folds over a region of a slice, one place at a time. Assumes nothing.
use Rattle.std.proofs.Common.{◌≡◌, ℕ, suc, ◌+◌, ◌<◌, ◌≤◌, List, ◌∷◌, length, get_or, drop, sym, ap, ◌∙◌, arith, drop-cons}
use mathlib.Core.List.{foldr}
use lib.Seq.{drop-length}
use Rattle.regions.specs.Region.{part}
use Rattle.regions.proofs.Parts.{part_long, part_at}

-- a fold from the end of a region: what has been folded from place i on
pub foldr_more : {B : Type 0} (f : ℕ → B → B) (b t : B) (w : List ℕ) (a n i : ℕ) → i < n → a + n ≤ length w → t ≡ foldr f b (drop (i + 1) (part w a n)) → f (get_or w (a + i) 0) t ≡ foldr f b (drop i (part w a n))
foldr_more {B} f b t w a n i l h e =
    let one : suc i ≡ i + 1 = omega arith in
    ap (f (get_or w (a + i) 0)) e
    ∙ ap (λ (x : ℕ). f x (foldr f b (drop (i + 1) (part w a n)))) (sym (part_at w a n 0 i l))
    ∙ ap (λ (k : ℕ). foldr f b (get_or (part w a n) i 0 ∷ drop k (part w a n))) (sym one)
    ∙ ap (foldr f b) (sym (drop-cons (part w a n) i 0 (omega (arith, part_long w a n h))))

-- nothing has been folded yet
pub foldr_none : {B : Type 0} (f : ℕ → B → B) (b : B) (w : List ℕ) (a n i : ℕ) → i ≡ n → a + n ≤ length w → b ≡ foldr f b (drop i (part w a n))
foldr_none f b w a n i e h =
    let l : i ≡ length (part w a n) = e ∙ sym (part_long w a n h) in
    ap (foldr f b) (sym (ap (λ (k : ℕ). drop k (part w a n)) l ∙ drop-length (part w a n)))
