-- Laws of digits: how many there are, and the last one.
-- Assumes nothing.
use mathlib.Core.Path.{◌≡◌, refl, ap, ◌∙◌}
use mathlib.Core.Bool.{Bool, true, false, cond}
use mathlib.Core.List.{List, [], ◌∷◌}
use Prim.Native.Nat.{ℕ, zero, suc, ◌+◌, ◌/◌, ◌%◌, ◌<◌, ◌≤◌}
use native.Mathlib.Numerals.{add-one}
use native.Mathlib.Omega.{arith}
use lib.Dec.{ltb}
use lib.ListN.{length, set, length-append}
use lib.Seq.{sets}
use borrow.Author.Tests.{lt-ltb, le-ltb}
use Rattle.text.specs.Written.{digit_byte, digits_text, count_in}
use Rattle.text.proofs.Stores.{last}

pub digits_long : (base n v : ℕ) → length (digits_text base n v) ≡ n
unfolding digits_text
digits_long base zero v = refl
digits_long base (suc n) v = omega (arith, length-append (digits_text base n (v / base)) (digit_byte (v % base) ∷ []), digits_long base n (v / base))

pub last_digit : (l : List ℕ) (at base n i v : ℕ) → n ≡ i + 1 → sets l at (digits_text base n v) ≡ sets (set l (at + i) (digit_byte (v % base))) at (digits_text base i (v / base))
unfolding digits_text
last_digit l at base n i v e =
    rw (e, add-one i)
    (last l at (digits_text base i (v / base)) (digit_byte (v % base))
    ∙ ap (λ (k : ℕ). sets (set l (at + k) (digit_byte (v % base))) at (digits_text base i (v / base))) (digits_long base i (v / base)))

pub no_digits : (l : List ℕ) (at base n v : ℕ) → n ≡ 0 → sets l at (digits_text base n v) ≡ l
unfolding digits_text
no_digits l at base n v e = rw e

pub one_digit : (m v : ℕ) → v < 10 → count_in m v ≡ 1
unfolding count_in
one_digit zero v h = refl
one_digit (suc m) v h = rw (lt-ltb v 10 h)

pub no_more : (m v : ℕ) → m ≡ 0 → count_in m v ≡ 1
unfolding count_in
no_more m v e = rw e

pub one_more : (m n v : ℕ) → m ≡ n + 1 → 10 ≤ v → count_in m v ≡ count_in n (v / 10) + 1
unfolding count_in
one_more m n v e h = rw (e, add-one n, le-ltb v 10 h)

-- no decimal has more digits than its count allows
pub count_long : (m v : ℕ) → count_in m v ≤ m + 1
unfolding count_in
count_long zero v = omega arith
count_long (suc m) v = either (ltb v 10) (count_long m (v / 10))
  where
    either : (t : Bool) → count_in m (v / 10) ≤ m + 1 → cond t 1 (count_in m (v / 10) + 1) ≤ suc m + 1
    either true h = omega arith
    either false h = omega arith

-- what a loop that writes digits from the last one asks
pub ruleset written_back = (last_digit, no_digits)

-- what a loop that counts digits asks
pub ruleset counts = (one_digit, no_more, one_more)
