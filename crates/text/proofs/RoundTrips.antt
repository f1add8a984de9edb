-- What is printed as a number is read back as that number: the writer's digits by the reader's grammar.
-- Assumes nothing.
use mathlib.Core.Path.{◌≡◌, refl, sym, ap, ◌∙◌}
use mathlib.Core.Bool.{Bool, true, false, cond}
use mathlib.Core.List.{List, [], ◌∷◌, ◌++◌, append_assoc, append-nil}
use mathlib.Core.Logic.{◌⊎◌, inl, inr, ⊎_elim}
use Prim.Native.Nat.{ℕ, zero, suc, ◌+◌, ◌*◌, ◌/◌, ◌%◌, ◌^◌, ◌<◌, ◌≤◌}
use native.Mathlib.Omega.{arith}
use native.Mathlib.Nat.{div-lt_iff_lt-mul, div-add-mod', mod-lt, pow-zero, pow-suc, eq-zero-or-pos}
use native.Mathlib.Numerals.{add-one}
use lib.ListN.{length, get_or, get_or-append}
use lib.Dec.{ltb}
use borrow.Author.Tests.{lt-ltb, le-ltb, ltb-true, ltb-false, eq-eqb}
use Rattle.std.specs.Prelude.{Some}
use Rattle.std.specs.List.{slice_get}
use Rattle.std.proofs.lemmas.Option.{slice_get-get_or}
use Rattle.text.specs.Text.{digit_of, digits_from, decimal_of, bits_of}
use Rattle.text.specs.Written.{digit_byte, digits_text, count_in, decimal_text, bits_text}
use Rattle.text.proofs.Numbers.{is_decimal, is_letter, plain, nought}
use Rattle.text.proofs.Numerals.{digits_long, one_digit, one_more}

one_digit_or_more : (v : ℕ) → (v < 10) ⊎ (10 ≤ v)
one_digit_or_more v = go (ltb v 10) refl
  where
    go : (t : Bool) → ltb v 10 ≡ t → (v < 10) ⊎ (10 ≤ v)
    go true e = inl (ltb-true v 10 e)
    go false e = inr (ltb-false v 10 e)

-- a digit's byte is worth that digit
digit_read_back : (d : ℕ) → d < 16 → digit_of (digit_byte d) ≡ Some d
digit_read_back d h = ⊎_elim small large (one_digit_or_more d)
  where
    small : d < 10 → digit_of (digit_byte d) ≡ Some d
    small k = rw (lt-ltb d 10 k) (is_decimal (48 + d) d (omega arith) (omega arith) (omega arith))

    large : 10 ≤ d → digit_of (digit_byte d) ≡ Some d
    large k = rw (le-ltb d 10 k) (is_letter (87 + d) d (omega arith) (omega arith) (omega arith))

-- one digit after v
one_read : (base v d : ℕ) (rest : List ℕ) → d < base → base ≤ 16 → digits_from base v (digit_byte d ∷ rest) ≡ digits_from base (v * base + d) rest
unfolding digits_from
one_read base v d rest h k = rw (digit_read_back d (omega arith), lt-ltb d base h)

-- n digits hold what is left of v without its last digit exactly where n + 1 digits hold v
without_last : (base n v : ℕ) → 0 < base → v < base ^ suc n → v / base < base ^ n
without_last base n v p h = (div-lt_iff_lt-mul p).1 (rw (pow-suc base n) at h)

with_last : (base n v : ℕ) → 0 < base → v / base < base ^ n → v < base ^ suc n
with_last base n v p h = rw (pow-suc base n) ((div-lt_iff_lt-mul p).0 h)

-- n digits that hold a number are read as that number, whatever follows
digits_read : (base n v : ℕ) (rest : List ℕ) → 0 < base → base ≤ 16 → v < base ^ n → digits_from base 0 (digits_text base n v ++ rest) ≡ digits_from base v rest
unfolding digits_text
digits_read base zero v rest p k h = let z : 0 ≡ v = omega (arith, pow-zero base) in ap (λ (u : ℕ). digits_from base u rest) z
digits_read base (suc n) v rest p k h =
    ap (λ (s : List ℕ). digits_from base 0 s) (append_assoc (digits_text base n (v / base)) (digit_byte (v % base) ∷ []) rest)
    ∙ digits_read base n (v / base) (digit_byte (v % base) ∷ rest) p k (without_last base n v p h)
    ∙ one_read base (v / base) (v % base) rest (mod-lt v p) k
    ∙ ap (λ (u : ℕ). digits_from base u rest) (div-add-mod' v base)

-- .. and nothing follows
all_read : (base n v : ℕ) → 0 < base → base ≤ 16 → v < base ^ n → v < 2 ^ 64 → digits_from base 0 (digits_text base n v) ≡ Some v
unfolding digits_from
all_read base n v p k h f =
    ap (λ (s : List ℕ). digits_from base 0 s) (sym (append-nil (digits_text base n v)))
    ∙ digits_read base n v [] p k h
    ∙ rw (lt-ltb v (2 ^ 64) f)

-- as many digits as are counted hold the number
counted_hold : (m v : ℕ) → v < 10 ^ suc m → v < 10 ^ count_in m v
unfolding count_in
counted_hold zero v h = h
counted_hold (suc m) v h =
    ⊎_elim (λ k. rw (lt-ltb v 10 k) k)
    (λ k. rw (le-ltb v 10 k, add-one (count_in m (v / 10))) (with_last 10 (count_in m (v / 10)) v (omega arith) (counted_hold m (v / 10) (without_last 10 (suc m) v (omega arith) h))))
    (one_digit_or_more v)

counted : (m v : ℕ) → 0 < count_in m v
unfolding count_in
counted zero v = omega arith
counted (suc m) v = either (ltb v 10)
  where
    either : (t : Bool) → 0 < cond t 1 (count_in m (v / 10) + 1)
    either true = omega arith
    either false = omega arith

-- the first of several digits is that of the number without its last digit
first_of : (base n v : ℕ) → 0 < n → get_or (digits_text base (suc n) v) 0 0 ≡ get_or (digits_text base n (v / base)) 0 0
unfolding digits_text
first_of base n v p = get_or-append (digits_text base n (v / base)) (digit_byte (v % base) ∷ []) 0 0 (omega (arith, digits_long base n (v / base)))

first_alone : (v : ℕ) → v < 10 → get_or (digits_text 10 1 v) 0 0 ≡ 48 + v
unfolding digits_text
first_alone v h =
    let q : v % 10 ≡ v = omega arith in
    rw (q, lt-ltb v 10 h)

-- one digit above 0 is above "0", and so is the first digit of any number above 0
alone : (m v : ℕ) → 0 < v → v < 10 → 48 < get_or (digits_text 10 (count_in m v) v) 0 0
alone m v p h = rw (one_digit m v h, first_alone v h) (omega arith)

first_above : (m v : ℕ) → v < 10 ^ suc m → 0 < v → 48 < get_or (digits_text 10 (count_in m v) v) 0 0
first_above zero v h p = alone zero v p h
first_above (suc m) v h p =
    ⊎_elim (alone (suc m) v p)
    (λ (k : 10 ≤ v).
    let q : 0 < v / 10 = omega arith in
    rw (one_more (suc m) m v (sym (add-one m)) k, add-one (count_in m (v / 10)), first_of 10 (count_in m (v / 10)) v (counted m (v / 10)))
    (first_above m (v / 10) (without_last 10 (suc m) v (omega arith) h) q))
    (one_digit_or_more v)

-- Any 64 bits, printed as 16 hexadecimal digits, are read back as those bits.
pub bits_read_back : (b : ℕ) → b < 2 ^ 64 → bits_of (bits_text b) ≡ Some b
unfolding bits_of
bits_read_back b h = rw (eq-eqb (length (bits_text b)) 16 (digits_long 16 16 b)) (all_read 16 16 b (omega arith) (omega arith) h h)

-- Any number below 2^64, printed as a decimal, is read back as that number.
pub decimal_read_back : (v : ℕ) → v < 2 ^ 64 → decimal_of (decimal_text v) ≡ Some v
unfolding digits_text count_in
decimal_read_back v h = ⊎_elim none some (eq-zero-or-pos v)
  where
    none : v ≡ 0 → decimal_of (decimal_text v) ≡ Some v
    none e = rw e (nought (decimal_text 0) refl refl)

    some : 0 < v → decimal_of (decimal_text v) ≡ Some v
    some p =
        let l : v < 10 ^ 20 = omega arith in
        let first : slice_get (decimal_text v) 0 ≡ Some (get_or (decimal_text v) 0 0) = slice_get-get_or (decimal_text v) 0 0 (omega (arith, digits_long 10 (count_in 19 v) v, counted 19 v)) in
        plain (decimal_text v) first (λ e. omega (arith, first_above 19 v l p))
        ∙ all_read 10 (count_in 19 v) v (omega arith) (omega arith) (counted_hold 19 v l) h
