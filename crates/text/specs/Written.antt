-- Numbers as digits, and what it means that a text was written into an output.
-- Definitions only. Document 01, "The command program".
use Rattle.std.specs.Prelude.{ℕ, zero, suc, ◌+◌, ◌/◌, ◌%◌, ◌≡◌, length, cond, List, [], ◌∷◌, ◌++◌, ltb}
use Rattle.std.proofs.lemmas.List.Edits.{sets}

-- The text stands in the output from `at` on, `next` is the place after it, and every other byte is as it was.
pub record Written (text before : List ℕ) (at : ℕ) (after : List ℕ) (next : ℕ) : Type 0 where
  pub next_is : next ≡ at + length text
  pub after_is : after ≡ sets before at text

-- a digit below 16 as a byte
abbrev pub digit_byte : ℕ → ℕ
digit_byte d = cond (ltb d 10) (48 + d) (87 + d)

-- the n last digits of v in a base, most significant first
unfoldable pub digits_text : ℕ → ℕ → ℕ → List ℕ
digits_text base zero v = []
digits_text base (suc n) v = digits_text base n (v / base) ++ (digit_byte (v % base) ∷ [])

-- how many decimal digits v has, one more than `more` at most
unfoldable pub count_in : ℕ → ℕ → ℕ
count_in zero v = 1
count_in (suc more) v = cond (ltb v 10) 1 (count_in more (v / 10) + 1)

-- a number of 64 bits as a decimal, which has at most 20 digits
abbrev pub decimal_text : ℕ → List ℕ
decimal_text v = digits_text 10 (count_in 19 v) v

-- the bits of a float as 16 hexadecimal digits
abbrev pub bits_text : ℕ → List ℕ
bits_text v = digits_text 16 16 v
