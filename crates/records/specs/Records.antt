-- The numbers in front of a record, the parts of its line, and what reading it leaves. Definitions only.
use Rattle.std.specs.Prelude.{◌≡◌, Bool, true, false, cond, ℕ, ◌+◌, ◌*◌, ◌≤◌, List, [], ◌∷◌, ◌++◌, length, take, drop, ltb, Option, Some, None, option_and_then}
use Rattle.text.specs.Text.{digit_of}

-- A number and one decimal digit more; none if the byte is no such digit or the number has more than four digits.
unfoldable pub with_digit : ℕ → ℕ → Option ℕ
with_digit n b = option_and_then (λ d. cond (ltb 9 d) None (cond (ltb 9999 n) None (Some (n * 10 + d)))) (digit_of b)

-- The number that bytes spell after a number, most significant digit first; none if there is none for one of them.
unfoldable pub number_from : ℕ → List ℕ → Option ℕ
number_from n [] = Some n
number_from n (b ∷ bytes) = option_and_then (λ m. number_from m bytes) (with_digit n b)

-- The number that bytes spell.
abbrev pub number_in : List ℕ → Option ℕ
number_in bytes = number_from 0 bytes

-- So many bytes of a line from a place on; the whole line where it ends before them.
unfoldable pub part_of : List ℕ → ℕ → ℕ → List ℕ
part_of line at n = cond (ltb (length line) (at + n)) line (take n (drop at line))

-- There is room for so many bytes in a line, where they are said to be there.
abbrev pub Room : Bool → ℕ → List ℕ → Type 0
Room true n line = n ≤ length line
Room false n line = Unit

-- A line with other bytes at its front, so many; as it was where it is shorter.
unfoldable pub with_front : ℕ → List ℕ → List ℕ → List ℕ
with_front n bytes line = cond (ltb (length line) n) line (take n bytes ++ drop n line)

-- What reading so many bytes leaves: they are there only where they fit, and what stands after them is as it was.
pub record Read (there : Bool) (n : ℕ) (before after : List ℕ) : Type 0 where
  pub room : Room there n before
  pub rest : after ≡ with_front n after before
