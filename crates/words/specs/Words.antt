-- The words of a record by their places, and the places of its parts. Definitions only.
use Rattle.std.specs.Prelude.{ℕ, ◌+◌, ◌%◌, ◌^◌, cond, List, [], length, take, drop, nat_lt, slice_index}
use Rattle.words.specs.declared.Places.{Places}

-- A place so far behind another, in 64 bits.
abbrev pub sum_of : ℕ → ℕ → ℕ
sum_of a b = (a + b) % 2 ^ 64

-- The word so far behind a place; 0 past the last.
abbrev pub word_at : List ℕ → ℕ → ℕ → ℕ
word_at ws place further = slice_index ws (sum_of place further)

-- The place past a count and its results.
abbrev pub past_at : List ℕ → ℕ → ℕ
past_at ws place = sum_of place (sum_of 1 (word_at ws place 0))

-- Where the parts begin of a record whose own numbers begin at a place: a vector, lengths, what is said, four parts of results.
abbrev pub places_from : List ℕ → ℕ → Places
places_from ws own =
    let vector = sum_of own 6 in
    let lengths = sum_of vector (word_at ws own 5) in
    let said = sum_of lengths 7 in
    let narrow = sum_of said 4 in
    let wide = past_at ws narrow in
    let floats = past_at ws wide in
    let back = past_at ws floats in
    record {
      own = own;
      vector = vector;
      lengths = lengths;
      said = said;
      narrow = narrow;
      wide = wide;
      floats = floats;
      back = back;
      end = past_at ws back;
    }

-- Seven words and three for each edge come first.
abbrev pub places_of : List ℕ → Places
places_of ws = places_from ws (sum_of 7 (sum_of (word_at ws 6 0) (sum_of (word_at ws 6 0) (word_at ws 6 0))))

-- The results of a part, which follow their count; none where the words end before them.
unfoldable pub results_at : List ℕ → ℕ → List ℕ
results_at ws place = cond (nat_lt (place + word_at ws place 0) (length ws)) (take (word_at ws place 0) (drop (place + 1) ws)) []
