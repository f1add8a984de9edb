-- What a line of a text says. A line is known by the place where it begins; it ends in a newline.
-- Definitions only. Document 01, "The command program".
use Rattle.std.specs.Prelude.{ℕ, Bool, ◌+◌, cond, List, length, take, drop, leb, Option, Some, None, option_map, option_and_then}
use Rattle.text.specs.Bytes.{bytes}
use Rattle.text.specs.Text.{decimal_of, bits_of, starts, place_of}
use Rattle.lines.specs.declared.Measure.{Measure}
use Rattle.lines.specs.declared.Edge.{Edge}
use Rattle.lines.specs.Names.{measure_of, kind_of}

-- what follows a key; none if the text begins with another
abbrev pub after_key : List ℕ → List ℕ → Option (List ℕ)
after_key key line = cond (starts key line) (Some (drop (length key) line)) None

-- The value of a line KEY VALUE of a text that begins at `at`, whose newline stands so many bytes further, and where the next line begins.
abbrev pub value_to : List ℕ → List ℕ → ℕ → ℕ → Option (List ℕ × ℕ)
value_to key s at end = option_map (λ value. (value, at + end + 1)) (after_key key (take end (drop at s)))

-- The line KEY VALUE that begins at `at`: its value, and where the next line begins. Faulty if no newline ends it, or if it begins with another key.
unfoldable pub value_of : List ℕ → List ℕ → ℕ → Option (List ℕ × ℕ)
value_of key s at = option_and_then (value_to key s at) (place_of 10 (drop at s))

-- what `read` makes of a line's value, and where the next line begins; a value that it doesn't take is a fault of its line
abbrev pub line_in : {A : Type 0} → (List ℕ → Option A) → Option (List ℕ × ℕ) → Option (A × ℕ)
line_in read line = option_and_then (λ x. option_map (λ v. (v, x.1)) (read x.0)) line

-- KEY DECIMAL
abbrev pub decimal_line : List ℕ → List ℕ → ℕ → Option (ℕ × ℕ)
decimal_line key s at = line_in decimal_of (value_of key s at)

-- KEY BITS
abbrev pub bits_line : List ℕ → List ℕ → ℕ → Option (ℕ × ℕ)
bits_line key s at = line_in bits_of (value_of key s at)

-- KEY MEASURE
abbrev pub measure_line : List ℕ → List ℕ → ℕ → Option (Measure × ℕ)
measure_line key s at = line_in measure_of (value_of key s at)

-- kind=KIND
abbrev pub kind_line : List ℕ → ℕ → Option (Bool × ℕ)
kind_line s at = line_in kind_of (value_of (bytes "kind=") s at)

-- a number above the largest that is allowed is a fault of its line
abbrev pub at_most : ℕ → Option (ℕ × ℕ) → Option (ℕ × ℕ)
at_most most line = option_and_then (λ x. cond (leb x.0 most) (Some x) None) line

-- what stands before the first comma and after it; none if there is no comma
unfoldable pub cut_of : List ℕ → Option (List ℕ × List ℕ)
cut_of s = option_map (λ comma. (take comma s, drop (comma + 1) s)) (place_of 44 s)

-- an edge if all three parts are numbers
abbrev pub edge_from : List ℕ → List ℕ → List ℕ → Option Edge
edge_from from to weight =
    option_and_then (λ f. option_and_then (λ t. option_map (λ w. record { from = f; to = t; weight = w }) (bits_of weight)) (decimal_of to)) (decimal_of from)

-- FROM,TO,WEIGHT: two decimals and the bits of a float, cut at the first two commas
unfoldable pub edge_of : List ℕ → Option Edge
edge_of s = option_and_then (λ x. option_and_then (λ y. edge_from x.0 y.0 y.1) (cut_of x.1)) (cut_of s)

-- what an edge line begins with
abbrev pub edge_key : List ℕ
edge_key = bytes "edge="

-- edge=FROM,TO,WEIGHT
unfoldable pub edge_line : List ℕ → ℕ → Option (Edge × ℕ)
edge_line s at = line_in edge_of (value_of edge_key s at)
