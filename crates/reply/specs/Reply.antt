-- The text of an answer: of a finished one with its scores or its elected, and of a refusal.
-- Definitions only. Document 01, "The command program".
use Rattle.std.specs.Prelude.{ℕ, ◌+◌, Bool, true, false, Option, Some, None, List, [], ◌∷◌, ◌++◌, Float}
use Rattle.std.specs.Float.{binary64}
use Rattle.std.specs.Float.Ieee.{to_bits}
use Rattle.text.specs.Bytes.{bytes}
use Rattle.text.specs.Written.{decimal_text, bits_text}
use Rattle.lines.specs.declared.Measure.{Measure}
use Rattle.lines.specs.declared.Measure.TheVariants.{Voterank}
use Rattle.lines.specs.Names.{name_of}

-- whether the rounds settled: yes or no, and none where there are no rounds
abbrev pub settled_text : Option Bool → List ℕ
settled_text (Some true) = bytes "yes"
settled_text (Some false) = bytes "no"
settled_text None = bytes "none"

-- KEY DECIMAL
abbrev pub number_text : List ℕ → ℕ → List ℕ
number_text key v = key ++ decimal_text v ++ bytes "\n"

-- measure=NAME
abbrev pub measure_text : Measure → List ℕ
measure_text measure = bytes "measure=" ++ name_of measure ++ bytes "\n"

-- settled=yes, no or none
abbrev pub settled_line : Option Bool → List ℕ
settled_line settled = bytes "settled=" ++ settled_text settled ++ bytes "\n"

-- the five lines of a finished answer
abbrev pub head_text : Measure → ℕ → ℕ → Option Bool → List ℕ
head_text measure nodes rounds settled =
    measure_text measure
    ++ number_text (bytes "answer=") 0
    ++ number_text (bytes "nodes=") nodes
    ++ number_text (bytes "rounds=") rounds
    ++ settled_line settled

-- a line for each element of a list, the first of them at place k
unfoldable pub lines_text : {A : Type 0} → (ℕ → A → List ℕ) → ℕ → List A → List ℕ
lines_text line k [] = []
lines_text line k (x ∷ xs) = line k x ++ lines_text line (k + 1) xs

-- score=NODE,BITS; the bits of a NaN are 7ff8000000000000
abbrev pub score_text : ℕ → Float → List ℕ
score_text k x = bytes "score=" ++ decimal_text k ++ bytes "," ++ bits_text (to_bits binary64 x) ++ bytes "\n"

-- elected=NODE
abbrev pub elected_text : ℕ → ℕ → List ℕ
elected_text k node = number_text (bytes "elected=") node

-- a measure's answer
abbrev pub answer_text : Measure → ℕ → ℕ → Option Bool → List Float → List ℕ
answer_text measure nodes rounds settled scores = head_text measure nodes rounds settled ++ lines_text score_text 0 scores

-- VoteRank's answer: the elected in their order
abbrev pub election_text : ℕ → List ℕ → List ℕ
election_text nodes elected = head_text Voterank nodes 0 None ++ lines_text elected_text 0 elected

-- a refusal: its number, and the faulty line or 0
abbrev pub refusal_text : ℕ → ℕ → List ℕ
refusal_text answer line = number_text (bytes "answer=") answer ++ number_text (bytes "line=") line
