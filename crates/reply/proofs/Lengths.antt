-- How long the texts are: the room that an answer needs at most.
-- Assumes nothing.
use mathlib.Core.Path.{◌≡◌}
use mathlib.Core.List.{List, [], ◌∷◌, ◌++◌}
use Prim.Native.Nat.{ℕ, ◌+◌, ◌*◌, ◌≤◌}
use native.Mathlib.Omega.{arith}
use lib.ListN.{length, length-append}
use lib.Ieee.{Float, binary64, to_bits}
use Rattle.text.specs.Bytes.{bytes}
use Rattle.text.specs.Written.{count_in, decimal_text, bits_text}
use Rattle.text.proofs.Numerals.{digits_long, count_long}
use Rattle.lines.specs.declared.Measure.{Measure}
use Rattle.lines.specs.declared.Measure.TheVariants.{Voterank}
use Rattle.lines.specs.Names.{name_of}
use Rattle.lines.proofs.Measures.{name_long}
use Rattle.std.specs.Prelude.{Bool, true, false, Option, Some, None}
use Rattle.reply.specs.Reply.{settled_text, number_text, measure_text, settled_line, head_text, lines_text, score_text, elected_text, answer_text, election_text, refusal_text}

decimal_long : (v : ℕ) → length (decimal_text v) ≤ 20
decimal_long v = omega (arith, digits_long 10 (count_in 19 v) v, count_long 19 v)

number_long : (key : List ℕ) (v : ℕ) → length (number_text key v) ≤ length key + 21
number_long key v = omega (arith, length-append (key ++ decimal_text v) (bytes "\n"), length-append key (decimal_text v), decimal_long v)

settled_long : (settled : Option Bool) → length (settled_text settled) ≤ 4
settled_long (Some true) = omega arith
settled_long (Some false) = omega arith
settled_long None = omega arith

measure_long : (measure : Measure) → length (measure_text measure) ≤ 21
measure_long measure = omega (arith, length-append (bytes "measure=" ++ name_of measure) (bytes "\n"), length-append (bytes "measure=") (name_of measure), name_long measure)

settled_line_long : (settled : Option Bool) → length (settled_line settled) ≤ 13
settled_line_long settled = omega (arith, length-append (bytes "settled=" ++ settled_text settled) (bytes "\n"), length-append (bytes "settled=") (settled_text settled), settled_long settled)

-- five texts one after the other
five : (a b c d e : List ℕ) → length (a ++ b ++ c ++ d ++ e) ≡ length a + length b + length c + length d + length e
five a b c d e = omega (arith, length-append (a ++ b ++ c ++ d) e, length-append (a ++ b ++ c) d, length-append (a ++ b) c, length-append a b)

head_long : (measure : Measure) (nodes rounds : ℕ) (settled : Option Bool) → length (head_text measure nodes rounds settled) ≤ 128
head_long measure nodes rounds settled =
    let m = measure_long measure in
    let a = number_long (bytes "answer=") 0 in
    let n = number_long (bytes "nodes=") nodes in
    let r = number_long (bytes "rounds=") rounds in
    let l = settled_line_long settled in
    omega (arith, five (measure_text measure) (number_text (bytes "answer=") 0) (number_text (bytes "nodes=") nodes) (number_text (bytes "rounds=") rounds) (settled_line settled))

score_long : (k : ℕ) (x : Float) → length (score_text k x) ≤ 44
score_long k x =
    let d = decimal_long k in
    let b = digits_long 16 16 (to_bits binary64 x) in
    omega (arith, five (bytes "score=") (decimal_text k) (bytes ",") (bits_text (to_bits binary64 x)) (bytes "\n"))

elected_long : (k node : ℕ) → length (elected_text k node) ≤ 29
elected_long k node = omega (arith, number_long (bytes "elected=") node)

-- lines of at most b bytes each
lines_long : {A : Type 0} (line : ℕ → A → List ℕ) (b : ℕ) → ((k : ℕ) (x : A) → length (line k x) ≤ b) → (k : ℕ) (xs : List A) → length (lines_text line k xs) ≤ b * length xs
unfolding lines_text
lines_long line b h k [] = omega arith
lines_long line b h k (x ∷ xs) =
    let one = h k x in
    let rest = lines_long line b h (k + 1) xs in
    omega (arith, length-append (line k x) (lines_text line (k + 1) xs))

-- the room of each whole text
pub answer_long : (measure : Measure) (nodes rounds : ℕ) (settled : Option Bool) (scores : List Float) → length (answer_text measure nodes rounds settled scores) ≤ 128 + 44 * length scores
answer_long measure nodes rounds settled scores =
    let h = head_long measure nodes rounds settled in
    let l = lines_long score_text 44 score_long 0 scores in
    omega (arith, length-append (head_text measure nodes rounds settled) (lines_text score_text 0 scores))

pub election_long : (nodes : ℕ) (elected : List ℕ) → length (election_text nodes elected) ≤ 128 + 29 * length elected
election_long nodes elected =
    let h = head_long Voterank nodes 0 None in
    let l = lines_long elected_text 29 elected_long 0 elected in
    omega (arith, length-append (head_text Voterank nodes 0 None) (lines_text elected_text 0 elected))

pub refusal_long : (answer line : ℕ) → length (refusal_text answer line) ≤ 54
refusal_long answer line =
    let a = number_long (bytes "answer=") answer in
    let l = number_long (bytes "line=") line in
    omega (arith, length-append (number_text (bytes "answer=") answer) (number_text (bytes "line=") line))
