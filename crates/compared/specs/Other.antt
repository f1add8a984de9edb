-- What a call says and leaves, held to its record. Definitions only.
use Rattle.std.specs.Prelude.{Bool, true, false, cond, not, ◌||◌, ◌&&◌, List, [], ◌∷◌, ℕ, eqb, ltb, take, replicate, Float}
use Rattle.std.specs.Float.{binary64}
use Rattle.std.specs.Float.Ieee.{to_bits}
use Rattle.graph.specs.declared.Fronts.{Fronts}
use Rattle.graph.specs.Fronts.{usual_fronts, no_fronts}
use Rattle.words.specs.declared.Places.{Places}
use Rattle.words.specs.Words.{word_at, results_at}
use Rattle.lent.specs.declared.Left.{Left}
use Rattle.lent.specs.Slots.{old32, old64, old_f}

-- Whether a slice, each slot read as a number, is not these numbers and then the old one up to its end.
unfoldable pub is_other : {A : Type 0} → (A → ℕ) → ℕ → List A → List ℕ → Bool
is_other read old [] [] = false
is_other read old [] (w ∷ ws) = true
is_other read old (x ∷ xs) [] = cond (eqb (read x) old) (is_other read old xs []) true
is_other read old (x ∷ xs) (w ∷ ws) = cond (eqb (read x) w) (is_other read old xs ws) true

-- Of a slice of 32 bits.
abbrev pub is_other32 : List ℕ → List ℕ → Bool
is_other32 slice first = is_other (λ x. x) old32 slice first

-- Of a slice of 64 bits.
abbrev pub is_other64 : List ℕ → List ℕ → Bool
is_other64 slice first = is_other (λ x. x) old64 slice first

-- Of a slice of floats, by their bits; one NaN is as good as another.
abbrev pub is_other_f : List Float → List ℕ → Bool
is_other_f slice first = is_other (to_bits binary64) (to_bits binary64 old_f) slice first

-- Whether a slice of nodes, distances or counts is not the record's results and then what it was.
unfoldable pub other_counts : List ℕ → Places → List ℕ → List ℕ → Bool
other_counts ws p narrow wide = is_other32 narrow (results_at ws p.narrow) || is_other64 wide (results_at ws p.wide)

-- The same of a slice of scores.
unfoldable pub other_scores : List ℕ → Places → List Float → List Float → Bool
other_scores ws p floats back = is_other_f floats (results_at ws p.floats) || is_other_f back (results_at ws p.back)

-- So many zeros: no slice of the workspace has more than 2,200 slots.
abbrev pub zeros : ℕ → List ℕ
zeros n = take n (replicate 2200 0)

-- Whether the workspace is not zero in its used front and then what it was.
unfoldable pub other_work : Fronts → List ℕ → List ℕ → List Float → Bool
other_work front w32 w64 wf =
    is_other32 w32 (zeros front.narrow) || (is_other64 w64 (zeros front.wide) || is_other_f wf (zeros front.floats))

-- Whether a call with this answer uses no workspace: the degrees, and what is refused by the answers 1 to 9.
unfoldable pub uses_none : ℕ → ℕ → Bool
uses_none call answer = ltb call 3 || (not (eqb answer 0) && ltb answer 10)

-- The front that a call with this answer uses: none beyond the limits either.
unfoldable pub used_front : ℕ → ℕ → ℕ → ℕ → Fronts
used_front call answer nodes edges =
    cond (uses_none call answer) no_fronts (cond (ltb 4096 nodes) no_fronts (cond (ltb 32768 edges) no_fronts (usual_fronts nodes edges)))

-- The front that the record's call uses.
abbrev pub record_front : List ℕ → Places → ℕ → Fronts
record_front ws p edges = used_front (word_at ws 0 0) (word_at ws p.said 0) (word_at ws 1 0) edges

-- Whether a result or the workspace is another.
unfoldable pub leaves_other : List ℕ → Places → ℕ → Left → Bool
leaves_other ws p edges l =
    other_counts ws p l.slots.narrow l.slots.wide || (other_scores ws p l.slots.floats l.slots.back || other_work (record_front ws p edges) l.slots.w32 l.slots.w64 l.slots.wf)

-- Whether the answer or a report is another.
unfoldable pub says_other : List ℕ → Places → Left → Bool
says_other ws p l =
    not (eqb l.said.answer (word_at ws p.said 0)) || (not (eqb l.said.settled (word_at ws p.said 1)) || (not (eqb l.said.rounds (word_at ws p.said 2)) || not (eqb l.said.elected (word_at ws p.said 3))))

-- Whether something said or left is not what the record has.
unfoldable pub finds_other : List ℕ → Places → ℕ → Left → Bool
finds_other ws p edges l = leaves_other ws p edges l || says_other ws p l
