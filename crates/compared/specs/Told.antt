-- What a call says, held to its record. Definitions only.
use Rattle.std.specs.Prelude.{◌≡◌, List, ℕ}
use Rattle.words.specs.declared.Places.{Places}
use Rattle.words.specs.Words.{word_at}
use Rattle.lent.specs.declared.Left.{Left}

-- The answer and the reports are the record's.
abbrev pub Told : List ℕ → Places → Left → Type 0
Told ws p l =
    (l.said.answer ≡ word_at ws p.said 0) × (l.said.settled ≡ word_at ws p.said 1) × (l.said.rounds ≡ word_at ws p.said 2) × (l.said.elected ≡ word_at ws p.said 3)
