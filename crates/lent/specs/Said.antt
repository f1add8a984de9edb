-- What a call leaves unreported, in a record's words: 0 for what it does not report. Definitions only.
use Rattle.std.specs.Prelude.{◌≡◌}
use Rattle.lent.specs.declared.Left.{Left}

-- A call that goes by no rounds reports none.
abbrev pub NoRounds : Left → Type 0
NoRounds l = (l.said.settled ≡ 0) × (l.said.rounds ≡ 0)

-- A call that elects nobody reports nobody.
abbrev pub NoElection : Left → Type 0
NoElection l = l.said.elected ≡ 0
