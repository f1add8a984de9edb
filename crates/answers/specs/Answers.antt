-- The numbered answers of document 01, and what a call says: its answer's number and, when done, its values. Definitions only.
use Rattle.std.specs.Prelude.{Bool, not, cond, ℕ, eqb, Result, Ok, Err}
use Rattle.answers.specs.declared.Answer.{Answer}
use Rattle.answers.specs.declared.Answer.TheVariants.{Done, Empty, Size, Node, Number, Room, Damping, Rounds, Start, Length, Paths, Unsettled, Text}
use Rattle.answers.specs.declared.Refusal.{Refusal}

-- the number that the table gives an answer
abbrev pub number_of : Answer → ℕ
number_of Done = 0
number_of Empty = 1
number_of Size = 2
number_of Node = 3
number_of Number = 4
number_of Room = 5
number_of Damping = 6
number_of Rounds = 7
number_of Start = 8
number_of Length = 9
number_of Paths = 10
number_of Unsettled = 11
number_of Text = 12

-- every answer but DONE refuses
abbrev pub refuses : Answer → Bool
refuses a = not (eqb (number_of a) 0)

-- what a call says: DONE with its values, or a refusal with its number
pub data Said (Values : Type 0) : Type 0 where
  done : Values → Said Values
  refusal : ℕ → Said Values

-- the number of what was said
abbrev pub number_said : {Values : Type 0} → Said Values → ℕ
number_said (done v) = 0
number_said (refusal k) = k

-- a refusal with this answer
abbrev pub refused_with : {Values : Type 0} → Answer → Said Values
refused_with a = refusal (number_of a)

-- what a call says by what it returned: DONE with its values (none, or the settings, the rounds done and whether a stop rule was met,
-- or how many were elected), or the number of why it was refused
abbrev pub said_by : {Values : Type 0} → Result Values Refusal → Said Values
said_by (Ok v) = done v
said_by (Err r) = refused_with r.answer

-- what a check returns by the answer it finds: Ok for DONE, else the refusal with that answer
abbrev pub refused_if : Answer → Result (Unit {0}) Refusal
refused_if a = cond (refuses a) (Err (record { answer = a })) (Ok tt)
