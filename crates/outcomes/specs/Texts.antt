-- The answer's text of what a call says, and the settings of a job.
-- Definitions only. Document 01, "The command program".
use Rattle.std.specs.Prelude.{None, Some, List, ℕ, take, Float}
use Rattle.std.specs.Float.{binary64}
use Rattle.std.specs.Float.Ieee.{of_bits}
use Rattle.answers.specs.Answers.{Said, done, refusal}
use Rattle.graph.specs.Left.{Left}
use Rattle.answers.specs.declared.Rounds.{Rounds}
use Rattle.answers.specs.declared.Settings.{Settings}
use Rattle.lines.specs.declared.Measure.{Measure}
use Rattle.lines.specs.declared.Top.{Top}
use Rattle.reply.specs.Reply.{answer_text, election_text, refusal_text}

-- a refusal prints its number and no line; else the values make the text
abbrev pub said_text : {Values : Type 0} → Said Values → (Values → List ℕ) → List ℕ
said_text (done values) text = text values
said_text (refusal number) text = refusal_text number 0

-- the text of a measure without rounds: the first n scores
abbrev pub plain_text : Measure → ℕ → Said (Unit {0}) → List Float → List ℕ
plain_text measure n says scores = said_text says (λ _. answer_text measure n 0 None (take n scores))

-- the text of an iterative measure: the rounds done, whether they settled, and the first n scores
abbrev pub ended_text : Measure → ℕ → Said Rounds → List Float → List ℕ
ended_text measure n says scores = said_text says (λ r. answer_text measure n r.rounds (Some r.settled) (take n scores))

-- the text of an election: as many nodes as were elected
abbrev pub elected_text : ℕ → Said ℕ → List ℕ → List ℕ
elected_text n says elected = said_text says (λ k. election_text n (take k elected))

-- the settings of a job, with doubles of its bits
abbrev pub settings_of : Top → Settings
settings_of top = record { damping = of_bits binary64 top.factor; tolerance = of_bits binary64 top.tolerance; limit = top.rounds }

-- the text of what a measure without rounds left
abbrev pub plain_of : Measure → ℕ → Left (Said (Unit {0})) (List Float) → List ℕ
plain_of measure n o = plain_text measure n o.says o.results

-- the text of what an iterative measure left
abbrev pub ended_of : Measure → ℕ → Left (Said Rounds) (List Float) → List ℕ
ended_of measure n o = ended_text measure n o.says o.results

-- the text of what an election left
abbrev pub elected_of : ℕ → Left (Said ℕ) (List ℕ) → List ℕ
elected_of n o = elected_text n o.says o.results

-- the bytes that every answer has room in
abbrev pub output_room : ℕ
output_room = 32768
