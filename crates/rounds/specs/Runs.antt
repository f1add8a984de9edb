-- What a loop of rounds promises, for whatever a round may do to the floats of a workspace. Definitions only.
use Rattle.std.specs.Prelude.{◌≡◌, Bool, true, false, List, ℕ, ◌+◌, ◌<◌, Float}
use denote.Ref.{MutBor}
use Rattle.answers.specs.declared.Settings.{Settings}
use Rattle.answers.specs.declared.Rounds.{Rounds}

-- what a round may do: the floats that it was lent, whether it met a stop rule, and the floats that it left
abbrev pub Call : Type 1
Call = MutBor (List Float) → Bool → MutBor (List Float) → Type 0

-- the floats are what k rounds made of w, none of which met a stop rule
pub data Reached (R : Call) (w : List Float) : ℕ → List Float → Type 0 where
  begun : Reached R w 0 w
  further : {k : ℕ} {x y : List Float} {p q : MutBor (List Float)} → Reached R w k x → p.now ≡ x → R p false q → q.now ≡ y → Reached R w (k + 1) y

-- w' is what k of at most `limit` rounds made of w, of which the last alone met a stop rule
pub record Met (R : Call) (limit : ℕ) (w : List Float) (k : ℕ) (w' : List Float) : Type 0 where
  pub earlier : ℕ
  pub last : List Float
  pub lent : MutBor (List Float)
  pub left : MutBor (List Float)
  pub counted : k ≡ earlier + 1
  pub within : earlier < limit
  pub reached : Reached R w earlier last
  pub shows : lent.now ≡ last
  pub met : R lent true left
  pub leaves : left.now ≡ w'

-- r reports rounds that began with w and left w'; `before`: a stop rule is met before the first of them
pub record Ended (R : Call) (settings : Settings) (before : Bool) (w : List Float) (r : Rounds) (w' : List Float) : Type 0 where
  pub kept : r.settings ≡ settings
  -- a rule met before the first round: settled after 0 rounds
  pub at_once : before ≡ true → (r.rounds ≡ 0) × (r.settled ≡ true) × (w' ≡ w)
  -- settled: the last round met a rule
  pub met : before ≡ false → r.settled ≡ true → Met R settings.limit w r.rounds w'
  -- not settled: all rounds were used, and none met a rule
  pub ran_out : before ≡ false → r.settled ≡ false → (r.rounds ≡ settings.limit) × Reached R w r.rounds w'
