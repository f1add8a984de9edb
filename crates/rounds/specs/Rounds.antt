-- Rounds until a stop rule is met: where they end, how many were done, and whether a rule was met (document 01, "rounds" and "settled"). Definitions only.
use Rattle.std.specs.Prelude.{Bool, true, false, cond, ℕ, zero, suc, ◌+◌}

-- s after the first k turns of a loop, whose turn is told its number
unfoldable pub after : {S : Type 0} → (ℕ → S → S) → ℕ → S → S
after turn zero s = s
after turn (suc k) s = turn k (after turn k s)

-- what a round makes of a state: the next state, and whether a stop rule was met
pub record Round (S : Type 0) : Type 0 where
  pub next : S
  pub met : Bool

-- a round from its parts
abbrev pub round : {S : Type 0} → S → Bool → Round S
round s b = record { next = s; met = b }

-- where the rounds ended: the last state, how many rounds were done, and whether a stop rule was met
pub record Out (S : Type 0) : Type 0 where
  pub last : S
  pub rounds : ℕ
  pub settled : Bool

-- where rounds ended, from its parts
abbrev pub out : {S : Type 0} → S → ℕ → Bool → Out S
out s k b = record { last = s; rounds = k; settled = b }

-- at most `more` further rounds from s, after k of them
unfoldable pub outcome_from : {S : Type 0} → (S → Round S) → ℕ → ℕ → S → Out S
outcome_from step zero k s = out s k false
outcome_from step (suc more) k s = cond (step s).met (out (step s).next (k + 1) true) (outcome_from step more (k + 1) (step s).next)

-- at most `limit` rounds from s; `before`: a stop rule is met before the first of them
unfoldable pub outcome : {S : Type 0} → Bool → (S → Round S) → ℕ → S → Out S
outcome before step limit s = cond before (out s 0 true) (outcome_from step limit 0 s)
