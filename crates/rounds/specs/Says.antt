-- What an outcome says in words: the last state is the start stepped exactly `rounds` times, no earlier round met a stop rule, and
-- `settled` says whether the last one did. Definitions only.
use Rattle.std.specs.Prelude.{◌≡◌, Bool, true, false, ℕ, zero, suc, ◌+◌, ◌≤◌, ◌<◌}
use Rattle.rounds.specs.Rounds.{Round, Out}

-- s stepped k times
unfoldable pub iterate : {S : Type 0} → (S → S) → ℕ → S → S
iterate step zero s = s
iterate step (suc k) s = step (iterate step k s)

-- the state after k rounds
abbrev pub state_after : {S : Type 0} → (S → Round S) → S → ℕ → S
state_after step s k = iterate (λ x. (step x).next) k s

-- whether the round after the first k met a stop rule
abbrev pub met_after : {S : Type 0} → (S → Round S) → S → ℕ → Bool
met_after step s k = (step (state_after step s k)).met

-- o tells how at most `limit` rounds from s ended; `before`: a stop rule is met before the first of them
pub record Says {S : Type 0} (before : Bool) (step : S → Round S) (limit : ℕ) (s : S) (o : Out S) : Type 0 where
  -- the last state is the start stepped exactly that often, and no oftener than allowed
  pub last_is : o.last ≡ state_after step s o.rounds
  pub within : o.rounds ≤ limit
  -- a rule met before the first round: settled after 0 rounds
  pub at_once : before ≡ true → (o.rounds ≡ 0) × (o.settled ≡ true)
  -- no round but the last met a rule
  pub earlier : (j : ℕ) → j + 1 < o.rounds → met_after step s j ≡ false
  -- settled: the last round met one, unless one was met before the first
  pub met : before ≡ false → o.settled ≡ true → (k : ℕ) × (o.rounds ≡ k + 1) × (met_after step s k ≡ true)
  -- not settled: all rounds were used, and none met a rule
  pub ran_out : o.settled ≡ false → (before ≡ false) × (o.rounds ≡ limit) × ((j : ℕ) → j < limit → met_after step s j ≡ false)
