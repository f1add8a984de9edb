-- What the steps of `eigenvector` ask of each other. Definitions only.
use Rattle.std.specs.Prelude.{◌≡◌, ℕ, List, Float}
use Rattle.rounds.specs.Vectors.{current_in, next_in}
use Rattle.rounds.specs.Steps.{SpreadsPre}
use Rattle.eigenvector.specs.Eigenvector.{start_of}

-- before a round the next vector is the current one, and `start` is the start value
pub record RoundPre (n : ℕ) (from to : List ℕ) (weight : List Float) (start : Float) (wf : List Float) : Type 0 where
  pub spreads : SpreadsPre n from to weight wf
  pub begun : next_in n wf ≡ current_in n wf
  pub value : start ≡ start_of n
