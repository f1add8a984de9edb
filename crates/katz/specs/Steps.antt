-- What the steps of `katz` ask of each other. Definitions only.
use Rattle.std.specs.Prelude.{◌≡◌, Bool, true, List, ℕ, ◌+◌, ◌≤◌, length, Float}
use Rattle.graph.specs.Pres.{Sound}
use Rattle.rounds.specs.Vectors.{next_in}
use Rattle.katz.specs.Katz.{beta_of}

-- a beta that is given has n entries, and the workspace has room for the two vectors
pub record BetaPre (n : ℕ) (flag : Bool) (beta wf : List Float) : Type 0 where
  pub room : n + n ≤ length wf
  pub long : flag ≡ true → length beta ≡ n

-- what the rounds ask: a sound graph, n entries of a beta that is given, and room for the two vectors
pub record RunPre (n : ℕ) (from to : List ℕ) (weight : List Float) (flag : Bool) (beta wf : List Float) : Type 0 where
  pub sound : Sound n from to weight
  pub vectors : BetaPre n flag beta wf

-- before a round the next vector is beta
pub record RoundPre (n : ℕ) (from to : List ℕ) (weight : List Float) (flag : Bool) (beta wf : List Float) : Type 0 where
  pub run : RunPre n from to weight flag beta wf
  pub begun : next_in n wf ≡ beta_of flag beta n
