-- What the steps of personalized PageRank promise each other. Definitions only.
use Rattle.std.specs.Prelude.{◌≡◌, ℕ, ◌*◌, ◌≤◌, Bool, true, List, length, Float}
use Rattle.regions.specs.Region.{list_of, Front}
use Rattle.rounds.specs.Vectors.{current_in, next_in}
use Rattle.links.specs.Links.{outs_in}
use Rattle.links.specs.Steps.{LinksPre}
use Rattle.personalized_pagerank.specs.Personalized.{personal_in, personal_base}

-- what each of n nodes has before the others give, by the personalization in the workspace
abbrev pub bases_in : ℕ → Float → List Float → List Float
bases_in n damping wf = list_of (personal_base damping (personal_in n wf)) n

-- a round may begin: what it reads is there, and the next vector holds what each node has before the others give
pub record RoundPre (n : ℕ) (w : List ℕ) (damping : Float) (wf : List Float) : Type 0 where
  pub links : LinksPre n w wf
  pub begun : next_in n wf ≡ bases_in n damping wf

-- a given vector has n entries, and the workspace has room for the four vectors
pub record PersonalPre (n : ℕ) (flag : Bool) (xs wf : List Float) : Type 0 where
  pub long : flag ≡ true → length xs ≡ n
  pub room : 4 * n ≤ length wf

-- the personalization p stands in its region and as the current vector, the next vector is begun; the out-weights are as they were
pub record PersonalBegun (n : ℕ) (damping : Float) (p wf wf' : List Float) : Type 0 where
  pub front : Front wf (4 * n) wf'
  pub personal : personal_in n wf' ≡ p
  pub current : current_in n wf' ≡ p
  pub begun : next_in n wf' ≡ bases_in n damping wf'
  pub outs : outs_in n wf' ≡ outs_in n wf
