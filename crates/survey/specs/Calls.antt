-- A call of `survey` that answered DONE, and what it left in the result slices. Definitions only.
use Rattle.std.specs.Prelude.{◌≡◌, Bool, List, ℕ, Float, Result, Ok}
use Rattle.answers.specs.declared.Refusal.{Refusal}
use Rattle.answers.specs.Answers.{said_by}
use Rattle.graph.specs.Given.{given}
use Rattle.graph.specs.Left.{left}
use Rattle.survey.specs.Survey.{Results, results, survey_outcome}

-- the edge slices of a call, with its number of nodes and its flag
pub record Slices : Type 0 where
  pub nodes : ℕ
  pub directed : Bool
  pub from : List ℕ
  pub to : List ℕ
  pub weight : List Float

-- the same edges, each turned round: the two slices of ends change places
abbrev pub exchanged : Slices → Slices
exchanged e = record { nodes = e.nodes; directed = e.directed; from = e.to; to = e.from; weight = e.weight }

-- A call of `survey` over these slices from `start` that was not refused. `call` is its contract: it was lent some result slices and some workspace, and
-- left `distances` and `counts` in the result slices.
pub record Survey (e : Slices) (start : ℕ) : Type 0 where
  pub lent : Results
  pub w32 : List ℕ
  pub w64 : List ℕ
  pub wf : List Float
  pub returned : Result (Unit {0}) Refusal
  pub distances : List ℕ
  pub counts : List ℕ
  pub w32_left : List ℕ
  pub w64_left : List ℕ
  pub wf_left : List Float
  pub call : left (said_by returned) (results distances counts) w32_left w64_left wf_left ≡ survey_outcome start (given e.nodes e.directed e.from e.to e.weight lent w32 w64 wf)
  pub done : returned ≡ Ok tt
