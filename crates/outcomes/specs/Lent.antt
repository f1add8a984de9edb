-- What is lent to a measure of a job. Definitions only.
use Rattle.std.specs.Prelude.{List, [], ℕ, Float}
use Rattle.graph.specs.Given.{Given, given}
use Rattle.lines.specs.declared.Top.{Top}
use Rattle.outcomes.specs.declared.Task.{Task}

-- what is lent to a measure: the graph, slots for its results, and a workspace
pub record Lent : Type 0 where
  pub from : List ℕ
  pub to : List ℕ
  pub weight : List Float
  pub scores : List Float
  pub elected : List ℕ
  pub w32 : List ℕ
  pub w64 : List ℕ
  pub wf : List Float

-- what is lent, from its parts
abbrev pub lent : List ℕ → List ℕ → List Float → List Float → List ℕ → List ℕ → List ℕ → List Float → Lent
lent from to weight scores elected w32 w64 wf = record { from = from; to = to; weight = weight; scores = scores; elected = elected; w32 = w32; w64 = w64; wf = wf }

-- what is lent, from a task, the slots and the workspace
abbrev pub lent_with : Task → List Float → List ℕ → List ℕ → List ℕ → List Float → Lent
lent_with task scores elected w32 w64 wf = lent task.from.now task.to.now task.weight.now scores elected w32 w64 wf

-- what a measure that gives scores is given
abbrev pub given_scores : Top → Lent → Given (List Float)
given_scores top l = given top.nodes top.directed l.from l.to l.weight l.scores l.w32 l.w64 l.wf

-- what an election is given
abbrev pub given_elected : Top → Lent → Given (List ℕ)
given_elected top l = given top.nodes top.directed l.from l.to l.weight l.elected l.w32 l.w64 l.wf

-- what degree is given: no workspace
abbrev pub given_places : Top → Lent → Given (List Float)
given_places top l = given top.nodes top.directed l.from l.to l.weight l.scores [] [] []
