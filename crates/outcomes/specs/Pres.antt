-- What a measure's steps take for granted of its slices. Definitions only.
use Rattle.std.specs.Prelude.{List, ℕ, ◌≤◌, length}
use Rattle.answers.specs.Settings.{job_node_limit}
use Rattle.outcomes.specs.Texts.{output_room}

-- the output has room for every answer
pub record Room (output : List ℕ) : Type 0 where
  pub room : output_room ≤ length output

-- a job's nodes, each with a slot
pub record Fits (nodes slots : ℕ) : Type 0 where
  pub few : nodes ≤ job_node_limit
  pub slot : nodes ≤ slots

-- no more slots for the elected than a job may have nodes
pub record Few (slots : ℕ) : Type 0 where
  pub few : slots ≤ job_node_limit
