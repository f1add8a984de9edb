-- What the answer of a job's measure takes for granted. Definitions only.
use Rattle.std.specs.Prelude.{List, ℕ, ◌≤◌, length}
use Rattle.answers.specs.Settings.{job_node_limit, job_edge_limit}

-- a job within the program's limits: its nodes, and its edges given by their weights' bits
pub record Within (nodes : ℕ) (bits : List ℕ) : Type 0 where
  pub nodes_few : nodes ≤ job_node_limit
  pub edges_few : length bits ≤ job_edge_limit
