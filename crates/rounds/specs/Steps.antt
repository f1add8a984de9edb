-- What the edges of eigenvector and Katz add to a vector, and what a round and the rounds of all four iterative measures leave. Definitions only.
use Rattle.std.specs.Prelude.{◌≡◌, Bool, List, ℕ, ◌+◌, ◌≤◌, length, Float}
use mathlib.Core.List.{foldl}
use Rattle.regions.specs.Region.{Front}
use Rattle.answers.specs.declared.Settings.{Settings}
use Rattle.answers.specs.declared.Rounds.{Rounds}
use Rattle.graph.specs.Edges.{Edge, edges_of}
use Rattle.graph.specs.Pres.{Sound}
use Rattle.rounds.specs.Rounds.{Round, round, Out, out}
use Rattle.rounds.specs.Vectors.{current_in, next_in, spreads, Vectors}

-- a sound graph, and room for the two vectors
pub record SpreadsPre (n : ℕ) (from to : List ℕ) (weight wf : List Float) : Type 0 where
  pub sound : Sound n from to weight
  pub room : n + n ≤ length wf

-- an edge, whose weight `by` turns into a factor: y[from] gains it times x[to]; undirected, with two different ends, then the reverse
abbrev pub edge_spread : (Float → Float) → Bool → List Float → List Float → Edge → List Float
edge_spread by directed x y e = spreads directed (by e.weight) x y e.from e.to

-- the next vector is what the edges make of it, in list order; the current one is as it was
abbrev pub EdgesSpread : (Float → Float) → ℕ → Bool → List ℕ → List ℕ → List Float → List Float → List Float → Type 0
EdgesSpread by n directed from to weight wf wf' =
    Vectors n wf (current_in n wf) (foldl (edge_spread by directed (current_in n wf)) (next_in n wf) (edges_of from to weight)) wf'

-- a round was done, which met a stop rule or not: the current vector is what it made
pub record RoundDone (n : ℕ) (step : List Float → Round (List Float)) (wf : List Float) (met : Bool) (wf' : List Float) : Type 0 where
  pub front : Front wf (n + n) wf'
  pub stepped : step (current_in n wf) ≡ round (current_in n wf') met

-- the rounds are done: r reports them, and the current vector is their last
pub record RoundsDone (n : ℕ) (settings : Settings) (o : Out (List Float)) (wf : List Float) (r : Rounds) (wf' : List Float) : Type 0 where
  pub front : Front wf (n + n) wf'
  pub settings_kept : r.settings ≡ settings
  pub ended : out (current_in n wf') r.rounds r.settled ≡ o
