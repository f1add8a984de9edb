-- What the steps of `betweenness` ask and leave. Definitions only.
use Rattle.std.specs.Prelude.{◌≡◌, ℕ, ◌≤◌, Bool, cond, List, length, Float, Result}
use Rattle.regions.specs.Region.{over}
use Rattle.graph.specs.Edges.{edges_of}
use Rattle.answers.specs.Settings.{node_limit}
use Rattle.hops.specs.declared.TooManyPaths.{TooManyPaths}
use Rattle.hops.specs.Hops.{path_limit}
use Rattle.hops.specs.Search.{graph_of}
use Rattle.brandes.specs.Shares.{some_exceeds}
use Rattle.starts.specs.Starts.{stopped, Within, PreparePre}
use Rattle.betweenness.specs.Betweenness.{betweenness_scores}

-- what `score_nodes` asks: what `prepare` asks, and room for the scores
pub record ScorePre (n : ℕ) (from to : List ℕ) (weight scores : List Float) (w c : List ℕ) (f : List Float) : Type 0 where
  pub ready : PreparePre n from to weight w c f
  pub room : n ≤ length scores

-- what it leaves: the scores, or some path count above the limit
pub record ScorePost (n : ℕ) (directed normalized : Bool) (from to : List ℕ) (weight scores : List Float) (w c : List ℕ) (f scores' : List Float) (w' c' : List ℕ) (f' : List Float) (r : Result (Unit {0}) TooManyPaths) : Type 0 where
  pub within : Within n (length from) w c f w' c' f'
  pub paths : some_exceeds path_limit (graph_of n directed (edges_of from to weight)) n ≡ stopped r
  pub results : scores' ≡ cond (stopped r) scores (over (betweenness_scores normalized (graph_of n directed (edges_of from to weight))) scores)

-- the scores are in the workspace, and the results have room for them
pub record WritePre (n : ℕ) (f scores : List Float) : Type 0 where
  pub few : n ≤ node_limit
  pub held : n ≤ length f
  pub room : n ≤ length scores
