-- What the steps of `edge_betweenness` ask and leave. Definitions only.
use Rattle.std.specs.Prelude.{◌≡◌, Bool, false, cond, List, ℕ, ◌≤◌, length, Result, Float}
use Rattle.regions.specs.Region.{over}
use Rattle.graph.specs.Edges.{edges_of}
use Rattle.hops.specs.declared.TooManyPaths.{TooManyPaths}
use Rattle.hops.specs.Hops.{path_limit}
use Rattle.hops.specs.Search.{graph_of}
use Rattle.brandes.specs.Shares.{some_exceeds}
use Rattle.starts.specs.Starts.{Within, PreparePre, stopped}
use Rattle.edge_betweenness.specs.Edges.{forward_scores, back_scores}

-- what `score_edges` asks: what `prepare` asks, and room for the results
pub record ScorePre (n : ℕ) (directed : Bool) (from to : List ℕ) (weight forward back : List Float) (w c : List ℕ) (f : List Float) : Type 0 where
  pub ready : PreparePre n from to weight w c f
  pub forwards : length from ≤ length forward
  pub backs : directed ≡ false → length from ≤ length back

-- what it leaves: the results, or some path count above the limit
pub record ScorePost (n : ℕ) (directed normalized : Bool) (from to : List ℕ) (weight forward back : List Float) (w c : List ℕ) (f forward' back' : List Float) (w' c' : List ℕ) (f' : List Float) (r : Result (Unit {0}) TooManyPaths) : Type 0 where
  pub within : Within n (length from) w c f w' c' f'
  pub paths : some_exceeds path_limit (graph_of n directed (edges_of from to weight)) n ≡ stopped r
  pub forwards : forward' ≡ cond (stopped r) forward (over (forward_scores normalized (graph_of n directed (edges_of from to weight))) forward)
  pub backs : back' ≡ cond (stopped r) back (cond directed back (over (back_scores normalized (graph_of n directed (edges_of from to weight))) back))
