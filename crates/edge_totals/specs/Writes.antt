-- Edge betweenness: what the writing of the results asks and leaves. Definitions only.
use Rattle.std.specs.Prelude.{◌≡◌, ℕ, ◌+◌, ◌*◌, ◌<◌, ◌≤◌, Bool, false, cond, List, map, length, get_or, slice_index_or, Float}
use Rattle.std.specs.Float.{nan, binary64}
use Rattle.std.specs.Float.Ieee.{mul}
use Rattle.regions.specs.Region.{over, Front, Frame}
use Rattle.graph.specs.Edges.{Graph, edges_of}
use Rattle.answers.specs.Settings.{node_limit}
use Rattle.graph.specs.Fronts.{usual_fronts}
use Rattle.graph.specs.Pres.{Sound}
use Rattle.graph.specs.Layout.{beside_at, distances_at, totals_at}
use Rattle.hops.specs.Search.{graph_of, RowsOf}
use Rattle.pairs.specs.Numbers.{number_in, Numbered}
use Rattle.pair_starts.specs.Starts.{TotalsHeld}
use Rattle.crossings.specs.Totals.{scaled_total}

-- the rows of g stand in w, with the number of each row entry's pair beside it
pub record RowsNumbered (g : Graph) (m : ℕ) (w : List ℕ) : Type 0 where
  pub rows : RowsOf g w (distances_at g.nodes m)
  pub most : get_or w g.nodes 0 ≤ 2 * m
  pub numbered : Numbered g (number_in w g) w (beside_at g.nodes m)

-- what `write_edges` asks: numbered rows and room for the totals, and results with room for them
pub record EdgesPre (n : ℕ) (directed : Bool) (from to w : List ℕ) (f forward back : List Float) : Type 0 where
  pub weight : List Float
  pub sound : Sound n from to weight
  pub numbered : RowsNumbered (graph_of n directed (edges_of from to weight)) (length from) w
  pub narrow : (usual_fronts n (length from)).narrow ≤ length w
  pub floats : (usual_fronts n (length from)).floats ≤ length f
  pub forwards : length from ≤ length forward
  pub backs : directed ≡ false → length from ≤ length back

-- each edge's total, scaled, and undirected the one of the reversed pair too, whatever the totals and the weights are
pub record EdgesPost (n : ℕ) (directed normalized : Bool) (from to w : List ℕ) (f forward back : List Float) (w' : List ℕ) (f' forward' back' : List Float) : Type 0 where
  pub narrow : Front w (usual_fronts n (length from)).narrow w'
  pub floats : Front f (usual_fronts n (length from)).floats f'
  pub forwards : (weight : List Float) → Sound n from to weight → RowsNumbered (graph_of n directed (edges_of from to weight)) (length from) w
      → (total : ℕ → ℕ → Float) → TotalsHeld (graph_of n directed (edges_of from to weight)) w f total
      → forward' ≡ over (map (λ e. scaled_total n directed normalized (total e.from e.to)) (edges_of from to weight)) forward
  pub backs : (weight : List Float) → Sound n from to weight → RowsNumbered (graph_of n directed (edges_of from to weight)) (length from) w
      → (total : ℕ → ℕ → Float) → TotalsHeld (graph_of n directed (edges_of from to weight)) w f total
      → back' ≡ cond directed back (over (map (λ e. scaled_total n directed normalized (total e.to e.from)) (edges_of from to weight)) back)

-- f' is f with each of the len floats from base times the factor
pub record Multiplied (f : List Float) (base len : ℕ) (factor : Float) (f' : List Float) : Type 0 where
  pub frame : Frame f base len f'
  pub at : (i : ℕ) → i < len → slice_index_or f' (base + i) nan ≡ mul binary64 (slice_index_or f (base + i) nan) factor

-- what `scale_totals` asks: f has this many totals
pub record ScalePre (n many : ℕ) (f : List Float) : Type 0 where
  pub few : n ≤ node_limit
  pub held : totals_at n + many ≤ length f

-- what it leaves: each total scaled, and nothing else differs
pub record TotalsScaled (n : ℕ) (directed normalized : Bool) (many : ℕ) (f f' : List Float) : Type 0 where
  pub frame : Frame f (totals_at n) many f'
  pub at : (q : ℕ) → q < many → slice_index_or f' (totals_at n + q) nan ≡ scaled_total n directed normalized (slice_index_or f (totals_at n + q) nan)
