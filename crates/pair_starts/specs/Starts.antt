-- Edge betweenness: what holds in the workspace between two starts, and what the steps ask and leave. Definitions only.
use Rattle.std.specs.Prelude.{◌≡◌, Bool, false, Result, ℕ, ◌+◌, ◌*◌, ◌≤◌, ◌<◌, length, get_or, Float}
use mathlib.Core.List.{List, Memᴰ}
use Rattle.std.specs.Float.{nan}
use Rattle.graph.specs.Edges.{Edge, Graph, entries, edges_of}
use Rattle.graph.specs.Fronts.{usual_fronts}
use Rattle.graph.specs.Pres.{Limits}
use Rattle.graph.specs.Layout.{beside_at, predecessor_pairs_at, totals_at}
use Rattle.hops.specs.declared.TooManyPaths.{TooManyPaths}
use Rattle.hops.specs.Hops.{exceeds, path_limit}
use Rattle.hops.specs.Search.{graph_of}
use Rattle.pairs.specs.Numbers.{number_in, Numbered, table_at}
use Rattle.pair_search.specs.declared.PairTracks.{PairTracks}
use Rattle.brandes.specs.Shares.{some_exceeds}
use Rattle.starts.specs.Starts.{Within, Still, tracks_at, stopped}
use Rattle.crossings.specs.Totals.{totals_from, totals_after}

-- where a start keeps what it finds, in the workspace of a graph of n nodes and m edges
abbrev pub paired_at : ℕ → ℕ → PairTracks
paired_at n m = record { tracks = tracks_at n m; table = table_at n m; pairs = predecessor_pairs_at n m }

-- the workspace between two starts, with the number of each row entry's pair beside it and room for the totals
pub record StillPairs (g : Graph) (m : ℕ) (w c : List ℕ) (f : List Float) : Type 0 where
  pub still : Still g m w c f
  -- the rows have at most 2m entries
  pub most : get_or w g.nodes 0 ≤ 2 * m
  pub numbered : Numbered g (number_in w g) w (beside_at g.nodes m)
  pub room : (usual_fronts g.nodes m).floats ≤ length f

-- f holds the total of each pair with an entry, at its number
pub record TotalsHeld (g : Graph) (w : List ℕ) (f : List Float) (total : ℕ → ℕ → Float) : Type 0 where
  pub at : (v x : ℕ) → v < g.nodes → Memᴰ x (entries g v) → get_or f (totals_at g.nodes + number_in w g v x) nan ≡ total v x

-- ---- the starts

-- there is a graph whose rows stand in w, between two starts
pub record CrossPre (n m s : ℕ) (w c : List ℕ) (f : List Float) : Type 0 where
  pub directed : Bool
  pub edges : List Edge
  pub still : StillPairs (graph_of n directed edges) m w c f
  pub limits : Limits n m
  pub start : s < n

-- what a start leaves, of every graph whose rows stand in w: its shares added to the totals, or some path count above the limit
pub record CrossPost (n m s : ℕ) (w c : List ℕ) (f : List Float) (w' c' : List ℕ) (f' : List Float) (r : Result (Unit {0}) TooManyPaths) : Type 0 where
  pub within : Within n m w c f w' c' f'
  pub still : stopped r ≡ false → (directed : Bool) (es : List Edge) → StillPairs (graph_of n directed es) m w c f → StillPairs (graph_of n directed es) m w' c' f'
  pub totals : stopped r ≡ false → (directed : Bool) (es : List Edge) → StillPairs (graph_of n directed es) m w c f → (total : ℕ → ℕ → Float) → TotalsHeld (graph_of n directed es) w f total
      → TotalsHeld (graph_of n directed es) w' f' (totals_from (graph_of n directed es) s total).total
  pub paths : (directed : Bool) (es : List Edge) → StillPairs (graph_of n directed es) m w c f → exceeds path_limit (graph_of n directed es) s ≡ stopped r

-- what all starts ask: there is a graph whose rows stand in w, between two starts
pub record CrossAllPre (n m : ℕ) (w c : List ℕ) (f : List Float) : Type 0 where
  pub directed : Bool
  pub edges : List Edge
  pub still : StillPairs (graph_of n directed edges) m w c f
  pub limits : Limits n m

-- what they leave, of every graph whose rows stand in w: the totals after the last start, or some path count above the limit
pub record CrossAllPost (n m : ℕ) (w c : List ℕ) (f : List Float) (w' c' : List ℕ) (f' : List Float) (r : Result (Unit {0}) TooManyPaths) : Type 0 where
  pub within : Within n m w c f w' c' f'
  pub still : stopped r ≡ false → (directed : Bool) (es : List Edge) → StillPairs (graph_of n directed es) m w c f → StillPairs (graph_of n directed es) m w' c' f'
  pub totals : stopped r ≡ false → (directed : Bool) (es : List Edge) → StillPairs (graph_of n directed es) m w c f → TotalsHeld (graph_of n directed es) w f (totals_after (graph_of n directed es) 0)
      → TotalsHeld (graph_of n directed es) w' f' (totals_after (graph_of n directed es) n)
  pub paths : (directed : Bool) (es : List Edge) → StillPairs (graph_of n directed es) m w c f → some_exceeds path_limit (graph_of n directed es) n ≡ stopped r

-- ---- the beginning

-- the workspace is ready for the first start
pub record PreparedPairs (n : ℕ) (directed : Bool) (from to : List ℕ) (weight : List Float) (w c : List ℕ) (f : List Float) (w' c' : List ℕ) (f' : List Float) : Type 0 where
  pub within : Within n (length from) w c f w' c' f'
  pub still : StillPairs (graph_of n directed (edges_of from to weight)) (length from) w' c' f'
  pub totals : TotalsHeld (graph_of n directed (edges_of from to weight)) w' f' (totals_after (graph_of n directed (edges_of from to weight)) 0)
