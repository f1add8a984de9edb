-- What holds in the workspace between two starts, and what the steps ask and leave. Definitions only.
use Rattle.std.specs.Prelude.{◌≡◌, Bool, true, false, List, ℕ, ◌+◌, ◌*◌, ◌≤◌, ◌<◌, length, get_or, Float, Result, Ok, Err}
use Rattle.std.specs.Float.{nan}
use Rattle.regions.specs.Region.{zero_f, Front, Frame}
use Rattle.graph.specs.Edges.{Edge, Graph, edges_of}
use Rattle.graph.specs.Fronts.{usual_fronts}
use Rattle.graph.specs.Pres.{Limits, Sound, Roomy}
use Rattle.graph.specs.Layout.{distances_at, queue_at, incoming_at, filled_at, predecessors_at}
use Rattle.rows.specs.Rows.{rows_front}
use Rattle.hops.specs.declared.TooManyPaths.{TooManyPaths}
use Rattle.hops.specs.Hops.{unreached, exceeds, path_limit}
use Rattle.hops.specs.Search.{places_at, graph_of, Space, Fresh}
use Rattle.predecessors.specs.declared.Tracks.{Tracks}
use Rattle.predecessors.specs.Tracks.{leading, Slots, NoEntries}
use Rattle.brandes.specs.Shares.{from_start, scores_after, some_exceeds}

-- where the searches of a call with n nodes and m edges work
abbrev pub tracks_at : ℕ → ℕ → Tracks
tracks_at n m =
    record {
      places = places_at n m path_limit;
      first = incoming_at n m;
      last = filled_at n m;
      base = predecessors_at n m;
    }

-- whether a path count above the limit stopped a step
abbrev pub stopped : {Values : Type 0} → Result Values TooManyPaths → Bool
stopped (Ok v) = false
stopped (Err e) = true

-- w, c and f differ from w₀, c₀ and f₀ in the fronts of a graph with n nodes and m edges only
pub record Within (n m : ℕ) (w₀ c₀ : List ℕ) (f₀ : List Float) (w c : List ℕ) (f : List Float) : Type 0 where
  pub narrow : Front w₀ (usual_fronts n m).narrow w
  pub wide : Front c₀ (usual_fronts n m).wide c
  pub floats : Front f₀ (usual_fronts n m).floats f

-- the workspace between two starts, for a graph g with m edges
pub record Still (g : Graph) (m : ℕ) (w c : List ℕ) (f : List Float) : Type 0 where
  pub few : g.nodes < unreached
  pub space : (s : ℕ) → s < g.nodes → Space g s w c (distances_at g.nodes m) (queue_at g.nodes m)
  pub slots : Slots g (tracks_at g.nodes m) w
  -- there are places for at most 2m predecessor entries
  pub top : get_or w (incoming_at g.nodes m + g.nodes) 0 ≤ 2 * m
  -- no node has a distance, a count, a predecessor entry or a delta
  pub fresh : Fresh g.nodes w c (distances_at g.nodes m)
  pub empty : NoEntries g.nodes (tracks_at g.nodes m) w
  pub floats : g.nodes + g.nodes ≤ length f
  pub deltas : (v : ℕ) → v < g.nodes → get_or f (g.nodes + v) nan ≡ zero_f

-- the first places of f hold these scores
pub record Scored (n : ℕ) (f scores : List Float) : Type 0 where
  pub long : length scores ≡ n
  pub at : (v : ℕ) → v < n → get_or f v nan ≡ get_or scores v nan

-- ---- the steps

-- there is a graph whose rows stand in w, between two starts
pub record StartPre (n m s : ℕ) (w c : List ℕ) (f : List Float) : Type 0 where
  pub directed : Bool
  pub edges : List Edge
  pub still : Still (graph_of n directed edges) m w c f
  pub limits : Limits n m
  pub start : s < n

-- what a start leaves, of every graph whose rows stand in w: its scores added, or some path count above the limit
pub record StartPost (n m s : ℕ) (w c : List ℕ) (f : List Float) (w' c' : List ℕ) (f' : List Float) (r : Result (Unit {0}) TooManyPaths) : Type 0 where
  pub within : Within n m w c f w' c' f'
  pub still : stopped r ≡ false → (directed : Bool) (es : List Edge) → Still (graph_of n directed es) m w c f → Still (graph_of n directed es) m w' c' f'
  pub scored : stopped r ≡ false → (directed : Bool) (es : List Edge) → Still (graph_of n directed es) m w c f → (scores : List Float) → Scored n f scores → Scored n f' (from_start (graph_of n directed es) s scores).scores
  pub paths : (directed : Bool) (es : List Edge) → Still (graph_of n directed es) m w c f → exceeds path_limit (graph_of n directed es) s ≡ stopped r

-- what all starts ask: there is a graph whose rows stand in w, between two starts
pub record StartsPre (n m : ℕ) (w c : List ℕ) (f : List Float) : Type 0 where
  pub directed : Bool
  pub edges : List Edge
  pub still : Still (graph_of n directed edges) m w c f
  pub limits : Limits n m

-- what they leave, of every graph whose rows stand in w: the scores after the last start, or some path count above the limit
pub record StartsPost (n m : ℕ) (w c : List ℕ) (f : List Float) (w' c' : List ℕ) (f' : List Float) (r : Result (Unit {0}) TooManyPaths) : Type 0 where
  pub within : Within n m w c f w' c' f'
  pub scored : stopped r ≡ false → (directed : Bool) (es : List Edge) → Still (graph_of n directed es) m w c f → Scored n f (scores_after (graph_of n directed es) 0) → Scored n f' (scores_after (graph_of n directed es) n)
  pub paths : (directed : Bool) (es : List Edge) → Still (graph_of n directed es) m w c f → some_exceeds path_limit (graph_of n directed es) n ≡ stopped r

-- ---- the beginning

-- what `index_entries` asks: a sound graph, and room for the offsets and the rows behind them
pub record IndexPre (n : ℕ) (from to : List ℕ) (weight : List Float) (w : List ℕ) : Type 0 where
  pub sound : Sound n from to weight
  pub room : incoming_at n (length from) + rows_front n (length from) ≤ length w

-- n + 1 offsets, each node's places as many as entries lead to it, 2m at most
pub record Indexed (n : ℕ) (directed : Bool) (from to : List ℕ) (weight : List Float) (w w' : List ℕ) : Type 0 where
  pub frame : Frame w (incoming_at n (length from)) (rows_front n (length from)) w'
  pub places : (x : ℕ) → x < n → get_or w' (incoming_at n (length from) + (x + 1)) 0 ≡ get_or w' (incoming_at n (length from) + x) 0 + leading (graph_of n directed (edges_of from to weight)) x
  pub most : 0 < n → get_or w' (incoming_at n (length from) + n) 0 ≤ 2 * length from

-- what `prepare` asks: a sound graph with a node, and room for the usual fronts
pub record PreparePre (n : ℕ) (from to : List ℕ) (weight : List Float) (w c : List ℕ) (f : List Float) : Type 0 where
  pub sound : Sound n from to weight
  pub some : 0 < n
  pub roomy : Roomy (usual_fronts n (length from)) (length w) (length c) (length f)

-- the workspace is ready for the first start
pub record Prepared (n : ℕ) (directed : Bool) (from to : List ℕ) (weight : List Float) (w c : List ℕ) (f : List Float) (w' c' : List ℕ) (f' : List Float) : Type 0 where
  pub within : Within n (length from) w c f w' c' f'
  pub still : Still (graph_of n directed (edges_of from to weight)) (length from) w' c' f'
  pub scored : Scored n f' (scores_after (graph_of n directed (edges_of from to weight)) 0)
  -- the rows have at most 2m entries
  pub most : get_or w' n 0 ≤ 2 * length from
