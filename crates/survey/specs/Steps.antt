-- What the steps of the survey ask and leave. Definitions only.
use Rattle.std.specs.Prelude.{◌≡◌, Bool, List, ℕ, ◌+◌, ◌≤◌, ◌<◌, length, Result, Ok, Err}
use Rattle.regions.specs.Region.{Front, over, part}
use Rattle.answers.specs.declared.Answer.TheVariants.{Paths}
use Rattle.answers.specs.declared.Refusal.{Refusal}
use Rattle.graph.specs.Edges.{Edge}
use Rattle.graph.specs.Pres.{Limits}
use Rattle.graph.specs.Fronts.{usual_fronts}
use Rattle.graph.specs.Layout.{distances_at, queue_at}
use Rattle.hops.specs.declared.TooManyPaths.{TooManyPaths}
use Rattle.hops.specs.Hops.{Valid, path_limit}
use Rattle.hops.specs.Search.{graph_of, RowsOf, Ended}

-- the rows of a graph with m edges stand in w
pub record HeldRows (n m s : ℕ) (w c : List ℕ) : Type 0 where
  pub directed : Bool
  pub edges : List Edge
  pub valid : Valid (graph_of n directed edges)
  pub rows : RowsOf (graph_of n directed edges) w (distances_at n m)
  pub start : s < n
  pub limits : Limits n m
  pub room : (usual_fronts n m).narrow ≤ length w
  pub counts : (usual_fronts n m).wide ≤ length c

-- the search from s over them, of every graph whose rows they are
pub record Surveyed (n m s : ℕ) (w c w' c' : List ℕ) (r : Result ℕ TooManyPaths) : Type 0 where
  pub narrow : Front w (usual_fronts n m).narrow w'
  pub wide : Front c (usual_fronts n m).wide c'
  pub ended : (directed : Bool) (es : List Edge) → Valid (graph_of n directed es) → RowsOf (graph_of n directed es) w (distances_at n m)
      → Ended (graph_of n directed es) path_limit s (distances_at n m) (queue_at n m) w' c' r

-- the workspace holds n distances and n counts, and the result slices have room for them
pub record WritePre (n m : ℕ) (w c d k : List ℕ) : Type 0 where
  pub limits : Limits n m
  pub distances : distances_at n m + n ≤ length w
  pub counts : n ≤ length c
  pub fits : n ≤ length d
  pub fits_counts : n ≤ length k

-- the results are written, unless a count exceeds the limit
abbrev pub Written : (n m : ℕ) (w c d k d' k' : List ℕ) → Result ℕ TooManyPaths → Result (Unit {0}) Refusal → Type 0
Written n m w c d k d' k' (Ok t) r = (r ≡ Ok tt) × (d' ≡ over (part w (distances_at n m) n) d) × (k' ≡ over (part c 0 n) k)
Written n m w c d k d' k' (Err e) r = (r ≡ Err (record { answer = Paths })) × (d' ≡ d) × (k' ≡ k)
