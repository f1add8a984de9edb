-- Ordered pairs of nodes with an entry between them, by numbers, and what numbering them asks and leaves. Definitions only.
use Rattle.std.specs.Prelude.{◌≡◌, ◌≢◌, Bool, cond, List, [], ◌∷◌, ℕ, suc, ◌+◌, ◌-◌, ◌≤◌, ◌<◌, eqb, length, get_or}
use Rattle.regions.specs.Region.{Frame2}
use Rattle.graph.specs.Edges.{Edge, Graph, entries}
use Rattle.hops.specs.Hops.{Valid}
use Rattle.graph.specs.Layout.{beside_at, queue_at, totals_at}
use Rattle.hops.specs.Search.{graph_of, RowsOf}
use Rattle.pairs.specs.declared.Table.{Table}

-- where the pairs stand in the workspace of a graph of n nodes and m edges; the marks take the place of the queue
abbrev pub table_at : ℕ → ℕ → Table
table_at n m = record { beside = beside_at n m; marks = queue_at n m; totals = totals_at n }

-- the place of the first x in a list
unfoldable pub first_at : ℕ → List ℕ → ℕ
first_at x [] = 0
first_at x (y ∷ ys) = cond (eqb y x) 0 (suc (first_at x ys))

-- the number of the pair (v, x), where the rows of g stand in w: the place of the first entry x of v among all row entries
abbrev pub number_in : List ℕ → Graph → ℕ → ℕ → ℕ
number_in w g v x = get_or w v 0 + first_at x (entries g v)

-- beside each row entry of w stands the number of its pair
abbrev pub Numbered : Graph → (ℕ → ℕ → ℕ) → List ℕ → ℕ → Type 0
Numbered g number w beside =
    (v j : ℕ) → v < g.nodes → j < length (entries g v) → get_or w (beside + (get_or w v 0 + j)) 0 ≡ number v (get_or (entries g v) j 0)

-- what `number_pairs` asks: the rows of a graph, then a number for each row entry from `beside`, then n marks
pub record NumberPre (n beside marks : ℕ) (w : List ℕ) : Type 0 where
  pub directed : Bool
  pub edges : List Edge
  pub valid : Valid (graph_of n directed edges)
  pub rows : RowsOf (graph_of n directed edges) w beside
  pub apart : beside + get_or w n 0 ≤ marks
  pub room : marks + n ≤ length w
  pub few : get_or w n 0 < 4294967295

-- what it leaves: each row entry's pair beside it, of every graph whose rows stand in w; nothing else differs but the marks
pub record NumberPost (n beside marks : ℕ) (w w' : List ℕ) : Type 0 where
  pub frame : Frame2 w beside (get_or w n 0) marks n w'
  pub numbered : (directed : Bool) (es : List Edge) → Valid (graph_of n directed es) → RowsOf (graph_of n directed es) w beside
      → Numbered (graph_of n directed es) (number_in w (graph_of n directed es)) w' beside

-- what `number_row` asks: the entries at places a to e are nodes, and no mark is above a
pub record RowPre (n a e beside marks : ℕ) (w : List ℕ) : Type 0 where
  pub ordered : a ≤ e
  pub inside : n + 1 + e ≤ beside
  pub apart : beside + e ≤ marks
  pub room : marks + n ≤ length w
  pub few : e < 4294967295
  pub nodes : (p : ℕ) → a ≤ p → p < e → get_or w (n + 1 + p) 0 < n
  pub marked : (x : ℕ) → x < n → get_or w (marks + x) 0 ≤ a

-- f is the first place from a whose entry is x
pub record FirstFrom (n a f x : ℕ) (w : List ℕ) : Type 0 where
  pub from : a ≤ f
  pub here : get_or w (n + 1 + f) 0 ≡ x
  pub before : (i : ℕ) → a ≤ i → i < f → get_or w (n + 1 + i) 0 ≢ x

-- what it leaves: beside each entry the first place of the row that has the same, and no mark above e
pub record RowNumbered (n a e beside marks : ℕ) (w w' : List ℕ) : Type 0 where
  pub frame : Frame2 w (beside + a) (e - a) marks n w'
  pub marked : (x : ℕ) → x < n → get_or w' (marks + x) 0 ≤ e
  pub early : (j : ℕ) → a ≤ j → j < e → get_or w' (beside + j) 0 ≤ j
  pub numbered : (j : ℕ) → a ≤ j → j < e → FirstFrom n a (get_or w' (beside + j) 0) (get_or w (n + 1 + j) 0) w
