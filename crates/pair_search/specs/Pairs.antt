-- The search with the pair of each predecessor entry: what its steps ask and leave. Definitions only.
use Rattle.std.specs.Prelude.{◌≡◌, Bool, cond, List, ℕ, ◌+◌, ◌≤◌, ◌<◌, length, get_or, set, take, Result, Ok, Err}
use Rattle.regions.specs.Region.{list_of}
use Rattle.graph.specs.Edges.{Edge, Graph, entries}
use Rattle.hops.specs.declared.Step.{Step}
use Rattle.hops.specs.declared.TooManyPaths.{TooManyPaths}
use Rattle.hops.specs.Hops.{unreached, dist}
use Rattle.hops.specs.Search.{cells, graph_of, Space}
use Rattle.predecessors.specs.Order.{predecessors}
use Rattle.predecessors.specs.Tracks.{so_far, Slots, Tracked, VisitPre, VisitPost, OnPost, SearchPre, SearchPost, entering, EnterPre, EnterPost}
use Rattle.pairs.specs.Numbers.{Numbered}
use Rattle.pair_search.specs.declared.PairTracks.{PairTracks}

-- where the numbers stand: beside the row entries, before the distances; and, for the predecessor entries, from `pairs` to `base`
pub record Paired (n : ℕ) (t : PairTracks) (w : List ℕ) : Type 0 where
  pub before : (v : ℕ) → v < n → t.table.beside + get_or w (v + 1) 0 ≤ t.tracks.places.distances
  pub lasts : t.tracks.last + n ≤ t.pairs
  pub ends : t.pairs + get_or w (t.tracks.first + n) 0 ≤ t.tracks.base

-- the pair of each predecessor entry is held beside it
abbrev pub HeldPairs : (n : ℕ) (t : PairTracks) (number : ℕ → ℕ → ℕ) (w : List ℕ) (lists : ℕ → List ℕ) → Type 0
HeldPairs n t number w lists =
    (x k : ℕ) → x < n → k < length (lists x) → get_or w (t.pairs + (get_or w (t.tracks.first + x) 0 + k)) 0 ≡ number (get_or (lists x) k 0) x

-- ---- one entry

-- what `enter` asks: what that of `predecessors` does, and a place for the pair
pub record EnterPairPre (t : PairTracks) (x further ways place : ℕ) (w c : List ℕ) : Type 0 where
  pub enter : EnterPre t.tracks x further ways place w c
  pub end : t.tracks.last + x < length w
  pub first_slot : get_or w (t.tracks.places.distances + x) 0 ≡ unreached → t.pairs + get_or w (t.tracks.last + x) 0 < length w
  pub again_slot : get_or w (t.tracks.places.distances + x) 0 ≡ further → t.pairs + get_or w (t.tracks.last + x) 0 < length w

-- what it leaves: what that did and, where x is one hop further, the pair beside the entry
pub record EnterPairPost (t : PairTracks) (v x pair further ways place : ℕ) (w c w' c' : List ℕ) (r : Result Step TooManyPaths) : Type 0 where
  pub between : List ℕ
  pub entered : EnterPost t.tracks v x further ways place w c between c' r
  pub stored : w' ≡ cond (entering r) (set between (t.pairs + get_or w (t.tracks.last + x) 0) pair) between

-- ---- the loops

-- the predecessor entries that a search at place `head` of its queue, with j entries of u seen, has entered
abbrev pub entered_so_far : Graph → (s : ℕ) (w : List ℕ) (Q head tail u j : ℕ) → ℕ → List ℕ
entered_so_far g s w Q head tail u j = so_far g (dist g s) (take head (list_of (cells w Q) tail)) u (take j (entries g u))

-- a search, as `Tracked` has it, with the numbers and the pair of each predecessor entry
pub record TrackedPairs (g : Graph) (number : ℕ → ℕ → ℕ) (t : PairTracks) (s : ℕ) (w c : List ℕ) (head tail u j : ℕ) : Type 0 where
  pub tracked : Tracked g t.tracks s w c head tail u j
  pub paired : Paired g.nodes t w
  pub numbered : Numbered g number w t.table.beside
  pub held : HeldPairs g.nodes t number w (entered_so_far g s w t.tracks.places.queue head tail u j)

-- what `visit` asks
pub record VisitPairsPre (t : PairTracks) (head tail : ℕ) (w c : List ℕ) : Type 0 where
  pub visit : VisitPre t.tracks head tail w c
  pub paired : Paired t.tracks.places.nodes t w

-- the node u has been visited, and the pairs of the entries that it entered are held
abbrev pub VisitedPairs : Graph → (number : ℕ → ℕ → ℕ) (t : PairTracks) (s head u : ℕ) (w' c' : List ℕ) → Result ℕ TooManyPaths → Type 0
VisitedPairs g number t s head u w' c' (Ok tail) = TrackedPairs g number t s w' c' head tail u (length (entries g u))
VisitedPairs g number t s head u w' c' (Err e) = Unit {0}

-- what it leaves: what a visit of `predecessors` does, with the pairs, whatever the numbers are
pub record VisitPairsPost (t : PairTracks) (head tail : ℕ) (w c w' c' : List ℕ) (r : Result ℕ TooManyPaths) : Type 0 where
  pub visit : VisitPost t.tracks head tail w c w' c' r
  pub held : (directed : Bool) (es : List Edge) (number : ℕ → ℕ → ℕ) (s : ℕ)
      → TrackedPairs (graph_of t.tracks.places.nodes directed es) number t s w c head tail (get_or w (t.tracks.places.queue + head) 0) 0
      → VisitedPairs (graph_of t.tracks.places.nodes directed es) number t s head (get_or w (t.tracks.places.queue + head) 0) w' c' r

-- the search is over, and the pair of each predecessor entry is held
abbrev pub EndedPairs : Graph → (number : ℕ → ℕ → ℕ) (t : PairTracks) (s : ℕ) (w' : List ℕ) → Result ℕ TooManyPaths → Type 0
EndedPairs g number t s w' (Ok tail) = HeldPairs g.nodes t number w' (predecessors g s)
EndedPairs g number t s w' (Err e) = Unit {0}

-- what the visits leave from the start on
pub record OnPairsPost (t : PairTracks) (w c w' c' : List ℕ) (r : Result ℕ TooManyPaths) : Type 0 where
  pub on : OnPost t.tracks w c w' c' r
  pub held : (directed : Bool) (es : List Edge) (number : ℕ → ℕ → ℕ) (s : ℕ)
      → TrackedPairs (graph_of t.tracks.places.nodes directed es) number t s w c 0 1 (get_or w (t.tracks.places.queue + 0) 0) 0
      → EndedPairs (graph_of t.tracks.places.nodes directed es) number t s w' r

-- what the whole search asks: what that of `predecessors` does, and places for the pairs
pub record SearchPairsPre (t : PairTracks) (s : ℕ) (w c : List ℕ) : Type 0 where
  pub search : SearchPre t.tracks s w c
  pub paired : Paired t.tracks.places.nodes t w

-- what it leaves, of every graph whose rows stand in w with numbers beside them
pub record SearchPairsPost (t : PairTracks) (s : ℕ) (w c w' c' : List ℕ) (r : Result ℕ TooManyPaths) : Type 0 where
  pub search : SearchPost t.tracks s w c w' c' r
  pub held : (directed : Bool) (es : List Edge) (number : ℕ → ℕ → ℕ) → Space (graph_of t.tracks.places.nodes directed es) s w c t.tracks.places.distances t.tracks.places.queue
      → Slots (graph_of t.tracks.places.nodes directed es) t.tracks w → Numbered (graph_of t.tracks.places.nodes directed es) number w t.table.beside
      → EndedPairs (graph_of t.tracks.places.nodes directed es) number t s w' r
