-- What holds within a search that keeps the predecessor entries (Brandes 2001), and what its steps ask and leave. Definitions only.
use Rattle.std.specs.Prelude.{◌≡◌, Bool, true, false, cond, List, [], ◌∷◌, ◌++◌, ℕ, ◌+◌, ◌≤◌, ◌<◌, length, get_or, set, take, Result, Ok, Err}
use Rattle.regions.specs.Region.{list_of, Front}
use Rattle.graph.specs.Edges.{Edge, Graph, entries}
use Rattle.hops.specs.declared.Step.{Step}
use Rattle.hops.specs.declared.Step.TheVariants.{First, Again, Other}
use Rattle.hops.specs.declared.TooManyPaths.{TooManyPaths}
use Rattle.hops.specs.Sum.{sum_over, below, times}
use Rattle.hops.specs.Hops.{unreached, dist}
use Rattle.hops.specs.Search.{cells, graph_of, Space, Fresh, Search, Found, TooMany, TouchPre, Touched}
use Rattle.predecessors.specs.declared.Tracks.{Tracks}
use Rattle.predecessors.specs.Order as breadth
use Rattle.predecessors.specs.Order.{joined, entries_of, entered, entered_by, predecessors}

-- how many entries of all nodes lead to x
abbrev pub leading : Graph → ℕ → ℕ
leading g x = sum_over (below g.nodes) (λ v. times x (entries g v))

-- the predecessor entries of w that the nodes done, and u by the entries seen, have entered
abbrev pub so_far : Graph → (ℕ → ℕ) → List ℕ → ℕ → List ℕ → ℕ → List ℕ
so_far g d done u seen w = entered g d w done ++ entered_by d w u seen

-- Behind the queue stand n + 1 offsets, n ends, and the entries: for each node as many places as entries lead to it.
pub record Slots (g : Graph) (t : Tracks) (w : List ℕ) : Type 0 where
  pub queue : t.places.queue + g.nodes ≤ t.first
  pub firsts : t.first + (g.nodes + 1) ≤ t.last
  pub lasts : t.last + g.nodes ≤ t.base
  pub inside : t.base + get_or w (t.first + g.nodes) 0 ≤ length w
  pub few : get_or w (t.first + g.nodes) 0 < 4294967296
  pub places : (x : ℕ) → x < g.nodes → get_or w (t.first + (x + 1)) 0 ≡ get_or w (t.first + x) 0 + leading g x

-- each node's entries stand in its places, in order, and its end is behind the last
pub record Holding (n : ℕ) (t : Tracks) (w : List ℕ) (lists : ℕ → List ℕ) : Type 0 where
  pub filled : (x : ℕ) → x < n → get_or w (t.last + x) 0 ≡ get_or w (t.first + x) 0 + length (lists x)
  pub kept : (x k : ℕ) → x < n → k < length (lists x) → get_or w (t.base + (get_or w (t.first + x) 0 + k)) 0 ≡ get_or (lists x) k 0

-- the queue is the breadth-first order so far, `head` of its nodes done, and u by j of its entries
pub record Ordered (g : Graph) (s : ℕ) (queue : List ℕ) (head u j : ℕ) : Type 0 where
  pub come : queue ≡ joined (s ∷ []) (entries_of g (take head queue) ++ take j (entries g u))
  -- each node done stood in the queue before its own entries came
  pub ahead : (k : ℕ) → k ≤ head → k < length (joined (s ∷ []) (entries_of g (take k queue)))

-- a search from s, as `Search` has it, with the order and the predecessor entries
pub record Tracked (g : Graph) (t : Tracks) (s : ℕ) (w c : List ℕ) (head tail u j : ℕ) : Type 0 where
  pub search : Search g t.places.limit s w c t.places.distances t.places.queue head tail u j
  pub slots : Slots g t w
  pub order : Ordered g s (list_of (cells w t.places.queue) tail) head u j
  pub holding : Holding g.nodes t w (so_far g (dist g s) (take head (list_of (cells w t.places.queue) tail)) u (take j (entries g u)))

-- ---- one entry

-- whether the node enters among the predecessors of its entry
abbrev pub enters : Step → Bool
enters First = true
enters Again = true
enters Other = false

-- the same by what `touch` answered
abbrev pub entering : Result Step TooManyPaths → Bool
entering (Ok step) = enters step
entering (Err e) = false

-- v behind the predecessor entries of x
abbrev pub pushed : ℕ → ℕ → ℕ → ℕ → List ℕ → List ℕ
pushed v x last base w = set (set w (base + get_or w (last + x) 0) v) (last + x) (get_or w (last + x) 0 + 1)

-- there is a place for one entry more
pub record PushPre (x last base : ℕ) (w : List ℕ) : Type 0 where
  pub end : last + x < length w
  pub slot : base + get_or w (last + x) 0 < length w
  pub few : get_or w (last + x) 0 + 1 < 4294967296

-- what `enter` asks: what `touch` does, and a place for an entry where there is one to come
pub record EnterPre (t : Tracks) (x further ways place : ℕ) (w c : List ℕ) : Type 0 where
  pub touch : TouchPre x ways t.places.limit t.places.distances place w c
  pub apart : t.places.distances + x < place
  pub behind : place < t.last
  pub end : t.last + x < t.base
  pub room : t.base ≤ length w
  pub first_slot : get_or w (t.places.distances + x) 0 ≡ unreached → PushPre x t.last t.base w
  pub again_slot : get_or w (t.places.distances + x) 0 ≡ further → PushPre x t.last t.base w

-- what it leaves: what `touch` did and, where x is one hop further, v among the predecessors of x
pub record EnterPost (t : Tracks) (v x further ways place : ℕ) (w c w' c' : List ℕ) (r : Result Step TooManyPaths) : Type 0 where
  pub between : List ℕ
  pub touched : Touched x further ways t.places.limit t.places.distances place w c between c' r
  pub stored : w' ≡ cond (entering r) (pushed v x t.last t.base between) between

-- ---- the whole search

-- the search from s is over: the queue is the breadth-first order, and each node's predecessor entries are held
pub record Traced (g : Graph) (t : Tracks) (s : ℕ) (w c : List ℕ) (tail : ℕ) : Type 0 where
  pub found : Found g t.places.limit s w c t.places.distances t.places.queue tail
  pub slots : Slots g t w
  pub order : list_of (cells w t.places.queue) tail ≡ breadth.order g s
  pub holding : Holding g.nodes t w (predecessors g s)
  pub most : (x : ℕ) → x < g.nodes → length (predecessors g s x) ≤ leading g x

-- ---- the loops

-- the rows, the offsets of the predecessor entries, and all behind their places stay as they were, and the counts of no node
pub record Stays (n : ℕ) (t : Tracks) (w c w' c' : List ℕ) : Type 0 where
  pub long : length w' ≡ length w
  pub rows : (i : ℕ) → i < t.places.distances → get_or w' i 0 ≡ get_or w i 0
  pub offsets : (i : ℕ) → t.first ≤ i → i < t.last → get_or w' i 0 ≡ get_or w i 0
  pub behind : (i : ℕ) → t.base + get_or w (t.first + n) 0 ≤ i → get_or w' i 0 ≡ get_or w i 0
  pub wide : Front c n c'

-- there is a graph whose search from some start stands at place `head` of the queue
pub record VisitPre (t : Tracks) (head tail : ℕ) (w c : List ℕ) : Type 0 where
  pub directed : Bool
  pub edges : List Edge
  pub start : ℕ
  pub tracked : Tracked (graph_of t.places.nodes directed edges) t start w c head tail (get_or w (t.places.queue + head) 0) 0

-- the node u has been visited: its entries are all looked at, or a count exceeds the limit
abbrev pub Visited : Graph → (t : Tracks) (s head u : ℕ) (w' c' : List ℕ) → Result ℕ TooManyPaths → Type 0
Visited g t s head u w' c' (Ok tail) = Tracked g t s w' c' head tail u (length (entries g u))
Visited g t s head u w' c' (Err e) = TooMany g t.places.limit s

-- what a visit leaves, of every graph and start whose search it goes on with
pub record VisitPost (t : Tracks) (head tail : ℕ) (w c w' c' : List ℕ) (r : Result ℕ TooManyPaths) : Type 0 where
  pub stays : Stays t.places.nodes t w c w' c'
  pub visited : (directed : Bool) (es : List Edge) (s : ℕ) → Tracked (graph_of t.places.nodes directed es) t s w c head tail (get_or w (t.places.queue + head) 0) 0
      → Visited (graph_of t.places.nodes directed es) t s head (get_or w (t.places.queue + head) 0) w' c' r

-- a search is over, or a count exceeds the limit
abbrev pub Ended : Graph → (t : Tracks) (s : ℕ) (w' c' : List ℕ) → Result ℕ TooManyPaths → Type 0
Ended g t s w' c' (Ok tail) = Traced g t s w' c' tail
Ended g t s w' c' (Err e) = TooMany g t.places.limit s

-- what the visits leave from the start on, of every graph and start
pub record OnPost (t : Tracks) (w c w' c' : List ℕ) (r : Result ℕ TooManyPaths) : Type 0 where
  pub stays : Stays t.places.nodes t w c w' c'
  pub ended : (directed : Bool) (es : List Edge) (s : ℕ) → Tracked (graph_of t.places.nodes directed es) t s w c 0 1 (get_or w (t.places.queue + 0) 0) 0
      → Ended (graph_of t.places.nodes directed es) t s w' c' r

-- no node has a predecessor entry
abbrev pub NoEntries : (n : ℕ) (t : Tracks) (w : List ℕ) → Type 0
NoEntries n t w = (x : ℕ) → x < n → get_or w (t.last + x) 0 ≡ get_or w (t.first + x) 0

-- there is a graph whose rows stand in w, and no node has a distance, a count or a predecessor entry
pub record SearchPre (t : Tracks) (s : ℕ) (w c : List ℕ) : Type 0 where
  pub directed : Bool
  pub edges : List Edge
  pub space : Space (graph_of t.places.nodes directed edges) s w c t.places.distances t.places.queue
  pub slots : Slots (graph_of t.places.nodes directed edges) t w
  pub fresh : Fresh t.places.nodes w c t.places.distances
  pub empty : NoEntries t.places.nodes t w
  pub some : 1 ≤ t.places.limit

-- what the whole search leaves, of every graph whose rows stand in w
pub record SearchPost (t : Tracks) (s : ℕ) (w c w' c' : List ℕ) (r : Result ℕ TooManyPaths) : Type 0 where
  pub stays : Stays t.places.nodes t w c w' c'
  pub ended : (directed : Bool) (es : List Edge) → Space (graph_of t.places.nodes directed es) s w c t.places.distances t.places.queue → Slots (graph_of t.places.nodes directed es) t w → Ended (graph_of t.places.nodes directed es) t s w' c' r
