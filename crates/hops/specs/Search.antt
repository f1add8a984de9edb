-- What holds within a breadth-first search (Brandes 2001): of its labels, its queue, and the workspace that holds them. Definitions only.
use Rattle.std.specs.Prelude.{◌≡◌, ◌≢◌, Bool, not, ℕ, ◌+◌, ◌*◌, ◌≤◌, ◌<◌, eqb, length, get_or, set, take, Result, Ok, Err}
use mathlib.Core.List.{List, [], ◌∷◌, ◌++◌, Memᴰ}
use Rattle.regions.specs.Region.{list_of, Front, Frame2}
use Rattle.graph.specs.Edges.{Edge, Graph, entries}
use Rattle.graph.specs.Layout.{distances_at, queue_at}
use Rattle.hops.specs.declared.Places.{Places}
use Rattle.hops.specs.declared.Step.{Step}
use Rattle.hops.specs.declared.Step.TheVariants.{First, Again, Other}
use Rattle.hops.specs.declared.TooManyPaths.{TooManyPaths}
use Rattle.hops.specs.Sum.{sum_over, only_if, same, times}
use Rattle.hops.specs.Hops.{unreached, Valid, dist, count}

-- what a node w, with the label dw, gives to a node v with the label dv: its ways cw, for each of the m entries of w that are v, if w is one hop nearer
unfoldable pub share : (dw dv cw m : ℕ) → ℕ
share dw dv cw m = only_if (eqb (dw + 1) dv) (cw * m)

-- the labels along a list never go down
abbrev pub Sorted : (ℕ → ℕ) → List ℕ → Type 0
Sorted d [] = Unit {0}
Sorted d (x ∷ xs) = ((y : ℕ) → Memᴰ y xs → d x ≤ d y) × Sorted d xs

-- 1 for a node that has a label
abbrev pub has : ℕ → ℕ
has dv = only_if (not (eqb dv unreached)) 1

-- y has a label, at most one above that of w
abbrev pub Led : (ℕ → ℕ) → ℕ → ℕ → Type 0
Led d w y = (d y ≢ unreached) × (d y ≤ d w + 1)

-- v is an entry of a node whose label is one less
abbrev pub Comes : Graph → (ℕ → ℕ) → ℕ → Type 0
Comes g d v = (w : ℕ) × (w < g.nodes) × (d w ≢ unreached) × (d w + 1 ≡ d v) × Memᴰ v (entries g w)

-- the ways to v are those that the nodes done, and u by the entries seen, have given it
abbrev pub Ways : Graph → ℕ → (ℕ → ℕ) → (ℕ → ℕ) → List ℕ → ℕ → List ℕ → ℕ → Type 0
Ways g s d c done u seen v = c v ≡ same s v + (sum_over done (λ w. share (d w) (d v) (c w) (times v (entries g w))) + share (d u) (d v) (c u) (times v seen))

-- The search from s is at the node u, and has looked at the entries `seen` of it. The queue holds the nodes that are done, then u, then the rest.
pub record Mid (g : Graph) (s : ℕ) (d c : ℕ → ℕ) (done : List ℕ) (u : ℕ) (seen rest : List ℕ) : Type 0 where
  pub start : d s ≡ 0
  -- the queue holds nodes, each that has a label once, and no other
  pub nodes : (w : ℕ) → Memᴰ w (done ++ (u ∷ rest)) → w < g.nodes
  pub once : (v : ℕ) → v < g.nodes → times v (done ++ (u ∷ rest)) ≡ has (d v)
  -- a label is less than the queue is long
  pub near : (v : ℕ) → v < g.nodes → d v ≢ unreached → d v < length (done ++ (u ∷ rest))
  -- the labels along the queue
  pub earlier : (w : ℕ) → Memᴰ w done → d w ≤ d u
  pub later : (w : ℕ) → Memᴰ w rest → (d u ≤ d w) × (d w ≤ d u + 1)
  pub sorted : Sorted d rest
  -- where labels come from, and what they have come to
  pub comes : (v : ℕ) → v < g.nodes → v ≢ s → d v ≢ unreached → Comes g d v
  pub goes : (w : ℕ) → Memᴰ w done → (y : ℕ) → Memᴰ y (entries g w) → Led d w y
  pub going : (y : ℕ) → Memᴰ y seen → Led d u y
  pub ways : (v : ℕ) → v < g.nodes → d v ≢ unreached → Ways g s d c done u seen v
  pub no_ways : (v : ℕ) → v < g.nodes → d v ≡ unreached → c v ≡ 0

-- ---- the workspace

-- a region of w by its places
abbrev pub cells : List ℕ → ℕ → ℕ → ℕ
cells w base = λ v. get_or w (base + v) 0

-- a whole slice by its places
abbrev pub places : List ℕ → ℕ → ℕ
places c = λ v. get_or c v 0

-- a graph of n nodes
abbrev pub graph_of : ℕ → Bool → List Edge → Graph
graph_of n directed es = record { nodes = n; directed = directed; edges = es }

-- where a search of a call with n nodes and m edges works, up to a limit
abbrev pub places_at : (n m limit : ℕ) → Places
places_at n m limit = record { nodes = n; limit = limit; distances = distances_at n m; queue = queue_at n m }

-- the rows of g stand in w before `top`: n + 1 offsets, and the entries behind them
pub record RowsOf (g : Graph) (w : List ℕ) (top : ℕ) : Type 0 where
  pub long : (v : ℕ) → v < g.nodes → get_or w (v + 1) 0 ≡ get_or w v 0 + length (entries g v)
  pub inside : (v : ℕ) → v < g.nodes → g.nodes + 1 + get_or w (v + 1) 0 ≤ top
  pub entry : (v k : ℕ) → v < g.nodes → k < length (entries g v) → get_or w (g.nodes + 1 + (get_or w v 0 + k)) 0 ≡ get_or (entries g v) k 0

-- what a search from s works on: the rows of a graph, then n distances from D of w, then n places of a queue from Q; n counts at the front of c
pub record Space (g : Graph) (s : ℕ) (w c : List ℕ) (D Q : ℕ) : Type 0 where
  pub valid : Valid g
  pub start : s < g.nodes
  pub rows : RowsOf g w D
  pub apart : D + g.nodes ≤ Q
  pub room : Q + g.nodes ≤ length w
  pub counts : g.nodes ≤ length c

-- no node has a distance or a count
pub record Fresh (n : ℕ) (w c : List ℕ) (D : ℕ) : Type 0 where
  pub far : (v : ℕ) → v < n → get_or w (D + v) 0 ≡ unreached
  pub none : (v : ℕ) → v < n → get_or c v 0 ≡ 0

-- nothing differs but the n distances, the n places of the queue and the n counts
pub record Kept (n D Q : ℕ) (w c w' c' : List ℕ) : Type 0 where
  pub narrow : Frame2 w D n Q n w'
  pub wide : Front c n c'

-- what `begin` asks: room for a distance, for one place of the queue and for a count
pub record BeginPre (s D Q : ℕ) (w c : List ℕ) : Type 0 where
  pub small : s < unreached
  pub distance : D + s < length w
  pub slot : Q < length w
  pub counted : s < length c

-- s alone has been given its distance, its place in the queue and its count
pub record Begun (s D Q : ℕ) (w c w' c' : List ℕ) : Type 0 where
  pub stored : w' ≡ set (set w (D + s) 0) Q s
  pub counted : c' ≡ set c s 1

-- The search from s stands at place `head` of the queue, of which `tail` places are taken. The node there is u, and j of its entries have been looked
-- at. No count exceeds the limit.
pub record Search (g : Graph) (limit s : ℕ) (w c : List ℕ) (D Q head tail u j : ℕ) : Type 0 where
  pub space : Space g s w c D Q
  pub done : List ℕ
  pub rest : List ℕ
  pub queue : list_of (cells w Q) tail ≡ done ++ (u ∷ rest)
  pub passed : length done ≡ head
  pub small : (v : ℕ) → v < g.nodes → get_or c v 0 ≤ limit
  pub mid : Mid g s (cells w D) (places c) done u (take j (entries g u)) rest

-- The search from s is over: the distances and counts are those of the graph, none exceeds the limit, and the nodes reached are the first `tail` of
-- the queue, each once.
pub record Found (g : Graph) (limit s : ℕ) (w c : List ℕ) (D Q tail : ℕ) : Type 0 where
  pub space : Space g s w c D Q
  pub dists : (v : ℕ) → v < g.nodes → get_or w (D + v) 0 ≡ dist g s v
  pub ways : (v : ℕ) → v < g.nodes → get_or c v 0 ≡ count g s v
  pub small : (v : ℕ) → v < g.nodes → count g s v ≤ limit
  pub taken : tail ≤ g.nodes
  pub queued : (i : ℕ) → i < tail → (get_or w (Q + i) 0 < g.nodes) × (dist g s (get_or w (Q + i) 0) ≢ unreached)
  pub reached : (v : ℕ) → v < g.nodes → dist g s v ≢ unreached → (i : ℕ) × (i < tail) × (get_or w (Q + i) 0 ≡ v)

-- a node with more fewest hop sequences from s than the limit
pub record TooMany (g : Graph) (limit s : ℕ) : Type 0 where
  pub node : ℕ
  pub inside : node < g.nodes
  pub more : limit < count g s node

-- ---- one entry

-- what `touch` asks of the entry x
pub record TouchPre (x ways limit D place : ℕ) (w c : List ℕ) : Type 0 where
  pub distance : D + x < length w
  pub slot : get_or w (D + x) 0 ≡ unreached → place < length w
  pub counted : x < length c
  pub small : ways ≤ limit

-- x had no distance: it has the one that is further, stands in the queue, and has the ways of the node it was found from
pub record FoundFirst (x further ways D place : ℕ) (w c w' c' : List ℕ) : Type 0 where
  pub was : get_or w (D + x) 0 ≡ unreached
  pub stored : w' ≡ set (set w (D + x) further) place x
  pub counted : c' ≡ set c x ways

-- x is one hop further: its ways have grown by those of the node, and are within the limit
pub record FoundAgain (x further ways limit D : ℕ) (w c w' c' : List ℕ) : Type 0 where
  pub was : get_or w (D + x) 0 ≡ further
  pub known : further ≢ unreached
  pub same : w' ≡ w
  pub counted : c' ≡ set c x (get_or c x 0 + ways)
  pub within : get_or c x 0 + ways ≤ limit

-- x is no hop further
pub record PassedOver (x further D : ℕ) (w c w' c' : List ℕ) : Type 0 where
  pub known : get_or w (D + x) 0 ≢ unreached
  pub other : get_or w (D + x) 0 ≢ further
  pub same : w' ≡ w
  pub counts : c' ≡ c

-- x is one hop further, and with the ways of the node its own would exceed the limit
pub record Exceeded (x further ways limit D : ℕ) (w c w' c' : List ℕ) : Type 0 where
  pub was : get_or w (D + x) 0 ≡ further
  pub known : further ≢ unreached
  pub same : w' ≡ w
  pub counts : c' ≡ c
  pub more : limit < get_or c x 0 + ways

-- what `touch` leaves, by what it answers
abbrev pub Touched : (x further ways limit D place : ℕ) (w c w' c' : List ℕ) → Result Step TooManyPaths → Type 0
Touched x further ways limit D place w c w' c' (Ok First) = FoundFirst x further ways D place w c w' c'
Touched x further ways limit D place w c w' c' (Ok Again) = FoundAgain x further ways limit D w c w' c'
Touched x further ways limit D place w c w' c' (Ok Other) = PassedOver x further D w c w' c'
Touched x further ways limit D place w c w' c' (Err e) = Exceeded x further ways limit D w c w' c'

-- by how much the queue has grown
abbrev pub grown : Step → ℕ
grown First = 1
grown Again = 0
grown Other = 0

-- ---- the loops

-- there is a graph whose search from some start stands at place `head` of the queue
pub record Visiting (n limit D Q head tail : ℕ) (w c : List ℕ) : Type 0 where
  pub directed : Bool
  pub edges : List Edge
  pub start : ℕ
  pub search : Search (graph_of n directed edges) limit start w c D Q head tail (get_or w (Q + head) 0) 0

-- the node u has been visited: its entries are all looked at, or a count exceeds the limit
abbrev pub Visited : Graph → (limit s D Q head u : ℕ) (w' c' : List ℕ) → Result ℕ TooManyPaths → Type 0
Visited g limit s D Q head u w' c' (Ok tail) = Search g limit s w' c' D Q head tail u (length (entries g u))
Visited g limit s D Q head u w' c' (Err e) = TooMany g limit s

-- what a visit leaves, of every graph and start whose search it goes on with
pub record VisitPost (n limit D Q head tail : ℕ) (w c w' c' : List ℕ) (r : Result ℕ TooManyPaths) : Type 0 where
  pub kept : Kept n D Q w c w' c'
  pub visited : (directed : Bool) (es : List Edge) (s : ℕ) → Search (graph_of n directed es) limit s w c D Q head tail (get_or w (Q + head) 0) 0
      → Visited (graph_of n directed es) limit s D Q head (get_or w (Q + head) 0) w' c' r

-- a search is over, or a count exceeds the limit
abbrev pub Ended : Graph → (limit s D Q : ℕ) (w' c' : List ℕ) → Result ℕ TooManyPaths → Type 0
Ended g limit s D Q w' c' (Ok tail) = Found g limit s w' c' D Q tail
Ended g limit s D Q w' c' (Err e) = TooMany g limit s

-- what the visits leave from the start on, of every graph and start
pub record OnPost (n limit D Q : ℕ) (w c w' c' : List ℕ) (r : Result ℕ TooManyPaths) : Type 0 where
  pub kept : Kept n D Q w c w' c'
  pub ended : (directed : Bool) (es : List Edge) (s : ℕ) → Search (graph_of n directed es) limit s w c D Q 0 1 (get_or w (Q + 0) 0) 0
      → Ended (graph_of n directed es) limit s D Q w' c' r

-- there is a graph whose rows stand in w, and no node has a distance or a count
pub record SearchPre (n s limit D Q : ℕ) (w c : List ℕ) : Type 0 where
  pub directed : Bool
  pub edges : List Edge
  pub space : Space (graph_of n directed edges) s w c D Q
  pub fresh : Fresh n w c D
  pub some : 1 ≤ limit

-- what the whole search leaves, of every graph whose rows stand in w
pub record SearchPost (n s limit D Q : ℕ) (w c w' c' : List ℕ) (r : Result ℕ TooManyPaths) : Type 0 where
  pub kept : Kept n D Q w c w' c'
  pub ended : (directed : Bool) (es : List Edge) → Space (graph_of n directed es) s w c D Q → Ended (graph_of n directed es) limit s D Q w' c' r

-- ---- back to the beginning

-- what `forget` asks: the first `tail` places of the queue are nodes, with their distances before the queue
pub record ForgetPre (tail D Q : ℕ) (w c : List ℕ) : Type 0 where
  pub room : Q + tail ≤ length w
  pub before : (i : ℕ) → i < tail → D + get_or w (Q + i) 0 < Q
  pub counted : (i : ℕ) → i < tail → get_or w (Q + i) 0 < length c

-- the nodes at the first `tail` places of the queue have no distance and no count, and all else is as it was
pub record Forgotten (tail D Q : ℕ) (w c w' c' : List ℕ) : Type 0 where
  pub long : length w' ≡ length w
  pub long_counts : length c' ≡ length c
  pub far : (i : ℕ) → i < tail → get_or w' (D + get_or w (Q + i) 0) 0 ≡ unreached
  pub none : (i : ℕ) → i < tail → get_or c' (get_or w (Q + i) 0) 0 ≡ 0
  pub kept : (k : ℕ) → ((i : ℕ) → i < tail → k ≢ D + get_or w (Q + i) 0) → get_or w' k 0 ≡ get_or w k 0
  pub kept_counts : (k : ℕ) → ((i : ℕ) → i < tail → k ≢ get_or w (Q + i) 0) → get_or c' k 0 ≡ get_or c k 0
