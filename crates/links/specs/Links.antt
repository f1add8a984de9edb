-- What both PageRanks share: what a round reads of the graph, what a node gives along its list, the stop rule, and the vector that is
-- divided by its sum (document 01, "PageRank"; graphina's pagerank.rs). Definitions only.
use Rattle.std.specs.Prelude.{ℕ, ◌+◌, Bool, cond, List, [], length, slice_index, slice_index_or, slice_set, Float}
use mathlib.Core.List.{foldl}
use Rattle.std.specs.Float.{nan, binary64}
use Rattle.std.specs.Float.Ieee.{add, sub, mul, div, lt}
use Rattle.regions.specs.Doubles.{double, one}
use Rattle.roots.specs.Absolute.{abs_of}
use Rattle.regions.specs.Region.{zero_f, list_of, part}
use Rattle.graph.specs.Edges.{Graph, out_weight}
use Rattle.graph.specs.Layout.{entries_at, out_weights_at, totals_at}
use Rattle.lists.specs.Lists.{Share, share, shares_of, long_at}
use Rattle.rounds.specs.Rounds.{after}
use Rattle.rounds.specs.Vectors.{entry}

-- what a round reads of a graph: each node's out-weight and weighted list
pub record Links : Type 0 where
  pub nodes : ℕ
  pub outs : List Float
  pub shares : List (List Share)

-- the out-weights and weighted lists of a graph's nodes
abbrev pub links_of : Graph → Links
links_of g =
    record { nodes = g.nodes; outs = list_of (out_weight g.directed g.edges) g.nodes; shares = list_of (shares_of g.directed g.edges) g.nodes }

-- ---- the same of n nodes, read in the workspace

-- the out-weights of n nodes, in the workspace
abbrev pub outs_in : ℕ → List Float → List Float
outs_in n wf = part wf (out_weights_at n) n

-- where the weights of the entries stand, in the order of the entries: the region that edge betweenness has for its totals
abbrev pub weights_at : ℕ → ℕ
weights_at n = totals_at n

-- what the jth entry gives: its target, and the weight at its place
abbrev pub share_in : ℕ → List ℕ → List Float → ℕ → Share
share_in n w wf j = share (slice_index w (entries_at n + j)) (slice_index_or wf (weights_at n + j) nan)

-- the list of v, in the workspace
abbrev pub shares_in : ℕ → List ℕ → List Float → ℕ → List Share
shares_in n w wf v = list_of (λ k. share_in n w wf (slice_index w v + k)) (long_at w v)

-- what a round reads of n nodes, in the workspace
abbrev pub links_in : ℕ → List ℕ → List Float → Links
links_in n w wf = record { nodes = n; outs = outs_in n wf; shares = list_of (shares_in n w wf) n }

-- ---- what a round does

-- y with the share's target grown by contribution*weight
abbrev pub gives : Float → List Float → Share → List Float
gives contribution y s = slice_set y s.target (add binary64 (entry y s.target) (mul binary64 contribution s.weight))

-- the node i gives (damping*x[i])/out along its list, in its order
unfoldable pub distributes : Links → Float → List Float → ℕ → List Float → List Float
distributes l damping x i y = foldl (gives (div binary64 (mul binary64 damping (entry x i)) (entry l.outs i))) y (slice_index_or l.shares i [])

-- a sum with one entry's absolute change more
abbrev pub with_change : List Float → List Float → ℕ → Float → Float
with_change x y i sum = add binary64 sum (abs_of (sub binary64 (entry x i) (entry y i)))

-- the summed absolute change from x to y, over n entries in order
unfoldable pub absolute_change : ℕ → List Float → List Float → Float
absolute_change n x y = after (with_change x y) n zero_f

-- the stop rule: it is below tolerance*n
unfoldable pub settles : Float → ℕ → List Float → List Float → Bool
settles tolerance n x y = lt (absolute_change n x y) (mul binary64 tolerance (double n))

-- a sum with one entry more
abbrev pub with_entry : List Float → ℕ → Float → Float
with_entry xs i sum = add binary64 sum (entry xs i)

-- the entries of a given vector, added from +0.0 in order
unfoldable pub sum_of : List Float → Float
sum_of xs = after (with_entry xs) (length xs) zero_f

-- what entries are divided by: the sum of a vector that counts (`flag`), else n
abbrev pub divisor_of : Bool → List Float → ℕ → Float
divisor_of flag xs n = cond flag (sum_of xs) (double n)

-- the entry i of a vector that counts, else 1, over the divisor
abbrev pub divided_at : Bool → List Float → Float → ℕ → Float
divided_at flag xs divisor i = div binary64 (cond flag (entry xs i) one) divisor

-- each of n entries divided by the sum of a vector that counts, else 1/n
unfoldable pub divided : Bool → List Float → ℕ → List Float
divided flag xs n = list_of (divided_at flag xs (divisor_of flag xs n)) n
