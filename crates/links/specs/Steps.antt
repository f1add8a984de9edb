-- What the steps of the PageRanks promise each other. Definitions only.
use Rattle.std.specs.Prelude.{◌≡◌, ℕ, ◌+◌, ◌-◌, ◌*◌, ◌<◌, ◌≤◌, Bool, true, List, length, slice_index, slice_index_or, Float}
use mathlib.Core.List.{foldl}
use Rattle.std.specs.Float.{nan}
use Rattle.regions.specs.Region.{Front, Frame, list_of, part, over, cleared, zero_f}
use Rattle.answers.specs.declared.Rounds.{Rounds}
use Rattle.graph.specs.declared.Fronts.{Fronts}
use Rattle.answers.specs.Answers.{Said, done}
use Rattle.graph.specs.Edges.{edges_of}
use Rattle.graph.specs.Layout.{entries_at, beside_at}
use Rattle.graph.specs.Pres.{Sound}
use Rattle.graph.specs.Left.{Left, left}
use Rattle.lists.specs.Lists.{Share, ListsFit, lists_front}
use Rattle.rounds.specs.Vectors.{current_in, next_in, Vectors}
use Rattle.links.specs.Links.{links_of, links_in, weights_at, share_in, gives, absolute_change}

-- w holds n lists whose targets are nodes, and wf has the four vectors and a weight for each entry
pub record LinksPre (n : ℕ) (w : List ℕ) (wf : List Float) : Type 0 where
  pub rises : (v : ℕ) → v < n → slice_index w v ≤ slice_index w (v + 1)
  pub entries : (v : ℕ) → v < n → entries_at n + slice_index w (v + 1) ≤ length w
  pub nodes : (v j : ℕ) → v < n → slice_index w v ≤ j → j < slice_index w (v + 1) → slice_index w (entries_at n + j) < n
  pub weights : (v : ℕ) → v < n → weights_at n + slice_index w (v + 1) ≤ length wf
  pub room : 4 * n ≤ length wf

-- the weighted lists of n nodes and m edges, their weights, and room for a weight at each entry's place
pub record CopyPre (n m : ℕ) (weight : List Float) (w : List ℕ) (wf : List Float) : Type 0 where
  pub fit : ListsFit n m w
  pub weights : length weight ≡ m
  pub room : weights_at n + 2 * m ≤ length wf

-- each entry's weight stands at its place, every place of wf outside that region is as it was
pub record WeightsCopied (n m : ℕ) (weight : List Float) (w : List ℕ) (wf wf' : List Float) : Type 0 where
  pub frame : Frame wf (weights_at n) (2 * m) wf'
  pub at : (v j : ℕ) → v < n → slice_index w v ≤ j → j < slice_index w (v + 1) → slice_index_or wf' (weights_at n + j) nan ≡ slice_index_or weight (slice_index w (beside_at n m + j)) nan

-- a sound graph, and room for its lists, the four vectors and the weights of the entries
pub record PreparePre (n : ℕ) (from to : List ℕ) (weight : List Float) (w32 : List ℕ) (wf : List Float) : Type 0 where
  pub sound : Sound n from to weight
  pub narrow : lists_front n (length from) ≤ length w32
  pub floats : weights_at n + 2 * length from ≤ length wf

-- what a round reads in the workspace is what it reads of the graph; only the lists, the out-weights and the weights were written
pub record Prepared (n : ℕ) (directed : Bool) (from to : List ℕ) (weight : List Float) (w32 w32' : List ℕ) (wf wf' : List Float) : Type 0 where
  pub narrow : Front w32 (lists_front n (length from)) w32'
  pub floats : Front wf (weights_at n + 2 * length from) wf'
  pub links : links_in n w32' wf' ≡ links_of (record { nodes = n; directed = directed; edges = edges_of from to weight })
  pub pre : LinksPre n w32' wf'

-- DONE with r, the vector x over the scores, and these fronts of the workspace cleared
abbrev pub written_by : Fronts → Rounds → List Float → List Float → List ℕ → List ℕ → List Float → Left (Said Rounds) (List Float)
written_by f r x scores w32 w64 wf = left (done r) (over x scores) (cleared 0 f.narrow w32) (cleared 0 f.wide w64) (cleared zero_f f.floats wf)

-- a vector that counts has n entries, and n places from base lie in the workspace
pub record DividePre (n : ℕ) (flag : Bool) (xs : List Float) (base : ℕ) (wf : List Float) : Type 0 where
  pub long : flag ≡ true → length xs ≡ n
  pub room : base + n ≤ length wf

-- the divided vector stands at base, every other place is as it was
pub record Divided (n : ℕ) (values : List Float) (base : ℕ) (wf wf' : List Float) : Type 0 where
  pub frame : Frame wf base n wf'
  pub there : part wf' base n ≡ values

-- w has the entries from k to before end, their targets are nodes, and wf has the vectors and a weight for each of them
pub record GivePre (n : ℕ) (w : List ℕ) (k end : ℕ) (wf : List Float) : Type 0 where
  pub order : k ≤ end
  pub entries : entries_at n + end ≤ length w
  pub nodes : (j : ℕ) → k ≤ j → j < end → slice_index w (entries_at n + j) < n
  pub weights : weights_at n + end ≤ length wf

-- what the entries from k to before end give
abbrev pub shares_from : ℕ → List ℕ → List Float → ℕ → ℕ → List Share
shares_from n w wf k end = list_of (λ j. share_in n w wf (k + j)) (end - k)

-- wf' is wf after the entries from k to before end have given, in their order; the current vector is as it was
abbrev pub Given : ℕ → Float → List ℕ → ℕ → ℕ → List Float → List Float → Type 0
Given n contribution w k end wf wf' = Vectors n wf (current_in n wf) (foldl (gives contribution) (next_in n wf) (shares_from n w wf k end)) wf'

-- the next vector became the current one, `change` is how far they were apart, and behind the two vectors nothing differs
pub record Advanced (n : ℕ) (wf : List Float) (change : Float) (wf' : List Float) : Type 0 where
  pub front : Front wf (n + n) wf'
  pub current : current_in n wf' ≡ next_in n wf
  pub changed : change ≡ absolute_change n (current_in n wf) (next_in n wf)
