-- The accumulation over predecessor entries with their pairs: what its steps ask of the workspace and leave in it. Definitions only.
use Rattle.std.specs.Prelude.{◌≡◌, ℕ, ◌+◌, ◌-◌, ◌<◌, ◌≤◌, List, [], ◌∷◌, length, slice_index, slice_index_or, Float}
use Rattle.std.specs.Float.{nan, binary64}
use Rattle.std.specs.Float.Ieee.{add}
use Rattle.regions.specs.Doubles.{one}
use Rattle.regions.specs.Region.{part}
use Rattle.brandes.specs.Shares.{share, grow}
use Rattle.brandes.specs.Steps.{held_count, HeldEntries}
use Rattle.pair_search.specs.declared.PairTracks.{PairTracks}

-- floats with delta in the n places behind the first n and totals from t: v takes its share, and the total of its pair the same
abbrev pub crossed : ℕ → ℕ → List ℕ → Float → Float → List Float → ℕ → ℕ → List Float
crossed n t counts countW grown floats v pair =
    grow (grow floats (n + v) (share (held_count counts v) countW grown)) (t + pair) (share (held_count counts v) countW grown)

-- each of the nodes in turn, with the pair beside it
unfoldable pub crossed_all : ℕ → ℕ → List ℕ → Float → Float → List Float → List ℕ → List ℕ → List Float
crossed_all n t counts countW grown floats [] pairs = floats
crossed_all n t counts countW grown floats (v ∷ vs) [] = floats
crossed_all n t counts countW grown floats (v ∷ vs) (pair ∷ pairs) = crossed_all n t counts countW grown (crossed n t counts countW grown floats v pair) vs pairs

-- floats after w left: its predecessor entries took their shares, and the totals of their pairs the same
unfoldable pub left_across : ℕ → ℕ → List ℕ → (ℕ → List ℕ) → (ℕ → List ℕ) → ℕ → List Float → List Float
left_across n t counts predecessors pairs w floats =
    crossed_all n t counts (held_count counts w) (add binary64 one (slice_index_or floats (n + w) nan)) floats (predecessors w) (pairs w)

-- the pairs of the predecessor entries of w that w32 holds: they stand from `pairs` as the entries do from `base`
abbrev pub held_pairs : PairTracks → List ℕ → ℕ → List ℕ
held_pairs t w32 w = part w32 (t.pairs + slice_index w32 (t.tracks.first + w)) (slice_index w32 (t.tracks.last + w) - slice_index w32 (t.tracks.first + w))

-- the entries vs are nodes with a count and a delta, and beside each, in ps, stands a pair with a total
pub record PassAcrossPre (n t : ℕ) (vs ps w64 : List ℕ) (wf : List Float) : Type 0 where
  pub beside : length ps ≡ length vs
  pub counts : n ≤ length w64
  pub deltas : n + n ≤ t
  pub nodes : (k : ℕ) → k < length vs → slice_index vs k < n
  pub totals : (k : ℕ) → k < length vs → t + slice_index ps k < length wf
  pub floats : n + n ≤ length wf

-- the predecessor entries that w32 holds are nodes, and their pairs, from `pairs`, have totals
pub record HeldAcross (t : PairTracks) (w32 : List ℕ) (wf : List Float) : Type 0 where
  pub kept : HeldEntries t.tracks w32
  pub before : t.pairs ≤ t.tracks.base
  pub deltas : t.tracks.places.nodes + t.tracks.places.nodes ≤ t.table.totals
  pub totals : (w k : ℕ) → w < t.tracks.places.nodes → slice_index w32 (t.tracks.first + w) ≤ k → k < slice_index w32 (t.tracks.last + w) → t.table.totals + slice_index w32 (t.pairs + k) < length wf

-- what `leave` asks: a node w, predecessor entries with their pairs, a total for each pair, and a count and a delta for each node
pub record LeaveAcrossPre (t : PairTracks) (w : ℕ) (w32 w64 : List ℕ) (wf : List Float) : Type 0 where
  pub held : HeldAcross t w32 wf
  pub node : w < t.tracks.places.nodes
  pub counts : t.tracks.places.nodes ≤ length w64
  pub floats : t.tracks.places.nodes + t.tracks.places.nodes ≤ length wf

-- the queue holds `found` nodes, with their predecessor entries and the pairs
pub record AcrossPre (t : PairTracks) (found : ℕ) (w32 w64 : List ℕ) (wf : List Float) : Type 0 where
  pub held : HeldAcross t w32 wf
  pub room : t.tracks.places.queue + found ≤ length w32
  pub queued : (i : ℕ) → i < found → slice_index w32 (t.tracks.places.queue + i) < t.tracks.places.nodes
  pub counts : t.tracks.places.nodes ≤ length w64
  pub floats : t.tracks.places.nodes + t.tracks.places.nodes ≤ length wf
