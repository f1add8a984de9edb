-- What the steps of the accumulation ask of the workspace, and what they leave in it. Definitions only.
use Rattle.std.specs.Prelude.{◌≡◌, ℕ, ◌+◌, ◌-◌, ◌<◌, ◌≤◌, cond, ◌≢◌, List, length, ◌==◌, slice_index, slice_index_or, Float}
use mathlib.Core.List.{foldl}
use Rattle.std.specs.Float.{nan, binary64}
use Rattle.std.specs.Float.Ieee.{add}
use Rattle.regions.specs.Doubles.{double, one}
use Rattle.regions.specs.Region.{part, zero_f}
use Rattle.predecessors.specs.declared.Tracks.{Tracks}
use Rattle.brandes.specs.Shares.{share, grow}

-- the count of v that the 64-bit numbers hold, as a double
abbrev pub held_count : List ℕ → ℕ → Float
held_count counts v = double (slice_index counts v)

-- floats with delta in the n places behind the first n: each of the nodes takes its share
unfoldable pub passed_back : ℕ → List ℕ → Float → Float → List Float → List ℕ → List Float
passed_back n counts countW grown floats vs = foldl (λ f v. grow f (n + v) (share (held_count counts v) countW grown)) floats vs

-- the entries are nodes, and each has a count and a delta
pub record PassPre (n : ℕ) (vs w64 : List ℕ) (wf : List Float) : Type 0 where
  pub counts : n ≤ length w64
  pub floats : n + n ≤ length wf
  pub nodes : (p : ℕ) → p < length vs → slice_index vs p < n

-- the predecessor entries of w that w32 holds
abbrev pub held_predecessors : Tracks → List ℕ → ℕ → List ℕ
held_predecessors t w32 w = part w32 (t.base + slice_index w32 (t.first + w)) (slice_index w32 (t.last + w) - slice_index w32 (t.first + w))

-- floats after w left: its predecessors took their shares, and unless it is the start its score, one of the first n, grew by its delta
unfoldable pub left_by : ℕ → List ℕ → (ℕ → List ℕ) → ℕ → ℕ → List Float → List Float
left_by n counts predecessors s w floats =
    cond (w == s)
    (passed_back n counts (held_count counts w) (add binary64 one (slice_index_or floats (n + w) nan)) floats (predecessors w))
    (grow (passed_back n counts (held_count counts w) (add binary64 one (slice_index_or floats (n + w) nan)) floats (predecessors w)) w (slice_index_or floats (n + w) nan))

-- the predecessor entries that w32 holds are nodes
pub record HeldEntries (t : Tracks) (w32 : List ℕ) : Type 0 where
  pub firsts : t.first + t.places.nodes ≤ length w32
  pub lasts : t.last + t.places.nodes ≤ length w32
  pub ordered : (w : ℕ) → w < t.places.nodes → slice_index w32 (t.first + w) ≤ slice_index w32 (t.last + w)
  pub inside : (w : ℕ) → w < t.places.nodes → t.base + slice_index w32 (t.last + w) ≤ length w32
  pub nodes : (w k : ℕ) → w < t.places.nodes → slice_index w32 (t.first + w) ≤ k → k < slice_index w32 (t.last + w) → slice_index w32 (t.base + k) < t.places.nodes

-- what `leave` asks: a node w, predecessor entries that are nodes, and a count, a score and a delta for each node
pub record LeavePre (t : Tracks) (w : ℕ) (w32 w64 : List ℕ) (wf : List Float) : Type 0 where
  pub kept : HeldEntries t w32
  pub node : w < t.places.nodes
  pub counts : t.places.nodes ≤ length w64
  pub floats : t.places.nodes + t.places.nodes ≤ length wf

-- the queue holds `found` nodes, with their predecessor entries
pub record AccumulatePre (t : Tracks) (found : ℕ) (w32 w64 : List ℕ) (wf : List Float) : Type 0 where
  pub kept : HeldEntries t w32
  pub room : t.places.queue + found ≤ length w32
  pub queued : (i : ℕ) → i < found → slice_index w32 (t.places.queue + i) < t.places.nodes
  pub counts : t.places.nodes ≤ length w64
  pub floats : t.places.nodes + t.places.nodes ≤ length wf

-- ---- back to the beginning

-- what `release` asks: the first `tail` places of the queue are nodes, and the offsets and ends of their entries stand behind it
pub record ReleasePre (t : Tracks) (tail : ℕ) (w : List ℕ) (wf : List Float) : Type 0 where
  pub before : t.places.queue + tail ≤ t.first
  pub firsts : t.first + t.places.nodes ≤ t.last
  pub lasts : t.last + t.places.nodes ≤ length w
  pub floats : t.places.nodes + t.places.nodes ≤ length wf
  pub queued : (i : ℕ) → i < tail → slice_index w (t.places.queue + i) < t.places.nodes

-- the nodes at the first `tail` places of the queue have no predecessor entry, and delta +0.0, and all else is as it was
pub record Released (t : Tracks) (tail : ℕ) (w : List ℕ) (wf : List Float) (w' : List ℕ) (wf' : List Float) : Type 0 where
  pub long : length w' ≡ length w
  pub long_floats : length wf' ≡ length wf
  pub ends : (i : ℕ) → i < tail → slice_index w' (t.last + slice_index w (t.places.queue + i)) ≡ slice_index w (t.first + slice_index w (t.places.queue + i))
  pub deltas : (i : ℕ) → i < tail → slice_index_or wf' (t.places.nodes + slice_index w (t.places.queue + i)) nan ≡ zero_f
  pub kept : (k : ℕ) → ((i : ℕ) → i < tail → k ≢ t.last + slice_index w (t.places.queue + i)) → slice_index w' k ≡ slice_index w k
  pub kept_floats : (k : ℕ) → ((i : ℕ) → i < tail → k ≢ t.places.nodes + slice_index w (t.places.queue + i)) → slice_index_or wf' k nan ≡ slice_index_or wf k nan
