-- Where each region of the workspace begins, for n nodes and m edges: one layout for all measures. Definitions only.
use Rattle.std.specs.Prelude.{ℕ, ◌+◌, ◌*◌}

-- ---- the slice of 32-bit numbers

-- n + 1 row offsets: the entries of v stand from the one at v to the one at v + 1
abbrev pub offsets_at : ℕ
offsets_at = 0

-- 2m row entries: neighbours, or the targets of weighted lists
abbrev pub entries_at : ℕ → ℕ
entries_at n = n + 1

-- 2m numbers beside the row entries: the edge position of a weighted entry, the pair of an entry in edge betweenness
abbrev pub beside_at : ℕ → ℕ → ℕ
beside_at n m = n + 1 + 2 * m

-- n hop distances from the start
abbrev pub distances_at : ℕ → ℕ → ℕ
distances_at n m = n + 1 + 4 * m

-- n places of the queue, in breadth-first order
abbrev pub queue_at : ℕ → ℕ → ℕ
queue_at n m = 2 * n + 1 + 4 * m

-- n + 1 offsets of the predecessor entries
abbrev pub incoming_at : ℕ → ℕ → ℕ
incoming_at n m = 3 * n + 1 + 4 * m

-- n ends of the predecessor entries found so far
abbrev pub filled_at : ℕ → ℕ → ℕ
filled_at n m = 4 * n + 2 + 4 * m

-- 2m pairs of the predecessor entries
abbrev pub predecessor_pairs_at : ℕ → ℕ → ℕ
predecessor_pairs_at n m = 5 * n + 2 + 4 * m

-- 2m predecessor entries, the last region
abbrev pub predecessors_at : ℕ → ℕ → ℕ
predecessors_at n m = 5 * n + 2 + 6 * m

-- ---- the slice of 64-bit numbers

-- n path counts
abbrev pub counts_at : ℕ
counts_at = 0

-- ---- the slice of f64

-- n scores: the sums of betweenness, the vector that a round begins with, the abilities of VoteRank
abbrev pub scores_at : ℕ
scores_at = 0

-- n numbers that a step works out: delta, the vector that a round makes, the votes of an election
abbrev pub next_at : ℕ → ℕ
next_at n = n

-- n out-weights
abbrev pub out_weights_at : ℕ → ℕ
out_weights_at n = 2 * n

-- n entries of a personalization
abbrev pub personal_at : ℕ → ℕ
personal_at n = 3 * n

-- 2m totals of the pairs of edge betweenness
abbrev pub totals_at : ℕ → ℕ
totals_at n = 4 * n
