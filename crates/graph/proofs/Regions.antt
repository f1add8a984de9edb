-- The regions of the workspace stand one behind the other, and the last one of each slice ends within the used front. Assumes nothing.
use Prim.Native.Nat.{ℕ, ◌+◌, ◌*◌, ◌≤◌}
use native.Mathlib.Omega.{arith}
use Rattle.graph.specs.Fronts.{usual_fronts}
use Rattle.graph.specs.Layout.{offsets_at, entries_at, beside_at, distances_at, queue_at, incoming_at, filled_at, predecessor_pairs_at, predecessors_at, counts_at, scores_at, next_at, out_weights_at, personal_at, totals_at}

pub record Laid (n m : ℕ) : Type 0 where
  pub offsets : offsets_at + (n + 1) ≤ entries_at n
  pub entries : entries_at n + 2 * m ≤ beside_at n m
  pub beside : beside_at n m + 2 * m ≤ distances_at n m
  pub distances : distances_at n m + n ≤ queue_at n m
  pub queue : queue_at n m + n ≤ incoming_at n m
  pub incoming : incoming_at n m + (n + 1) ≤ filled_at n m
  pub filled : filled_at n m + n ≤ predecessor_pairs_at n m
  pub pairs : predecessor_pairs_at n m + 2 * m ≤ predecessors_at n m
  pub predecessors : predecessors_at n m + 2 * m ≤ (usual_fronts n m).narrow
  pub counts : counts_at + n ≤ (usual_fronts n m).wide
  pub scores : scores_at + n ≤ next_at n
  pub next : next_at n + n ≤ out_weights_at n
  pub out_weights : out_weights_at n + n ≤ personal_at n
  pub personal : personal_at n + n ≤ totals_at n
  pub totals : totals_at n + 2 * m ≤ (usual_fronts n m).floats

pub laid : (n m : ℕ) → Laid n m
laid n m =
    record {
      offsets = omega arith;
      entries = omega arith;
      beside = omega arith;
      distances = omega arith;
      queue = omega arith;
      incoming = omega arith;
      filled = omega arith;
      pairs = omega arith;
      predecessors = omega arith;
      counts = omega arith;
      scores = omega arith;
      next = omega arith;
      out_weights = omega arith;
      personal = omega arith;
      totals = omega arith;
    }
