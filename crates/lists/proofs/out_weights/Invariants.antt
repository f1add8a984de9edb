-- `lists::out_weights` meets its contract: after v nodes their out-weights stand in their region. Assumes nothing.
use mathlib.Core.Path.{◌≡◌}
use Prim.Native.Nat.{ℕ, ◌+◌, ◌*◌, ◌<◌}
use lib.ListN.{length, get_or}
use lib.Ieee.{Float}
use Rattle.regions.specs.Region.{Frame}
use Rattle.lists.specs.Lists.{weight_of, shares_at}
use Rattle.lists.proofs.out_weights.Given as goal

abbrev pub invariant-loop-v : goal.invariant-loop-v
invariant-loop-v l =
    record {
      frame : Frame l.initial.wf (2 * l.graph.nodes) l.graph.nodes l.wf;
      written : (d : Float) (u : ℕ) → u < l.v → get_or l.wf (2 * l.graph.nodes + u) d ≡ weight_of (shares_at l.graph.nodes (length l.graph.weight.now) l.graph.weight.now l.w u);
    }
