-- A search from every node: after each the workspace is as before it, and one more score stands. Assumes nothing.
use Rattle.std.proofs.Common.{◌≡◌, ℕ, ◌+◌, ◌-◌, ◌<◌, ◌≤◌, Bool, List, length, set, ap, ◌∙◌, arith}
use lib.Ieee.{Float}
use Rattle.regions.specs.Region.{over, list_of, Frame2}
use Rattle.regions.proofs.Fronts.{results_none, results_more}
use Rattle.regions.proofs.Frames.{frame2_then}
use Rattle.graph.specs.Edges.{Edge, Graph}
use Rattle.hops.specs.Search.{graph_of}
use Rattle.reach.specs.Reach.{others_in}
use Rattle.reach.specs.Search.{Within, Ground, FromPre, FromPost}
use Rattle.reach.proofs.Within.{one_more}
use Rattle.reaching.specs.Reaching.{share_of, reach_score}
use Rattle.reaching.specs.Starts.{Undone}
use Rattle.reaching.proofs.Undoing.{undone_kept, ground_back}

-- the scores of the first s nodes stand, and the workspace is ready for the next search
pub record Scoring (g : Graph) (limit D Q : ℕ) (scores₀ : List Float) (w : List ℕ) (scores : List Float) (s : ℕ) : Type 0 where
  pub ground : Ground g w D Q
  pub scored : scores ≡ over (list_of (reach_score g limit) s) scores₀

pub scoring_none : {g : Graph} {limit D Q : ℕ} {w : List ℕ} (scores : List Float) → Ground g w D Q → Scoring g limit D Q scores w scores 0
scoring_none {g} {limit} scores G = record { ground = G; scored = results_none (reach_score g limit) scores }

module _ {n limit D Q s : ℕ} (directed : Bool) (es : List Edge) {scores₀ : List Float} {w : List ℕ} {scores : List Float} (R : Scoring (graph_of n directed es) limit D Q scores₀ w scores s) (l : s < n) where
  pub from_pre : FromPre n s D Q w
  from_pre = record { directed = directed; edges = es; ground = R.ground; start = l }

  module _ {w1 : List ℕ} {r : ℕ} (P : FromPost n limit s D Q w w1 r) where
    W : Within (graph_of n directed es) limit s w1 D Q r
    W = P.reached directed es R.ground

    pub counted : r ≡ 1 + others_in (graph_of n directed es) limit s
    counted = one_more R.ground.valid l limit W

    module _ {w2 : List ℕ} (U : Undone r D Q w1 w2) where
      pub kept_on : {w₀ : List ℕ} → Frame2 w₀ D n Q n w → Frame2 w₀ D n Q n w2
      kept_on f = frame2_then f (undone_kept R.ground P.kept W U)

      pub scoring_more : (x : Float) → n ≤ length scores₀ → x ≡ share_of n (r - 1) → Scoring (graph_of n directed es) limit D Q scores₀ w2 (set scores s x) (s + 1)
      unfolding reach_score
      scoring_more x room e =
          let k : r - 1 ≡ others_in (graph_of n directed es) limit s = omega (arith, counted) in
          record {
            ground = ground_back R.ground P.kept W U;
            scored = results_more (reach_score (graph_of n directed es) limit) scores₀ scores s x (omega arith) (e ∙ ap (share_of n) k) R.scored;
          }
