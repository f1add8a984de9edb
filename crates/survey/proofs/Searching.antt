-- The survey's search: the regions filled, the search over the rows, and what of the workspace it changed. Assumes nothing.
use mathlib.Core.List.{List}
use Prim.Native.Nat.{ℕ}
use native.Mathlib.Omega.{arith}
use Rattle.regions.specs.Region.{Filled}
use Rattle.regions.proofs.Fronts.{front_then, front_wide}
use Rattle.regions.proofs.Frames.{frame_front, frame2_front}
use Rattle.std.specs.Prelude.{Result}
use Rattle.graph.specs.Fronts.{usual_fronts}
use Rattle.graph.specs.Layout.{distances_at, queue_at}
use Rattle.hops.specs.declared.TooManyPaths.{TooManyPaths}
use Rattle.hops.specs.Hops.{unreached, path_limit}
use Rattle.hops.specs.Search.{SearchPre, SearchPost}
use Rattle.hops.proofs.Workspace.{space_filled, fresh_filled}
use Rattle.survey.specs.Steps.{HeldRows, Surveyed}

module _ {n m s : ℕ} {w c w1 c1 : List ℕ} (H : HeldRows n m s w c) (d : Filled w (distances_at n m) n unreached w1) (z : Filled c 0 n 0 c1) where
  pub search_pre : SearchPre n s path_limit (distances_at n m) (queue_at n m) w1 c1
  search_pre =
      record {
        directed = H.directed;
        edges = H.edges;
        space = space_filled H.valid H.start H.rows (omega arith) (omega (arith, H.room)) (omega (arith, H.counts)) d z;
        fresh = fresh_filled d z;
        some = omega arith;
      }

  pub surveyed : {w2 c2 : List ℕ} {r : Result ℕ TooManyPaths} → SearchPost n s path_limit (distances_at n m) (queue_at n m) w1 c1 w2 c2 r → Surveyed n m s w c w2 c2 r
  surveyed P =
      record {
        narrow = front_then (frame_front (usual_fronts n m).narrow (omega arith) d.frame) (frame2_front (usual_fronts n m).narrow (omega arith) (omega arith) P.kept.narrow);
        wide = front_then (frame_front (usual_fronts n m).wide (omega arith) z.frame) (front_wide (usual_fronts n m).wide (omega arith) P.kept.wide);
        ended = λ directed es ok R. P.ended directed es (space_filled ok H.start R (omega arith) (omega (arith, H.room)) (omega (arith, H.counts)) d z);
      }
