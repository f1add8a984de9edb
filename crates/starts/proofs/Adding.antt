-- What the steps of one start ask, and what they leave together; start after start. Assumes nothing.
use mathlib.Core.Path.{◌≡◌, refl, sym, ap, subst}
use mathlib.Core.Bool.{Bool, true, false, false≢true}
use mathlib.Core.List.{List, foldr}
use Prim.Native.Nat.{ℕ, ◌+◌, ◌<◌}
use native.Mathlib.Numerals.{add-one}
use native.Mathlib.Omega.{arith}
use Rattle.std.specs.Prelude.{Result, Ok, Err}
use lib.Ieee.{Float}
use Rattle.regions.specs.Region.{part, Front}
use Rattle.graph.specs.Edges.{Edge, Graph}
use Rattle.graph.specs.Fronts.{usual_fronts}
use Rattle.graph.specs.Layout.{distances_at, queue_at}
use Rattle.hops.specs.declared.TooManyPaths.{TooManyPaths}
use Rattle.hops.specs.Search.{graph_of, ForgetPre, Forgotten}
use Rattle.hops.proofs.Forgetting.{forget_pre}
use Rattle.brandes.specs.Steps.{held_predecessors, left_by, AccumulatePre, ReleasePre, Released}
use Rattle.predecessors.specs.Tracks.{Traced, SearchPre, SearchPost}
use Rattle.brandes.proofs.Starts.{accumulate_pre}
use Rattle.brandes.specs.Shares.{from_start, scores_after}
use Rattle.starts.specs.Starts.{tracks_at, stopped, Still, Scored, StartPre, StartPost, StartsPre, StartsPost}
use Rattle.starts.proofs.Starting.{not_many, release_pre, still_next, within_next, score_front, score_kept, scored_next, within_paths, many}
use Rattle.starts.proofs.Following.{within_then, Adds, Added, added_more, added_paths}

pub search_pre : {n m s : ℕ} {w c : List ℕ} {f : List Float} → StartPre n m s w c f → SearchPre (tracks_at n m) s w c
search_pre {n} {m} {s} P =
    record {
      directed = P.directed;
      edges = P.edges;
      space = P.still.space s P.start;
      slots = P.still.slots;
      fresh = P.still.fresh;
      empty = P.still.empty;
      some = omega arith;
    }

module _ {n m s : ℕ} {w c : List ℕ} {f : List Float} (pre : StartPre n m s w c f) {w1 c1 : List ℕ} where
  -- a path count is above the limit
  pub start_paths : {e : TooManyPaths} → SearchPost (tracks_at n m) s w c w1 c1 (Err e) → (e' : TooManyPaths) → StartPost n m s w c f w1 c1 f (Err e')
  start_paths P e' =
      record {
        within = within_paths pre.still P.stays;
        still = λ q. absurd (false≢true (sym q));
        scored = λ q. absurd (false≢true (sym q));
        paths = λ directed es S. many (P.ended directed es (S.space s pre.start) S.slots);
      }

  module _ {tail : ℕ} (P : SearchPost (tracks_at n m) s w c w1 c1 (Ok tail)) where
    pub traced : (directed : Bool) (es : List Edge) → Still (graph_of n directed es) m w c f → Traced (graph_of n directed es) (tracks_at n m) s w1 c1 tail
    traced directed es S = P.ended directed es (S.space s pre.start) S.slots

    pub own : Traced (graph_of n pre.directed pre.edges) (tracks_at n m) s w1 c1 tail
    own = traced pre.directed pre.edges pre.still

    pub start_accumulate : AccumulatePre (tracks_at n m) tail w1 c1 f
    start_accumulate = accumulate_pre own refl pre.still.floats

    pub start_forget : ForgetPre tail (distances_at n m) (queue_at n m) w1 c1
    start_forget = forget_pre own.found

    module _ (f1 : List Float) (acc : f1 ≡ foldr (left_by n c1 (held_predecessors (tracks_at n m) w1) s) f (part w1 (queue_at n m) tail))
        {w2 c2 : List ℕ} (X : Forgotten tail (distances_at n m) (queue_at n m) w1 c1 w2 c2) where
      front : Front f (usual_fronts n m).floats f1
      front = score_front pre.still P.stays own f1 acc

      pub start_release : ReleasePre (tracks_at n m) tail w2 f1
      start_release = release_pre pre.still P.stays own f1 front X

      pub start_done : {w3 : List ℕ} {f2 : List Float} → Released (tracks_at n m) tail w2 f1 w3 f2 → StartPost n m s w c f w3 c2 f2 (Ok tt)
      start_done Y =
          record {
            within = within_next pre.still P.stays own f1 front X Y;
            still = λ q directed es S. still_next S P.stays (traced directed es S) f1 front X Y (score_kept S P.stays (traced directed es S) f1 acc);
            scored = λ q directed es S scores C. scored_next S P.stays (traced directed es S) f1 acc Y scores C;
            paths = λ directed es S. not_many S P.stays (traced directed es S);
          }

-- ---- start after start

-- the starts 0 to k - 1 have been added, to the scores
abbrev pub AddedScores : (n m : ℕ) (w₀ c₀ : List ℕ) (f₀ : List Float) (k : ℕ) (w c : List ℕ) (f : List Float) → Type 0
AddedScores n m w₀ c₀ f₀ k w c f = Added (λ g. Still g m) (λ g i w f. Scored n f (scores_after g i)) n m w₀ c₀ f₀ k w c f

scores_more : (g : Graph) (k : ℕ) → (from_start g k (scores_after g k)).scores ≡ scores_after g (k + 1)
unfolding scores_after
scores_more g k = ap (scores_after g) (sym (add-one k))

module _ {n m : ℕ} {w₀ c₀ : List ℕ} {f₀ : List Float} (pre : StartsPre n m w₀ c₀ f₀) {k : ℕ} {w c : List ℕ} {f : List Float} (A : AddedScores n m w₀ c₀ f₀ k w c f) (l : k < n) where
  pub starts_pre : StartPre n m k w c f
  starts_pre = record { directed = pre.directed; edges = pre.edges; still = A.still pre.directed pre.edges pre.still; limits = pre.limits; start = l }

  module _ {w' c' : List ℕ} {f' : List Float} {r : Result (Unit {0}) TooManyPaths} (P : StartPost n m k w c f w' c' f' r) where
    one : Adds (λ g. Still g m) (λ g i w f. Scored n f (scores_after g i)) n m k w c f w' c' f' (stopped r)
    one =
        record {
          within = P.within;
          still = P.still;
          adds = λ e d es S C. subst (λ (t : List Float). Scored n f' t) (scores_more (graph_of n d es) k) (P.scored e d es S (scores_after (graph_of n d es) k) C);
          paths = P.paths;
        }

    pub starts_more : stopped r ≡ false → AddedScores n m w₀ c₀ f₀ (k + 1) w' c' f'
    starts_more e = added_more A l one e

    pub starts_paths : stopped r ≡ true → (e' : TooManyPaths) → StartsPost n m w₀ c₀ f₀ w' c' f' (Err e')
    starts_paths e e' =
        record {
          within = within_then A.within P.within;
          scored = λ q. absurd (false≢true (sym q));
          paths = added_paths A l one e;
        }
