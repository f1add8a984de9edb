-- How `betweenness` ends: what its steps leave is the outcome. Assumes nothing.
use Rattle.std.proofs.Common.{◌≡◌, ℕ, Bool, true, false, cond, ltb, List, length, get_or, refl, ap, ◌∙◌, arith, ltb-false}
use borrow.Author.Tests.{eqb-false}
use Rattle.std.specs.Prelude.{Result, Ok, Err}
use lib.Ieee.{Float, nan}
use Rattle.regions.specs.Region.{over, list_of}
use Rattle.answers.specs.declared.Answer.{Answer}
use Rattle.answers.specs.declared.Answer.TheVariants.{Paths}
use Rattle.answers.specs.declared.Refusal.{Refusal}
use Rattle.graph.specs.declared.Fronts.{Fronts}
use Rattle.answers.specs.Answers.{Said, done, said_by, refused_if, refused_with}
use Rattle.graph.specs.Edges.{edges_of}
use Rattle.graph.specs.Fronts.{usual_fronts}
use Rattle.graph.specs.Given.{Given, graph_in}
use Rattle.graph.specs.Pres.{Passed, Ready, Roomy}
use Rattle.graph.specs.Refusals.{Tests, first_refusal, plain_refusal}
use Rattle.graph.specs.Left.{left, untouched, Wiped}
use Rattle.graph.proofs.Refusals.{passed, plain_tests, plain_ready, plain_fits}
use Rattle.graph.proofs.Left.{refused}
use Rattle.hops.specs.declared.TooManyPaths.{TooManyPaths}
use Rattle.hops.specs.Hops.{path_limit}
use Rattle.hops.specs.Search.{graph_of}
use Rattle.brandes.specs.Shares.{scores_after, some_exceeds}
use Rattle.betweenness.specs.Betweenness.{scaled, betweenness_scores, betweenness_outcome}
use Rattle.betweenness.specs.Writes.{ScorePre, ScorePost, WritePre}
use Rattle.betweenness.proofs.Scaling.{scaled_all}
use Rattle.starts.specs.Starts.{stopped, Within, Scored, StartsPre, StartsPost, Prepared}
use Rattle.starts.proofs.Following.{within_then}
use Rattle.starts.proofs.Wiping.{wipe_asks, ends_paths, ends_done}

-- ---- the scores

module _ {n : ℕ} {directed : Bool} {from to : List ℕ} {weight scores : List Float} {w c : List ℕ} {f : List Float} (P : ScorePre n from to weight scores w c f)
    {w1 c1 : List ℕ} {f1 : List Float} (A : Prepared n directed from to weight w c f w1 c1 f1) where
  pub starts_asks : StartsPre n (length from) w1 c1 f1
  starts_asks = record { directed = directed; edges = edges_of from to weight; still = A.still; limits = P.ready.sound.limits }

  module _ {w2 c2 : List ℕ} {f2 : List Float} {r : Result (Unit {0}) TooManyPaths} (B : StartsPost n (length from) w1 c1 f1 w2 c2 f2 r) where
    within : Within n (length from) w c f w2 c2 f2
    within = within_then A.within B.within

    pub write_asks : WritePre n f2 scores
    write_asks = record { few = P.ready.sound.limits.nodes; held = omega (arith, P.ready.roomy.rf, within.floats.long); room = P.room }

    paths : some_exceeds path_limit (graph_of n directed (edges_of from to weight)) n ≡ stopped r
    paths = B.paths directed (edges_of from to weight) A.still

    module _ (normalized : Bool) where
      pub too_many : stopped r ≡ true → (e' : TooManyPaths) → ScorePost n directed normalized from to weight scores w c f scores w2 c2 f2 (Err e')
      too_many e e' = record { within = within; paths = paths ∙ e; results = refl }

      pub all_scored : stopped r ≡ false → {scores' : List Float} → scores' ≡ over (list_of (λ v. scaled n directed normalized (get_or f2 v nan)) n) scores
          → ScorePost n directed normalized from to weight scores w c f scores' w2 c2 f2 (Ok tt)
      unfolding betweenness_scores
      all_scored e es =
          let C : Scored n f2 (scores_after (graph_of n directed (edges_of from to weight)) n) = B.scored e directed (edges_of from to weight) A.still A.scored in
          record {
            within = within;
            paths = paths ∙ e;
            results = es ∙ ap (λ (l : List Float). over l scores) (scaled_all (scaled n directed normalized) C);
          }

-- ---- the call

-- the rows of the table that can refuse
abbrev pub score_tests : Given (List Float) → Tests
score_tests g = plain_tests g true false (ltb (length g.results) g.nodes)

module _ (normalized : Bool) (g : Given (List Float)) {f : Fronts} (ef : (f.narrow ≡ length g.w32) × (f.wide ≡ length g.w64) × (f.floats ≡ length g.wf)) where
  -- what the check finds first
  abbrev found_first : Answer
  found_first = plain_refusal g.nodes g.from g.to g.weight true false (ltb (length g.results) g.nodes) f.narrow f.wide f.floats

  checked : found_first ≡ first_refusal (score_tests g)
  checked = rw (ef.0, ef.1, ef.2)

  pub refused_scores : {x : Result (Unit {0}) Refusal} {r : Refusal} → x ≡ Err r → Err r ≡ refused_if found_first → untouched g (said_by x) ≡ betweenness_outcome normalized g
  unfolding betweenness_outcome
  refused_scores ex e = refused g (score_tests g) _ ex (e ∙ ap refused_if checked)

  pub passed_scores : {v : Unit {0}} → Ok v ≡ refused_if found_first → Passed (score_tests g)
  passed_scores e = passed (score_tests g) (e ∙ ap refused_if checked)

module _ (g : Given (List Float)) (p : Passed (score_tests g)) where
  pub ready : Ready g
  ready = plain_ready g true false (ltb (length g.results) g.nodes) p

  pub score_asks : ScorePre g.nodes g.from g.to g.weight g.results g.w32 g.w64 g.wf
  score_asks =
      record {
        ready = record { sound = ready.sound; some = omega (arith, eqb-false g.nodes 0 p.empty); roomy = ready.roomy };
        room = ltb-false _ _ (plain_fits g true false (ltb (length g.results) g.nodes) p);
      }

  module _ {normalized : Bool} {scores : List Float} {w c : List ℕ} {f : List Float} {r : Result (Unit {0}) TooManyPaths}
      (S : ScorePost g.nodes g.directed normalized g.from g.to g.weight g.results g.w32 g.w64 g.wf scores w c f r)
      {fr : Fronts} (ef : fr ≡ usual_fronts g.nodes (length g.from)) where
    pub wipe_pre : Roomy fr (length w) (length c) (length f)
    wipe_pre = wipe_asks g S.within ef ready

    -- the scores, by whether a count was above the limit
    either : Bool → List Float
    either b = cond b g.results (over (betweenness_scores normalized (graph_in g)) g.results)

    module _ {w' c' : List ℕ} {f' : List Float} (W : Wiped fr w c f w' c' f') where
      pub ended_paths : stopped r ≡ true → left {A = Said (Unit {0})} (refused_with Paths) scores w' c' f' ≡ betweenness_outcome normalized g
      unfolding betweenness_outcome either
      ended_paths e =
          ap (λ (l : List Float). left {A = Said (Unit {0})} (refused_with Paths) l w' c' f') (S.results ∙ ap either e)
          ∙ ends_paths g S.within ef W (score_tests g) p (over (betweenness_scores normalized (graph_in g)) g.results) (S.paths ∙ e)

      pub ended_done : stopped r ≡ false → left {A = Said (Unit {0})} (done (tt {0})) scores w' c' f' ≡ betweenness_outcome normalized g
      unfolding betweenness_outcome either
      ended_done e = ends_done g S.within ef W (score_tests g) p (over (betweenness_scores normalized (graph_in g)) g.results) (S.paths ∙ e) (S.results ∙ ap either e)
