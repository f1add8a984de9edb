-- How `edge_betweenness` ends: what its steps leave is the outcome. Assumes nothing.
use mathlib.Core.Path.{◌≡◌, refl, sym, ap, ap₂, ◌∙◌}
use mathlib.Core.Bool.{Bool, true, false, cond, not, ◌&&◌}
use mathlib.Core.List.{List}
use Prim.Native.Nat.{ℕ, ◌≤◌}
use native.Mathlib.Omega.{arith}
use borrow.Author.Tests.{ltb-false, eqb-false}
use lib.Dec.{ltb}
use lib.ListN.{length}
use lib.Ieee.{Float}
use Rattle.regions.specs.Region.{over}
use Rattle.regions.proofs.Fronts.{front_none}
use Rattle.answers.specs.declared.Answer.{Answer}
use Rattle.answers.specs.declared.Answer.TheVariants.{Paths}
use Rattle.graph.specs.declared.Fronts.{Fronts}
use Rattle.answers.specs.declared.Refusal.{Refusal}
use Rattle.answers.specs.Answers.{Said, done, said_by, refused_if, refused_with}
use Rattle.graph.specs.Edges.{edges_of}
use Rattle.graph.specs.Fronts.{usual_fronts}
use Rattle.graph.specs.Given.{Given, graph_in}
use Rattle.graph.specs.Pres.{Passed, Ready, Roomy}
use Rattle.graph.specs.Refusals.{Tests, first_refusal, plain_refusal}
use Rattle.graph.specs.Left.{left, untouched, Wiped}
use Rattle.graph.proofs.Checks.{or_left, or_right}
use Rattle.graph.proofs.Refusals.{passed, plain_tests, plain_ready, plain_fits}
use Rattle.graph.proofs.Left.{refused}
use Rattle.std.specs.Prelude.{Result, Ok, Err}
use Rattle.hops.specs.declared.TooManyPaths.{TooManyPaths}
use Rattle.hops.specs.Search.{graph_of}
use Rattle.starts.specs.Starts.{Within, stopped}
use Rattle.starts.proofs.Following.{within_then}
use Rattle.starts.proofs.Wiping.{wipe_asks, ends_paths, ends_done}
use Rattle.crossings.specs.Totals.{totals_after}
use Rattle.pair_starts.specs.Starts.{StillPairs, TotalsHeld, CrossAllPre, CrossAllPost, PreparedPairs}
use Rattle.edge_totals.specs.Writes.{RowsNumbered, EdgesPre, EdgesPost}
use Rattle.edge_betweenness.specs.Edges.{forward_scores, back_scores, EdgeScores, edge_scores, scores_short, edge_results, edge_betweenness_outcome}
use Rattle.edge_betweenness.specs.Steps.{ScorePre, ScorePost}

-- ---- the results

module _ {n : ℕ} {directed : Bool} {from to : List ℕ} {weight forward back : List Float} {w c : List ℕ} {f : List Float} (P : ScorePre n directed from to weight forward back w c f)
    {w1 c1 : List ℕ} {f1 : List Float} (A : PreparedPairs n directed from to weight w c f w1 c1 f1) where
  pub starts_asks : CrossAllPre n (length from) w1 c1 f1
  starts_asks = record { directed = directed; edges = edges_of from to weight; still = A.still; limits = P.ready.sound.limits }

  -- a path count is above the limit
  pub too_many : (normalized : Bool) {w2 c2 : List ℕ} {f2 : List Float} {e : TooManyPaths} → CrossAllPost n (length from) w1 c1 f1 w2 c2 f2 (Err e) → (e' : TooManyPaths)
      → ScorePost n directed normalized from to weight forward back w c f forward back w2 c2 f2 (Err e')
  too_many normalized B e' = record { within = within_then A.within B.within; paths = B.paths directed (edges_of from to weight) A.still; forwards = refl; backs = refl }

  module _ {w2 c2 : List ℕ} {f2 : List Float} {v : Unit {0}} (B : CrossAllPost n (length from) w1 c1 f1 w2 c2 f2 (Ok v)) where
    crossed : Within n (length from) w c f w2 c2 f2
    crossed = within_then A.within B.within

    still : StillPairs (graph_of n directed (edges_of from to weight)) (length from) w2 c2 f2
    still = B.still refl directed (edges_of from to weight) A.still

    numbered : RowsNumbered (graph_of n directed (edges_of from to weight)) (length from) w2
    numbered = record { rows = (still.still.space 0 P.ready.some).rows; most = still.most; numbered = still.numbered }

    pub write_asks : EdgesPre n directed from to w2 f2 forward back
    write_asks =
        record {
          weight = weight;
          sound = P.ready.sound;
          numbered = numbered;
          narrow = omega (arith, P.ready.roomy.r32, crossed.narrow.long);
          floats = omega (arith, P.ready.roomy.rf, crossed.floats.long);
          forwards = P.forwards;
          backs = P.backs;
        }

    totals : TotalsHeld (graph_of n directed (edges_of from to weight)) w2 f2 (totals_after (graph_of n directed (edges_of from to weight)) n)
    totals = B.totals refl directed (edges_of from to weight) A.still A.totals

    pub all_scored : {normalized : Bool} {w3 : List ℕ} {f3 forward' back' : List Float} → EdgesPost n directed normalized from to w2 f2 forward back w3 f3 forward' back'
        → ScorePost n directed normalized from to weight forward back w c f forward' back' w3 c2 f3 (Ok tt)
    unfolding forward_scores back_scores
    all_scored D =
        record {
          within = within_then crossed (record { narrow = D.narrow; wide = front_none c2 (usual_fronts n (length from)).wide; floats = D.floats });
          paths = B.paths directed (edges_of from to weight) A.still;
          forwards = D.forwards weight P.ready.sound numbered (totals_after (graph_of n directed (edges_of from to weight)) n) totals;
          backs = D.backs weight P.ready.sound numbered (totals_after (graph_of n directed (edges_of from to weight)) n) totals;
        }

-- ---- the call

-- the rows of the table that can refuse
abbrev pub edge_tests : Given EdgeScores → Tests
edge_tests g = plain_tests g true false (scores_short g)

-- t is what `edges_short` answered, and f the lengths of the workspace
module _ (g : Given EdgeScores) {t : Bool} {f : Fronts} (et : t ≡ scores_short g) (ef : (f.narrow ≡ length g.w32) × (f.wide ≡ length g.w64) × (f.floats ≡ length g.wf)) where
  abbrev found_first : Answer
  found_first = plain_refusal g.nodes g.from g.to g.weight true false t f.narrow f.wide f.floats

  checked : found_first ≡ first_refusal (edge_tests g)
  checked = rw (et, ef.0, ef.1, ef.2)

  pub refused_edges : (normalized : Bool) {x : Result (Unit {0}) Refusal} {r : Refusal} → x ≡ Err r → Err r ≡ refused_if found_first → untouched g (said_by x) ≡ edge_betweenness_outcome normalized g
  unfolding edge_betweenness_outcome
  refused_edges normalized ex e = refused g (edge_tests g) _ ex (e ∙ ap refused_if checked)

  pub passed_edges : {v : Unit {0}} → Ok v ≡ refused_if found_first → Passed (edge_tests g)
  passed_edges e = passed (edge_tests g) (e ∙ ap refused_if checked)

-- the steps, if nothing refuses
module _ (g : Given EdgeScores) (p : Passed (edge_tests g)) where
  pub ready : Ready g
  ready = plain_ready g true false (scores_short g) p

  long : scores_short g ≡ false
  long = plain_fits g true false (scores_short g) p

  back_fits : g.directed ≡ false → length g.from ≤ length g.results.back
  back_fits d =
      ltb-false _ _
      (ap (λ (b : Bool). not b && ltb (length g.results.back) (length g.from)) (sym d)
      ∙ or_right (ltb (length g.results.forward) (length g.from)) (not g.directed && ltb (length g.results.back) (length g.from)) long)

  pub score_asks : ScorePre g.nodes g.directed g.from g.to g.weight g.results.forward g.results.back g.w32 g.w64 g.wf
  score_asks =
      record {
        ready = record { sound = ready.sound; some = omega (arith, eqb-false g.nodes 0 p.empty); roomy = ready.roomy };
        forwards = ltb-false _ _ (or_left (ltb (length g.results.forward) (length g.from)) (not g.directed && ltb (length g.results.back) (length g.from)) long);
        backs = back_fits;
      }

  module _ {normalized : Bool} {forward back : List Float} {w c : List ℕ} {f : List Float} {r : Result (Unit {0}) TooManyPaths}
      (S : ScorePost g.nodes g.directed normalized g.from g.to g.weight g.results.forward g.results.back g.w32 g.w64 g.wf forward back w c f r)
      {fr : Fronts} (ef : fr ≡ usual_fronts g.nodes (length g.from)) where
    pub wipe_pre : Roomy fr (length w) (length c) (length f)
    wipe_pre = wipe_asks g S.within ef ready

    -- the results, by whether a count was above the limit
    abbrev results : Bool → EdgeScores
    results b =
        edge_scores (cond b g.results.forward (over (forward_scores normalized (graph_in g)) g.results.forward))
        (cond b g.results.back (cond g.directed g.results.back (over (back_scores normalized (graph_in g)) g.results.back)))

    written : (b : Bool) → stopped r ≡ b → edge_scores forward back ≡ results b
    written b e = ap₂ edge_scores S.forwards S.backs ∙ ap results e

    module _ {w' c' : List ℕ} {f' : List Float} (W : Wiped fr w c f w' c' f') where
      pub ended_paths : {said : Refusal} → said.answer ≡ Paths → stopped r ≡ true → left {A = Said (Unit {0})} (refused_with said.answer) (edge_scores forward back) w' c' f' ≡ edge_betweenness_outcome normalized g
      unfolding edge_betweenness_outcome
      ended_paths {said} ea e =
          ap (λ (a : Answer). left {A = Said (Unit {0})} (refused_with a) (edge_scores forward back) w' c' f') ea
          ∙ ap (λ (x : EdgeScores). left {A = Said (Unit {0})} (refused_with Paths) x w' c' f') (written true e)
          ∙ ends_paths g S.within ef W (edge_tests g) p (edge_results normalized g) (S.paths ∙ e)

      pub ended_done : stopped r ≡ false → left {A = Said (Unit {0})} (done (tt {0})) (edge_scores forward back) w' c' f' ≡ edge_betweenness_outcome normalized g
      unfolding edge_betweenness_outcome
      ended_done e = ends_done g S.within ef W (edge_tests g) p (edge_results normalized g) (S.paths ∙ e) (written false e)
