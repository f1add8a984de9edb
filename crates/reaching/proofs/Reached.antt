-- How `local_reaching` ends: refused, or with what its steps leave. Assumes nothing.
use Rattle.std.proofs.Common.{◌≡◌, ℕ, ◌+◌, ◌≤◌, List, length, ap, ◌∙◌, arith}
use lib.Ieee.{Float}
use Rattle.regions.specs.Region.{over, list_of, Filled}
use Rattle.regions.proofs.Fronts.{front_none, front_wide, front_then}
use Rattle.regions.proofs.Frames.{frame_front, frame2_front}
use Rattle.graph.specs.declared.Fronts.{Fronts}
use Rattle.std.specs.Prelude.{Result, Err}
use Rattle.answers.specs.declared.Refusal.{Refusal}
use Rattle.answers.specs.Answers.{done, said_by}
use Rattle.graph.specs.Given.{Given, graph_in, edges_in}
use Rattle.graph.specs.Layout.{distances_at, queue_at}
use Rattle.graph.specs.Left.{left, wiped, untouched, Wiped}
use Rattle.graph.specs.Pres.{Passed, Roomy}
use Rattle.graph.proofs.Left.{went_on}
use Rattle.rows.specs.Rows.{Built}
use Rattle.hops.specs.Hops.{unreached}
use Rattle.hops.proofs.Search.{rows_after}
use Rattle.hops.proofs.Workspace.{valid, rows_of}
use Rattle.laplacian.proofs.Steps.{Lengths, score_tests, checked, score_refused, ready, fits, fronts, Used, wipe_pre, wiped_is}
use Rattle.reach.specs.Search.{Ground}
use Rattle.reaching.specs.Reaching.{reach_score, reaching_outcome}
use Rattle.reaching.specs.Starts.{AllPre, AllPost}

pub turned_away : (limit : ℕ) (g : Given (List Float)) {l : Fronts} {x : Result (Unit {0}) Refusal} {r : Refusal}
    → Lengths g l → x ≡ Err r → Err r ≡ checked g l → untouched g (said_by x) ≡ reaching_outcome limit g
unfolding reaching_outcome
turned_away limit g h ex e = score_refused g (wiped g (done tt) (over (list_of (reach_score (graph_in g) limit) g.nodes) g.results)) h ex e

module _ (limit : ℕ) (g : Given (List Float)) (p : Passed (score_tests g)) where
  abbrev n : ℕ
  n = g.nodes

  abbrev D : ℕ
  D = distances_at g.nodes (length g.from)

  abbrev Q : ℕ
  Q = queue_at g.nodes (length g.from)

  -- from the rows in w1
  module _ (w1 : List ℕ) (b : Built g.nodes g.directed g.from g.to g.weight g.w32 w1) where
    pub fill_room : D + n ≤ length w1
    fill_room = omega (arith, (ready g p).roomy.r32, b.front.long)

    module _ (w2 : List ℕ) (f : Filled w1 D n unreached w2) where
      ground : Ground (graph_in g) w2 D Q
      ground =
          record {
            valid = valid g.directed (ready g p).sound;
            rows = rows_after w2 (rows_of g.directed b (omega arith)) (omega arith) (λ i l. f.frame.rest 0 i (λ x y. omega arith));
            front = omega arith;
            apart = omega arith;
            room = omega (arith, (ready g p).roomy.r32, b.front.long, f.frame.long);
            far = λ v hv. f.at 0 v hv;
          }

      pub all_pre : AllPre n D Q w2 g.results
      all_pre = record { directed = g.directed; edges = edges_in g; ground = ground; small = (ready g p).sound.limits.nodes; room = fits g p }

      module _ (w3 : List ℕ) (scores' : List Float) (h : AllPost n limit D Q w2 g.results w3 scores') where
        used : Used g (ready g p) w3 g.w64 g.wf
        used =
            record {
              u32 = front_then (front_then (front_wide _ (omega arith) b.front) (frame_front _ (omega arith) f.frame)) (frame2_front _ (omega arith) (omega arith) h.kept);
              u64 = front_none _ _;
              uf = front_none _ _;
            }

        pub roomy : {k : Fronts} → k ≡ fronts g (ready g p) → Roomy k (length w3) (length g.w64) (length g.wf)
        roomy e = wipe_pre g (ready g p) used e

        pub ended : {k : Fronts} {w32' w64' : List ℕ} {wf' : List Float} → k ≡ fronts g (ready g p) → Wiped k w3 g.w64 g.wf w32' w64' wf'
            → left (done (tt {0})) scores' w32' w64' wf' ≡ reaching_outcome limit g
        unfolding reaching_outcome
        ended {k} {w32'} {w64'} {wf'} ek z =
            ap (λ (l : List Float). left (done (tt {0})) l w32' w64' wf') (h.scored g.directed (edges_in g) ground)
            ∙ wiped_is g (ready g p) used (done (tt {0})) (over (list_of (reach_score (graph_in g) limit) n) g.results) ek z
            ∙ went_on g (score_tests g) (wiped g (done (tt {0})) (over (list_of (reach_score (graph_in g) limit) n) g.results)) p
