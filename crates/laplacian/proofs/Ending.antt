-- How `laplacian` ends: what its steps leave is the outcome. Assumes nothing.
use Rattle.std.proofs.Common.{◌≡◌, ℕ, List, length, ap, ◌∙◌, arith}
use lib.Ieee.{Float}
use Rattle.regions.specs.Region.{over, list_of}
use Rattle.regions.proofs.Fronts.{list_same, front_none, front_wide}
use Rattle.graph.specs.declared.Fronts.{Fronts}
use Rattle.answers.specs.Answers.{done}
use Rattle.graph.specs.Edges.{neighbours}
use Rattle.graph.specs.Given.{Given, edges_in}
use Rattle.graph.specs.Left.{left, wiped, Wiped}
use Rattle.graph.specs.Pres.{Passed, Roomy}
use Rattle.graph.proofs.Left.{went_on}
use Rattle.rows.specs.Rows.{row_at, Built}
use Rattle.laplacian.specs.Laplacian.{laplacian_score, laplacian_scores, laplacian_outcome}
use Rattle.laplacian.proofs.Steps.{score_tests, ready, fronts, Used, wipe_pre, wiped_is}
use Rattle.laplacian.proofs.Sums.{score_same}

module _ (g : Given (List Float)) (p : Passed (score_tests g)) where
  -- from the rows in w1
  module _ (w1 : List ℕ) (b : Built g.nodes g.directed g.from g.to g.weight g.w32 w1) where
    used : Used g (ready g p) w1 g.w64 g.wf
    used = record { u32 = front_wide _ (omega arith) b.front; u64 = front_none _ _; uf = front_none _ _ }

    pub roomy : {f : Fronts} → f ≡ fronts g (ready g p) → Roomy f (length w1) (length g.w64) (length g.wf)
    roomy e = wipe_pre g (ready g p) used e

    all_scores : list_of (laplacian_score (row_at g.nodes w1)) g.nodes ≡ laplacian_scores g
    unfolding laplacian_scores
    all_scores =
        list_same (laplacian_score (row_at g.nodes w1)) (laplacian_score (neighbours g.directed (edges_in g))) g.nodes
        (λ v l. score_same g.nodes (row_at g.nodes w1) (neighbours g.directed (edges_in g)) b.rows v l (λ k q. b.fit.nodes v k l q))

    pub ended : {f : Fronts} {scores' : List Float} {w32' w64' : List ℕ} {wf' : List Float}
        → scores' ≡ over (list_of (laplacian_score (row_at g.nodes w1)) g.nodes) g.results
        → f ≡ fronts g (ready g p)
        → Wiped f w1 g.w64 g.wf w32' w64' wf'
        → left (done (tt {0})) scores' w32' w64' wf' ≡ laplacian_outcome g
    unfolding laplacian_outcome
    ended {f} {scores'} {w32'} {w64'} {wf'} e ef z =
        let es : scores' ≡ over (laplacian_scores g) g.results = e ∙ ap (λ (l : List Float). over l g.results) all_scores in
        ap (λ (l : List Float). left (done (tt {0})) l w32' w64' wf') es
        ∙ wiped_is g (ready g p) used (done (tt {0})) (over (laplacian_scores g) g.results) ef z
        ∙ went_on g (score_tests g) (wiped g (done (tt {0})) (over (laplacian_scores g) g.results)) p
