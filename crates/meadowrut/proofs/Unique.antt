-- No second outcome meets the contract of an export. Assumes nothing.
use mathlib.Core.Path.{◌≡◌, sym, ap, ◌∙◌}
use mathlib.Core.List.{List, []}
use Prim.Native.Nat.{ℕ}
use lib.Ieee.{Float}
use Rattle.roots.specs.Root.{sqrt_of, SquareRoot}
use Rattle.roots.specs.Absolute.{abs_of}
use Rattle.roots.specs.Maximum.{max_of}
use Rattle.answers.specs.Settings.{usual_settings}
use Rattle.graph.specs.Given.{Given, given}
use Rattle.graph.specs.Left.{Left, left, in_numbers}
use Rattle.graph.proofs.Left.{no_second}
use Rattle.degree.specs.Degree.{degree_outcome, in_degree_outcome, out_degree_outcome}
use Rattle.survey.specs.Survey.{Results, results, survey_outcome}
use Rattle.betweenness.specs.Betweenness.{betweenness_outcome}
use Rattle.edge_betweenness.specs.Edges.{EdgeScores, edge_scores, edge_betweenness_outcome}
use Rattle.reaching.specs.Reaching.{reaching_outcome, global_outcome}
use Rattle.laplacian.specs.Laplacian.{laplacian_outcome}
use Rattle.voterank.specs.VoteRank.{voterank_outcome}
use Rattle.pagerank.specs.PageRank.{pagerank_outcome}
use Rattle.personalized_pagerank.specs.Personalized.{personalized_outcome}
use Rattle.eigenvector.specs.Eigenvector.{eigen_outcome}
use Rattle.katz.specs.Katz.{katz_outcome}
use Rattle.job.specs.Run.{run_outcome}
use Rattle.boundary.specs.declared.Settings.{Settings}
use Rattle.boundary.specs.Boundary.{raised, asked, returned, reported, counted, voiced}
use Rattle.meadowrut.specs.Voiced.{run_voiced}

-- a contract "what is left equals o" has no second outcome: what is returned, the result slice and the workspace are one
abbrev pub NoSecond : {A R : Type 0} → Left A R → Type 0
NoSecond {A} {R} o =
    (a a' : A) (r r' : R) (w32 w32' w64 w64' : List ℕ) (wf wf' : List Float) → left a r w32 w64 wf ≡ o → left a' r' w32' w64' wf' ≡ o
    → (a ≡ a') × (r ≡ r') × (w32 ≡ w32') × (w64 ≡ w64') × (wf ≡ wf')

-- it holds of every o
only : {A R : Type 0} {o : Left A R} → NoSecond o
only a a' r r' w32 w32' w64 w64' wf wf' p q = no_second p q

-- ---- exports that are lent no slice
pub meadowrut_sqrt_unique : (x : Float) {r r' : Float} → (r ≡ sqrt_of x) × SquareRoot x r → (r' ≡ sqrt_of x) × SquareRoot x r' → r ≡ r'
meadowrut_sqrt_unique x p q = p.0 ∙ sym q.0

pub meadowrut_abs_unique : (x : Float) {r r' : Float} → r ≡ abs_of x → r' ≡ abs_of x → r ≡ r'
meadowrut_abs_unique x p q = p ∙ sym q

pub meadowrut_max_unique : (x y : Float) {r r' : Float} → r ≡ max_of x y → r' ≡ max_of x y → r ≡ r'
meadowrut_max_unique x y p q = p ∙ sym q

pub meadowrut_usual_unique : {r r' : Settings} → r ≡ returned usual_settings → r' ≡ returned usual_settings → r ≡ r'
meadowrut_usual_unique p q = p ∙ sym q

-- ---- exports that are lent a graph; each contract is the export's own, in C's parameters
module _ (nodes directed : ℕ) (from to : List ℕ) (weight : List Float) where
  pub meadowrut_degree_unique : (scores : List Float) → NoSecond (in_numbers (degree_outcome (given nodes (raised directed) from to weight scores [] [] [])))
  meadowrut_degree_unique scores = only

  pub meadowrut_in_degree_unique : (scores : List Float) → NoSecond (in_numbers (in_degree_outcome (given nodes (raised directed) from to weight scores [] [] [])))
  meadowrut_in_degree_unique scores = only

  pub meadowrut_out_degree_unique : (scores : List Float) → NoSecond (in_numbers (out_degree_outcome (given nodes (raised directed) from to weight scores [] [] [])))
  meadowrut_out_degree_unique scores = only

  module _ (w32 w64 : List ℕ) (wf : List Float) where
    -- what an export is lent, these being its result slices
    abbrev lent : {R : Type 0} → R → Given R
    lent r = given nodes (raised directed) from to weight r w32 w64 wf

    pub meadowrut_survey_unique : (start : ℕ) (distances counts : List ℕ) {r r' : ℕ} {d d' c c' x x' y y' : List ℕ} {z z' : List Float}
        → left r (results d c) x y z ≡ in_numbers (survey_outcome start (lent (results distances counts)))
        → left r' (results d' c') x' y' z' ≡ in_numbers (survey_outcome start (lent (results distances counts)))
        → (r ≡ r') × (d ≡ d') × (c ≡ c') × (x ≡ x') × (y ≡ y') × (z ≡ z')
    meadowrut_survey_unique start distances counts p q =
        let e = no_second p q in
        (e.0, ap (λ (s : Results). s.distances) e.1, ap (λ (s : Results). s.counts) e.1, e.2, e.3, e.4)

    pub meadowrut_betweenness_unique : (normalized : ℕ) (scores : List Float) → NoSecond (in_numbers (betweenness_outcome (raised normalized) (lent scores)))
    meadowrut_betweenness_unique normalized scores = only

    pub meadowrut_edge_betweenness_unique : (normalized : ℕ) (forward back : List Float) {r r' : ℕ} {f f' b b' : List Float} {x x' y y' : List ℕ} {z z' : List Float}
        → left r (edge_scores f b) x y z ≡ in_numbers (edge_betweenness_outcome (raised normalized) (lent (edge_scores forward back)))
        → left r' (edge_scores f' b') x' y' z' ≡ in_numbers (edge_betweenness_outcome (raised normalized) (lent (edge_scores forward back)))
        → (r ≡ r') × (f ≡ f') × (b ≡ b') × (x ≡ x') × (y ≡ y') × (z ≡ z')
    meadowrut_edge_betweenness_unique normalized forward back p q =
        let e = no_second p q in
        (e.0, ap (λ (s : EdgeScores). s.forward) e.1, ap (λ (s : EdgeScores). s.back) e.1, e.2, e.3, e.4)

    pub meadowrut_local_reaching_unique : (hops : ℕ) (scores : List Float) → NoSecond (in_numbers (reaching_outcome hops (lent scores)))
    meadowrut_local_reaching_unique hops scores = only

    pub meadowrut_global_reaching_unique : (scores : List Float) → NoSecond (in_numbers (global_outcome (lent scores)))
    meadowrut_global_reaching_unique scores = only

    pub meadowrut_laplacian_unique : (scores : List Float) → NoSecond (in_numbers (laplacian_outcome (lent scores)))
    meadowrut_laplacian_unique scores = only

    pub meadowrut_voterank_unique : (seeds : ℕ) (elected : List ℕ) → NoSecond (voiced counted (voterank_outcome seeds (lent elected)))
    meadowrut_voterank_unique seeds elected = only

    pub meadowrut_pagerank_unique : (settings : Settings) (flag : ℕ) (start scores : List Float) → NoSecond (voiced reported (pagerank_outcome (asked settings) (raised flag) start (lent scores)))
    meadowrut_pagerank_unique settings flag start scores = only

    pub meadowrut_personalized_pagerank_unique : (settings : Settings) (flag : ℕ) (personalization scores : List Float) → NoSecond (voiced reported (personalized_outcome (asked settings) (raised flag) personalization (lent scores)))
    meadowrut_personalized_pagerank_unique settings flag personalization scores = only

    pub meadowrut_eigenvector_unique : (settings : Settings) (scores : List Float) → NoSecond (voiced reported (eigen_outcome (asked settings) (lent scores)))
    meadowrut_eigenvector_unique settings scores = only

    pub meadowrut_katz_unique : (settings : Settings) (flag : ℕ) (beta scores : List Float) → NoSecond (voiced reported (katz_outcome (asked settings) (raised flag) beta (lent scores)))
    meadowrut_katz_unique settings flag beta scores = only

-- ---- the export that takes a job
pub meadowrut_run_unique : (input output : List ℕ) → NoSecond (run_voiced (run_outcome input output))
meadowrut_run_unique input output = only
