-- What a reader of `eigenvector` may rely on: no second outcome meets its contract; its scores are the start stepped exactly the reported
-- rounds; settled "yes" implies that every score is finite. Assumes nothing.
use Rattle.std.proofs.Common.{◌≡◌, ℕ, ◌<◌, ◌≤◌, Bool, true, false, cond, ◌||◌, eqb, List, length, get_or, sym, ap, ◌∙◌, arith}
use lib.Ieee.{Float, nan, binary64, div, lt}
use lib.Ieee.Scale.{finite}
use Rattle.regions.specs.Region.{list_of}
use Rattle.regions.proofs.Fronts.{list_long}
use Rattle.regions.proofs.Parts.{list_at_lem}
use Rattle.answers.specs.declared.Settings.{Settings}
use Rattle.answers.specs.declared.Rounds.{Rounds}
use Rattle.answers.specs.Answers.{done, said_by}
use Rattle.graph.specs.Edges.{Graph}
use Rattle.std.specs.Prelude.{Result, Ok, Err}
use Rattle.answers.specs.declared.Refusal.{Refusal}
use Rattle.answers.proofs.Said.{returned}
use Rattle.graph.specs.Given.{Given, graph_in}
use Rattle.graph.specs.Refusals.{first_refusal}
use Rattle.graph.specs.Left.{left}
use Rattle.graph.proofs.Refusals.{passed}
use Rattle.graph.proofs.Left.{no_second}
use Rattle.rounds.specs.Rounds.{round}
use Rattle.rounds.specs.Says.{Says}
use Rattle.rounds.specs.Ending.{settled_only}
use Rattle.rounds.specs.Vectors.{settles}
use Rattle.rounds.proofs.Says.{says}
use Rattle.rounds.proofs.Rounds.{settled_holds}
use Rattle.rounds.proofs.Finite.{settles_finite}
use Rattle.rounds.proofs.Reader.{AllFinite, not_refused, scores_finite}
use Rattle.eigenvector.specs.Eigenvector.{tiny, start_of, uniform, grown, norm_of, scaled, eigen_end, eigen_step, eigen_rounds, eigen_tests, eigen_outcome}
use Rattle.eigenvector.proofs.Start.{start_finite}
use Rattle.eigenvector.proofs.Steps.{ready}

pub eigenvector_unique : (settings : Settings) (g : Given (List Float)) {r r' : Result Rounds Refusal} {s s' : List Float} {x x' y y' : List ℕ} {z z' : List Float}
    → left (said_by r) s x y z ≡ eigen_outcome settings g → left (said_by r') s' x' y' z' ≡ eigen_outcome settings g → (r ≡ r') × (s ≡ s') × (x ≡ x') × (y ≡ y') × (z ≡ z')
eigenvector_unique settings g {r} {r'} p q =
    let same = no_second p q in
    (returned r r' same.0, same.1, same.2, same.3, same.4)

module _ (g : Graph) (settings : Settings) where
  pub eigenvector_says : Says (eqb g.nodes 0 || eqb (length g.edges) 0) (eigen_step g settings.tolerance) settings.limit (uniform g.nodes) (eigen_rounds g settings)
  unfolding eigen_rounds
  eigenvector_says = says (eigen_step g settings.tolerance) (uniform g.nodes) (eqb g.nodes 0 || eqb (length g.edges) 0) settings.limit

  module _ (few : g.nodes ≤ 4096) where
    uniform_finite : AllFinite g.nodes (uniform g.nodes)
    uniform_finite =
        record {
          long = list_long (λ _. start_of g.nodes) g.nodes;
          each = λ i l. ap finite (list_at_lem (λ _. start_of g.nodes) g.nodes nan i l) ∙ start_finite g.nodes (omega arith) few;
        }

    met_finite : (n : ℕ) (tolerance : Float) (x y : List Float) → AllFinite n (uniform n) → (eigen_end n tolerance x y).met ≡ true → AllFinite n (eigen_end n tolerance x y).next
    unfolding eigen_end scaled
    met_finite n tolerance x y u = by (lt (norm_of n y) tiny)
      where
        z : List Float
        z = list_of (λ i. div binary64 (get_or y i nan) (norm_of n y)) n

        by : (b : Bool) → (cond b (round (uniform n) true) (round z (settles tolerance n x z))).met ≡ true → AllFinite n (cond b (round (uniform n) true) (round z (settles tolerance n x z))).next
        by true e = u
        by false e = record { long = list_long (λ i. div binary64 (get_or y i nan) (norm_of n y)) n; each = settles_finite tolerance n x z e }

    pub settled_finite : (eigen_rounds g settings).settled ≡ true → AllFinite g.nodes (eigen_rounds g settings).last
    unfolding eigen_rounds eigen_step
    settled_finite =
        settled_holds (AllFinite g.nodes) (eigen_step g settings.tolerance)
        (λ x e. met_finite g.nodes settings.tolerance x (grown g x) uniform_finite e)
        (eqb g.nodes 0 || eqb (length g.edges) 0) settings.limit (uniform g.nodes) (λ e. uniform_finite)

-- DONE, which only settled rounds give, leaves n finite scores
pub eigenvector_finite : (settings : Settings) (g : Given (List Float)) {r : Rounds} → (eigen_outcome settings g).says ≡ done r
    → (i : ℕ) → i < g.nodes → finite (get_or (eigen_outcome settings g).results i nan) ≡ true
unfolding eigen_outcome
eigenvector_finite settings g e =
    let t = eigen_tests settings g in
    let none = not_refused g (first_refusal t) (settled_only g settings (eigen_rounds (graph_in g) settings)) e in
    let p = passed t (ap (λ (b : Bool). cond b (Err (record { answer = first_refusal t })) (Ok tt)) (sym none)) in
    scores_finite g settings (eigen_rounds (graph_in g) settings) (settled_finite (graph_in g) settings (ready settings g p).sound.limits.nodes) (first_refusal (eigen_tests settings g)) e
