-- What a reader of `katz` may rely on: no second outcome meets its contract; its scores are the start stepped exactly the reported rounds;
-- settled "yes" implies that every score is finite. Assumes nothing.
use mathlib.Core.Path.{◌≡◌, ◌∙◌}
use mathlib.Core.Bool.{Bool, true}
use mathlib.Core.List.{List}
use Prim.Native.Nat.{ℕ, ◌<◌}
use native.Mathlib.Omega.{arith}
use borrow.Author.Tests.{eqb-true}
use lib.Dec.{eqb}
use lib.ListN.{length, get_or}
use lib.Ieee.{Float, nan, binary64, mul}
use lib.Ieee.Scale.{finite}
use Rattle.regions.specs.Region.{zero_f, list_of}
use Rattle.regions.proofs.Fronts.{list_long}
use Rattle.answers.specs.declared.Settings.{Settings}
use Rattle.answers.specs.declared.Rounds.{Rounds}
use Rattle.answers.specs.Answers.{done, said_by}
use Rattle.graph.specs.Edges.{Graph}
use Rattle.std.specs.Prelude.{Result}
use Rattle.answers.specs.declared.Refusal.{Refusal}
use Rattle.answers.proofs.Said.{returned}
use Rattle.graph.specs.Given.{Given, graph_in}
use Rattle.graph.specs.Refusals.{first_refusal}
use Rattle.graph.specs.Left.{left}
use Rattle.graph.proofs.Left.{no_second}
use Rattle.rounds.specs.Says.{Says}
use Rattle.rounds.proofs.Says.{says}
use Rattle.rounds.proofs.Rounds.{settled_holds}
use Rattle.rounds.proofs.Finite.{settles_finite}
use Rattle.rounds.proofs.Reader.{AllFinite, scores_finite, edges_keep}
use Rattle.katz.specs.Katz.{beta_at, beta_of, katz_next, katz_step, katz_rounds, katz_tests, katz_outcome}

pub katz_unique : (settings : Settings) (flag : Bool) (beta : List Float) (g : Given (List Float)) {r r' : Result Rounds Refusal} {s s' : List Float} {x x' y y' : List ℕ} {z z' : List Float}
    → left (said_by r) s x y z ≡ katz_outcome settings flag beta g → left (said_by r') s' x' y' z' ≡ katz_outcome settings flag beta g → (r ≡ r') × (s ≡ s') × (x ≡ x') × (y ≡ y') × (z ≡ z')
katz_unique settings flag beta g {r} {r'} p q =
    let same = no_second p q in
    (returned r r' same.0, same.1, same.2, same.3, same.4)

module _ (g : Graph) (settings : Settings) (flag : Bool) (beta : List Float) where
  pub katz_says : Says (eqb g.nodes 0) (katz_step g settings.damping settings.tolerance (beta_of flag beta g.nodes)) settings.limit (list_of (λ _. zero_f) g.nodes) (katz_rounds g settings flag beta)
  unfolding katz_rounds
  katz_says = says (katz_step g settings.damping settings.tolerance (beta_of flag beta g.nodes)) (list_of (λ _. zero_f) g.nodes) (eqb g.nodes 0) settings.limit

  -- a vector that a round made has an entry for each node
  pub made_long : (x : List Float) → length (katz_next g settings.damping (beta_of flag beta g.nodes) x) ≡ g.nodes
  unfolding katz_next
  made_long x =
      edges_keep g.directed (λ e. mul binary64 settings.damping e.weight) (λ e. e.from) (λ e. e.to) x (beta_of flag beta g.nodes) g.edges
      ∙ list_long (beta_at flag beta) g.nodes

  settled_finite : (katz_rounds g settings flag beta).settled ≡ true → AllFinite g.nodes (katz_rounds g settings flag beta).last
  unfolding katz_rounds katz_step
  settled_finite =
      settled_holds (AllFinite g.nodes) (katz_step g settings.damping settings.tolerance (beta_of flag beta g.nodes))
      (λ x met. record {
        long = made_long x;
        each = settles_finite settings.tolerance g.nodes x (katz_next g settings.damping (beta_of flag beta g.nodes) x) met;
      })
      (eqb g.nodes 0) settings.limit (list_of (λ _. zero_f) g.nodes)
      (λ none. record {
        long = list_long (λ _. zero_f) g.nodes;
        each = λ i l. let e : g.nodes ≡ 0 = eqb-true g.nodes 0 none in absurd (omega arith);
      })

-- DONE, which only settled rounds give, leaves n finite scores
pub katz_finite : (settings : Settings) (flag : Bool) (beta : List Float) (g : Given (List Float)) {r : Rounds} → (katz_outcome settings flag beta g).says ≡ done r
    → (i : ℕ) → i < g.nodes → finite (get_or (katz_outcome settings flag beta g).results i nan) ≡ true
unfolding katz_outcome
katz_finite settings flag beta g e =
    scores_finite g settings (katz_rounds (graph_in g) settings flag beta) (settled_finite (graph_in g) settings flag beta) (first_refusal (katz_tests settings flag beta g)) e
