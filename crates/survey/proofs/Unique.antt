-- No second outcome meets the contract of `survey`. Assumes nothing.
use mathlib.Core.Path.{◌≡◌, ap}
use mathlib.Core.List.{List}
use Prim.Native.Nat.{ℕ}
use lib.Ieee.{Float}
use Rattle.std.specs.Prelude.{Result}
use Rattle.answers.specs.declared.Refusal.{Refusal}
use Rattle.answers.specs.Answers.{said_by}
use Rattle.graph.specs.Given.{Given}
use Rattle.graph.specs.Left.{left}
use Rattle.graph.proofs.Left.{no_second}
use Rattle.answers.proofs.Said.{returned}
use Rattle.survey.specs.Survey.{Results, results, survey_outcome}

pub survey_unique : (s : ℕ) (g : Given Results) {p p' : Result (Unit {0}) Refusal} {d d' c c' : List ℕ} {x x' y y' : List ℕ} {z z' : List Float}
    → left (said_by p) (results d c) x y z ≡ survey_outcome s g → left (said_by p') (results d' c') x' y' z' ≡ survey_outcome s g
    → (p ≡ p') × (d ≡ d') × (c ≡ c') × (x ≡ x') × (y ≡ y') × (z ≡ z')
survey_unique s g {p} {p'} a b =
    let e = no_second a b in
    (returned p p' e.0, ap (λ (r : Results). r.distances) e.1, ap (λ (r : Results). r.counts) e.1, e.2, e.3, e.4)
