-- No second outcome meets the contract of `laplacian`. Assumes nothing.
use Rattle.std.proofs.Common.{◌≡◌, ℕ, List}
use lib.Ieee.{Float}
use Rattle.std.specs.Prelude.{Result}
use Rattle.answers.specs.declared.Refusal.{Refusal}
use Rattle.answers.specs.Answers.{said_by}
use Rattle.graph.specs.Given.{Given}
use Rattle.graph.specs.Left.{left}
use Rattle.graph.proofs.Left.{no_second}
use Rattle.answers.proofs.Said.{returned}
use Rattle.laplacian.specs.Laplacian.{laplacian_outcome}

pub laplacian_unique : (g : Given (List Float)) {p p' : Result (Unit {0}) Refusal} {s s' : List Float} {x x' y y' : List ℕ} {z z' : List Float}
    → left (said_by p) s x y z ≡ laplacian_outcome g → left (said_by p') s' x' y' z' ≡ laplacian_outcome g
    → (p ≡ p') × (s ≡ s') × (x ≡ x') × (y ≡ y') × (z ≡ z')
laplacian_unique g {p} {p'} a b = let e = no_second a b in (returned p p' e.0, e.1, e.2, e.3, e.4)
