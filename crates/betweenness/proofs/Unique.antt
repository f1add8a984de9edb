-- No second outcome meets the contract of `betweenness`. Assumes nothing.
use Rattle.std.proofs.Common.{◌≡◌, ℕ, Bool, List}
use Rattle.std.specs.Prelude.{Result}
use lib.Ieee.{Float}
use Rattle.answers.specs.declared.Refusal.{Refusal}
use Rattle.answers.specs.Answers.{said_by}
use Rattle.graph.specs.Given.{Given}
use Rattle.graph.specs.Left.{left}
use Rattle.graph.proofs.Left.{no_second}
use Rattle.answers.proofs.Said.{returned}
use Rattle.betweenness.specs.Betweenness.{betweenness_outcome}

pub betweenness_unique : (normalized : Bool) (g : Given (List Float)) {r r' : Result (Unit {0}) Refusal} {s s' : List Float} {x x' y y' : List ℕ} {z z' : List Float}
    → left (said_by r) s x y z ≡ betweenness_outcome normalized g → left (said_by r') s' x' y' z' ≡ betweenness_outcome normalized g → (r ≡ r') × (s ≡ s') × (x ≡ x') × (y ≡ y') × (z ≡ z')
betweenness_unique normalized g {r} {r'} p q =
    let same = no_second p q in
    (returned r r' same.0, same.1, same.2, same.3, same.4)
