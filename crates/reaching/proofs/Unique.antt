-- No second outcome meets the contract of a call of this crate. Assumes nothing.
use Rattle.std.proofs.Common.{◌≡◌, ℕ, List}
use lib.Ieee.{Float}
use Rattle.std.specs.Prelude.{Result}
use Rattle.answers.specs.declared.Refusal.{Refusal}
use Rattle.answers.specs.Answers.{said_by}
use Rattle.graph.specs.Given.{Given}
use Rattle.graph.specs.Left.{left}
use Rattle.graph.proofs.Left.{no_second}
use Rattle.answers.proofs.Said.{returned}
use Rattle.reaching.specs.Reaching.{reaching_outcome}

-- of `global_reaching` too, with the limit n
pub reaching_unique : (limit : ℕ) (g : Given (List Float)) {p p' : Result (Unit {0}) Refusal} {s s' : List Float} {x x' y y' : List ℕ} {z z' : List Float}
    → left (said_by p) s x y z ≡ reaching_outcome limit g → left (said_by p') s' x' y' z' ≡ reaching_outcome limit g
    → (p ≡ p') × (s ≡ s') × (x ≡ x') × (y ≡ y') × (z ≡ z')
reaching_unique limit g {p} {p'} a b = let e = no_second a b in (returned p p' e.0, e.1, e.2, e.3, e.4)
