-- No second outcome meets the contract of a degree. Assumes nothing.
use mathlib.Core.Path.{◌≡◌}
use mathlib.Core.Bool.{Bool}
use mathlib.Core.List.{List}
use Prim.Native.Nat.{ℕ}
use lib.Ieee.{Float}
use Rattle.std.specs.Prelude.{Result}
use Rattle.answers.specs.declared.Refusal.{Refusal}
use Rattle.answers.specs.Answers.{said_by}
use Rattle.graph.specs.Given.{Given}
use Rattle.graph.specs.Left.{left}
use Rattle.graph.proofs.Left.{no_second}
use Rattle.answers.proofs.Said.{returned}
use Rattle.degree.specs.Degree.{ends_outcome}

-- of `degree`, `in_degree` and `out_degree`, by which ends count
pub degree_unique : (froms tos : Bool) (g : Given (List Float)) {p p' : Result (Unit {0}) Refusal} {s s' : List Float} {x x' y y' : List ℕ} {z z' : List Float}
    → left (said_by p) s x y z ≡ ends_outcome froms tos g → left (said_by p') s' x' y' z' ≡ ends_outcome froms tos g → (p ≡ p') × (s ≡ s')
degree_unique froms tos g {p} {p'} a b = let e = no_second a b in (returned p p' e.0, e.1)
