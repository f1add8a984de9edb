-- No second outcome meets the contract of `edge_betweenness`. Assumes nothing.
use mathlib.Core.Path.{◌≡◌, ap}
use mathlib.Core.Bool.{Bool}
use mathlib.Core.List.{List}
use Prim.Native.Nat.{ℕ}
use lib.Ieee.{Float}
use Rattle.std.specs.Prelude.{Result}
use Rattle.answers.specs.declared.Refusal.{Refusal}
use Rattle.answers.specs.Answers.{said_by}
use Rattle.graph.specs.Given.{Given}
use Rattle.graph.specs.Left.{left}
use Rattle.graph.proofs.Left.{no_second}
use Rattle.answers.proofs.Said.{returned}
use Rattle.edge_betweenness.specs.Edges.{EdgeScores, edge_scores, edge_betweenness_outcome}

-- forward and back alike
pub edge_betweenness_unique : (normalized : Bool) (g : Given EdgeScores) {r r' : Result (Unit {0}) Refusal} {f f' b b' : List Float} {x x' y y' : List ℕ} {z z' : List Float}
    → left (said_by r) (edge_scores f b) x y z ≡ edge_betweenness_outcome normalized g → left (said_by r') (edge_scores f' b') x' y' z' ≡ edge_betweenness_outcome normalized g
    → (r ≡ r') × (f ≡ f') × (b ≡ b') × (x ≡ x') × (y ≡ y') × (z ≡ z')
edge_betweenness_unique normalized g {r} {r'} p q =
    let e = no_second p q in
    (returned r r' e.0, ap (λ (s : EdgeScores). s.forward) e.1, ap (λ (s : EdgeScores). s.back) e.1, e.2, e.3, e.4)
