-- No second outcome meets the contract of `voterank`. Assumes nothing.
use Rattle.std.proofs.Common.{◌≡◌, ℕ, List}
use lib.Ieee.{Float}
use Rattle.std.specs.Prelude.{Result}
use Rattle.answers.specs.declared.Refusal.{Refusal}
use Rattle.answers.specs.Answers.{said_by}
use Rattle.graph.specs.Given.{Given}
use Rattle.graph.specs.Left.{left}
use Rattle.graph.proofs.Left.{no_second}
use Rattle.answers.proofs.Said.{returned}
use Rattle.voterank.specs.VoteRank.{voterank_outcome}

pub voterank_unique : (seeds : ℕ) (g : Given (List ℕ)) {p p' : Result ℕ Refusal} {s s' : List ℕ} {x x' y y' : List ℕ} {z z' : List Float}
    → left (said_by p) s x y z ≡ voterank_outcome seeds g → left (said_by p') s' x' y' z' ≡ voterank_outcome seeds g
    → (p ≡ p') × (s ≡ s') × (x ≡ x') × (y ≡ y') × (z ≡ z')
voterank_unique seeds g {p} {p'} a b = let e = no_second a b in (returned p p' e.0, e.1, e.2, e.3, e.4)
