-- No second outcome meets the contract of `run`. Assumes nothing.
use mathlib.Core.Path.{◌≡◌, sym, ap, ◌∙◌}
use mathlib.Core.List.{List}
use Prim.Native.Nat.{ℕ}
use Rattle.std.specs.Prelude.{Result}
use Rattle.answers.specs.declared.Refusal.{Refusal}
use Rattle.answers.specs.Answers.{said_by}
use Rattle.answers.proofs.Said.{returned}
use Rattle.job.specs.Run.{RunLeft, run_left, run_outcome}

pub run_unique : (input output : List ℕ) {r r' : Result ℕ Refusal} {o o' : List ℕ} → run_left (said_by r) o ≡ run_outcome input output → run_left (said_by r') o' ≡ run_outcome input output → (r ≡ r') × (o ≡ o')
run_unique input output {r} {r'} p q =
    let e = p ∙ sym q in
    (returned r r' (ap (λ (x : RunLeft). x.says) e), ap (λ (x : RunLeft). x.output) e)
