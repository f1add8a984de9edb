-- Laws of `left`: the two ways through a call; a contract that equates what a call leaves with one value has no second outcome, and
-- goes over to C's numbers. Assumes nothing.
use mathlib.Core.Path.{◌≡◌, sym, ap, ◌∙◌}
use mathlib.Core.List.{List}
use Prim.Native.Nat.{ℕ}
use lib.Ieee.{Float}
use Rattle.std.specs.Prelude.{Result, Err}
use Rattle.answers.specs.declared.Refusal.{Refusal}
use Rattle.answers.specs.Answers.{Said, number_said, said_by, refused_if}
use Rattle.answers.proofs.Said.{refused_err}
use Rattle.graph.specs.Refusals.{Tests, first_refusal}
use Rattle.graph.specs.Pres.{Passed}
use Rattle.graph.specs.Given.{Given}
use Rattle.graph.specs.Left.{Left, left, untouched, unless_refused, in_numbers}
use Rattle.graph.proofs.Refusals.{passed_done}

-- ---- the two ways through a call
module _ {Values R : Type 0} (g : Given R) (t : Tests) (did : Left (Said Values) R) where
  -- x is what the call returned, the refusal r that its check found
  pub refused : {x : Result Values Refusal} {r : Refusal} → x ≡ Err r → Err r ≡ refused_if (first_refusal t) → untouched g (said_by x) ≡ unless_refused g (first_refusal t) did
  refused {x} {r} ex e = let p = refused_err _ r (sym e) in rw (ex, p.1, p.0)

  pub went_on : Passed t → did ≡ unless_refused g (first_refusal t) did
  went_on p = rw (passed_done p)

-- ---- one outcome
pub no_second : {A R : Type 0} {o : Left A R} {a a' : A} {r r' : R} {w32 w32' w64 w64' : List ℕ} {wf wf' : List Float}
    → left a r w32 w64 wf ≡ o → left a' r' w32' w64' wf' ≡ o → (a ≡ a') × (r ≡ r') × (w32 ≡ w32') × (w64 ≡ w64') × (wf ≡ wf')
no_second {A} {R} p q =
    let e = p ∙ sym q in
    (ap (λ (x : Left A R). x.says) e, ap (λ (x : Left A R). x.results) e, ap (λ (x : Left A R). x.w32) e, ap (λ (x : Left A R). x.w64) e, ap (λ (x : Left A R). x.wf) e)

pub in_numbers_lem : {Values R : Type 0} {o : Left (Said Values) R} {a : Said Values} {k : ℕ} {r : R} {w32 w64 : List ℕ} {wf : List Float}
    → k ≡ number_said a → left a r w32 w64 wf ≡ o → left k r w32 w64 wf ≡ in_numbers o
in_numbers_lem {Values} {R} {o} {a} {k} {r} {w32} {w64} {wf} e p = ap (λ (n : ℕ). left n r w32 w64 wf) e ∙ ap in_numbers p
