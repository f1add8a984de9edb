-- No second outcome meets the contracts of this crate's public calls. Assumes nothing.
use mathlib.Core.Path.{◌≡◌, sym, ◌∙◌}
use Prim.Native.Nat.{ℕ}
use Rattle.std.specs.Prelude.{Result}
use Rattle.answers.specs.declared.Answer.{Answer}
use Rattle.answers.specs.declared.Refusal.{Refusal}
use Rattle.answers.specs.declared.Settings.{Settings}
use Rattle.answers.specs.Answers.{number_of, number_said, said_by}
use Rattle.answers.specs.Settings.{usual_settings}

-- two results that equal one value are one result
one_value : {A : Type 0} {v r r' : A} → r ≡ v → r' ≡ v → r ≡ r'
one_value p q = p ∙ sym q

pub number_unique : (a : Answer) {r r' : ℕ} → r ≡ number_of a → r' ≡ number_of a → r ≡ r'
number_unique a p q = one_value p q

pub said_number_unique : {Values : Type 0} (x : Result Values Refusal) {r r' : ℕ} → r ≡ number_said (said_by x) → r' ≡ number_said (said_by x) → r ≡ r'
said_number_unique x p q = one_value p q

pub usual_unique : {r r' : Settings} → r ≡ usual_settings → r' ≡ usual_settings → r ≡ r'
usual_unique p q = one_value p q
