-- What a call says determines what it returned. Assumes nothing.
use mathlib.Core.Path.{◌≡◌, refl, sym, ap, ◌∙◌}
use mathlib.Core.Bool.{Bool, true, false, cond}
use Rattle.std.specs.Prelude.{Result, Ok, Err}
use Prim.Native.Nat.{ℕ}
use lib.Dec.{eqb}
use Rattle.answers.specs.declared.Answer.{Answer}
use Rattle.answers.specs.declared.Answer.TheVariants.{Done, Empty, Size, Node, Number, Room, Damping, Rounds, Start, Length, Paths, Unsettled, Text}
use Rattle.answers.specs.declared.Refusal.{Refusal}
use Rattle.answers.specs.Answers.{number_of, Said, refuses, refusal, said_by, refused_if}

-- the answer that has a number
abbrev named : ℕ → Answer
named k =
    cond (eqb k 0) Done
    (cond (eqb k 1) Empty
    (cond (eqb k 2) Size
    (cond (eqb k 3) Node
    (cond (eqb k 4) Number
    (cond (eqb k 5) Room
    (cond (eqb k 6) Damping
    (cond (eqb k 7) Rounds
    (cond (eqb k 8) Start
    (cond (eqb k 9) Length
    (cond (eqb k 10) Paths
    (cond (eqb k 11) Unsettled
    Text)))))))))))

named_number : (a : Answer) → named (number_of a) ≡ a
named_number Done = refl
named_number Empty = refl
named_number Size = refl
named_number Node = refl
named_number Number = refl
named_number Room = refl
named_number Damping = refl
named_number Rounds = refl
named_number Start = refl
named_number Length = refl
named_number Paths = refl
named_number Unsettled = refl
named_number Text = refl

-- two answers with one number are one answer
pub number_names : {a b : Answer} → number_of a ≡ number_of b → a ≡ b
number_names {a} {b} e = sym (named_number a) ∙ ap named e ∙ named_number b

same_refusal : (r s : Refusal) → number_of r.answer ≡ number_of s.answer → r ≡ s
same_refusal r s e = ap (λ (a : Answer). record { answer = a }) (number_names e)

number_in : {Values : Type 0} {j k : ℕ} → ◌≡◌ {A = Said Values} (refusal j) (refusal k) → j ≡ k
number_in e = cc

pub returned : {Values : Type 0} (p q : Result Values Refusal) → said_by p ≡ said_by q → p ≡ q
returned (Ok x) (Ok y) e = cc
returned (Ok x) (Err r) e = cc
returned (Err r) (Ok y) e = cc
returned (Err r) (Err s) e = ap Err (same_refusal r s (number_in e))

-- what a check returns, by whether the answer refuses
abbrev by : Answer → Bool → Result (Unit {0}) Refusal
by a b = cond b (Err (record { answer = a })) (Ok tt)

err_by : (a : Answer) (r : Refusal) (b : Bool) → refuses a ≡ b → by a b ≡ Err r → (refuses a ≡ true) × (r.answer ≡ a)
err_by a r true t q = (t, cc)
err_by a r false t q = cc

ok_by : (a : Answer) (v : Unit {0}) (b : Bool) → refuses a ≡ b → by a b ≡ Ok v → refuses a ≡ false
ok_by a v true t q = cc
ok_by a v false t q = t

-- a check that found a refusal
pub refused_err : (a : Answer) (r : Refusal) → refused_if a ≡ Err r → (refuses a ≡ true) × (r.answer ≡ a)
refused_err a r e = err_by a r (refuses a) refl e

-- a check that found none
pub refused_ok : (a : Answer) (v : Unit {0}) → refused_if a ≡ Ok v → refuses a ≡ false
refused_ok a v e = ok_by a v (refuses a) refl e

-- a refusal by its answer
pub refused_by : {r : Refusal} {a : Answer} → r.answer ≡ a → ◌≡◌ {A = Result (Unit {0}) Refusal} (Err r) (Err (record { answer = a }))
refused_by {r} {a} e = ap (λ (x : Answer). Err (record { answer = x })) e
