-- Laws of runs of stores: one run after another, and one store after a run.
-- Assumes nothing.
use mathlib.Core.Path.{◌≡◌, refl, sym, ap, ◌∙◌}
use mathlib.Core.List.{List, [], ◌∷◌, ◌++◌}
use Prim.Native.Nat.{ℕ, suc, ◌+◌}
use native.Mathlib.Nat.{add-zero, add-suc, suc-add}
use native.Mathlib.Omega.{arith}
use lib.ListN.{length-append, length, set}
use lib.Seq.{sets, set_comm}
use Rattle.text.specs.Written.{Written}

pub then : {A : Type 0} (l : List A) (i : ℕ) (a b : List A) → sets (sets l i a) (i + length a) b ≡ sets l i (a ++ b)
then l i [] b = rw (add-zero i)
then l i (x ∷ a) b = rw (add-suc i (length a), ← suc-add i (length a)) (then (set l i x) (suc i) a b)

pub last : {A : Type 0} (l : List A) (i : ℕ) (a : List A) (d : A) → sets l i (a ++ (d ∷ [])) ≡ sets (set l (i + length a) d) i a
last l i [] d = rw (add-zero i)
last l i (x ∷ a) d =
    last (set l i x) (suc i) a d
    ∙ ap (λ (m : List _). sets m (suc i) a)
    (ap (λ (k : ℕ). set (set l i x) k d) (suc-add i (length a) ∙ sym (add-suc i (length a)))
    ∙ set_comm l i (i + suc (length a)) x d (λ e. omega (arith, e)))

pub and_then : {a b before mid after : List ℕ} {at next end : ℕ} → Written a before at mid next → Written b mid next after end → Written (a ++ b) before at after end
and_then {a} {b} {before} {mid} {after} {at} {next} {end} p q =
    record {
      next_is = omega (arith, p.next_is, q.next_is, length-append a b);
      after_is = q.after_is ∙ ap (λ (n : ℕ). sets mid n b) p.next_is ∙ ap (λ (m : List ℕ). sets m (at + length a) b) p.after_is ∙ then before at a b;
    }

pub nothing : (before : List ℕ) (at : ℕ) → Written [] before at before at
nothing before at = record { next_is = omega arith; after_is = refl }
