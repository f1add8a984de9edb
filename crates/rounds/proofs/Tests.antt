-- The checks of an iterative measure: what `graph_refusal` answers, and what a call that nothing refused may take for granted. Assumes nothing.
use mathlib.Core.Path.{◌≡◌, refl, ap, ◌∙◌}
use mathlib.Core.Bool.{Bool, true, false, ◌||◌}
use mathlib.Core.List.{List}
use Prim.Native.Nat.{ℕ, ◌≤◌}
use borrow.Author.Tests.{ltb-false, eqb-true, not-false}
use lib.Dec.{ltb}
use lib.ListN.{length}
use lib.Ieee.{Float}
use Rattle.std.specs.Prelude.{Result}
use Rattle.answers.specs.declared.Refusal.{Refusal}
use Rattle.answers.specs.Answers.{refused_if}
use Rattle.graph.specs.declared.Fronts.{Fronts}
use Rattle.graph.specs.Given.{Given}
use Rattle.graph.specs.Refusals.{Tests, first_refusal}
use Rattle.graph.specs.Pres.{Ready, Passed}
use Rattle.graph.proofs.Checks.{or_left, or_right, work_roomy}
use Rattle.graph.proofs.Refusals.{sound, graph_part}
use Rattle.rounds.specs.declared.Own.{Own}
use Rattle.rounds.specs.Tests.{length_wrong, own_tests, iterative_tests}

or_false : (b : Bool) → (b || false) ≡ b
or_false true = refl
or_false false = refl

-- the first three rows, of a measure that has no start node
abbrev early_tests : Bool → Bool → Bool → Tests
early_tests s e n =
    record {
      size = s;
      empty = e;
      node = n;
      number = false;
      damping = false;
      rounds = false;
      lengths = false;
      start = false;
      room = false;
    }

pub without_stray : (t : Tests) {r : Result (Unit {0}) Refusal} → r ≡ refused_if (first_refusal (early_tests t.size t.empty (t.node || false))) → r ≡ refused_if (first_refusal (graph_part t))
without_stray t e = e ∙ ap (λ (b : Bool). refused_if (first_refusal (early_tests t.size t.empty b))) (or_false t.node)

-- the workspace's lengths as the code found them
pub checked : (g : Given (List Float)) (empties : Bool) (own : Own) {x : Result (Unit {0}) Refusal} {l : Fronts}
    → (l.narrow ≡ length g.w32) × (l.wide ≡ length g.w64) × (l.floats ≡ length g.wf)
    → x ≡ refused_if (first_refusal (own_tests g.nodes g.from g.to g.weight empties own (ltb (length g.results) g.nodes) l.narrow l.wide l.floats))
    → x ≡ refused_if (first_refusal (iterative_tests g empties own))
checked g empties own z e = rw (z.0, z.1, z.2) at e

-- ---- nothing refused
module _ (g : Given (List Float)) (empties : Bool) (own : Own) (p : Passed (iterative_tests g empties own)) where
  pub iterative_ready : Ready g
  iterative_ready =
      record {
        sound = sound g.nodes g.from g.to g.weight p.size p.node;
        roomy = work_roomy _ _ _ _ (or_right (ltb (length g.results) g.nodes) _ p.room);
      }

  pub iterative_fits : g.nodes ≤ length g.results
  iterative_fits = ltb-false _ _ (or_left (ltb (length g.results) g.nodes) _ p.room)

-- a vector that is given, and passed LENGTH, has n entries
pub length_right : (flag : Bool) (long n : ℕ) → length_wrong flag long n ≡ false → flag ≡ true → long ≡ n
length_right true long n e h = eqb-true _ _ (not-false _ e)
length_right false long n e h = cc
