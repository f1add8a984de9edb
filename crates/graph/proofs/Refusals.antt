-- Each answer of the table is given exactly when its row's sentence holds and no earlier row's; and what a call that nothing refused
-- may take for granted. Assumes nothing.
use mathlib.Core.Path.{◌≡◌, refl, sym, ap, ◌∙◌}
use mathlib.Core.Logic.{◌↔◌}
use mathlib.Core.Bool.{Bool, true, false, cond, true≢false}
use mathlib.Core.List.{List, [], ◌∷◌}
use Prim.Native.Nat.{ℕ, zero, suc, ◌<◌}
use native.Mathlib.Nat.{not-suc-le-zero, le_of_suc-le-suc, zero-lt-suc}
use native.Mathlib.Omega.{arith}
use borrow.Author.Tests.{eq-eqb}
use lib.Dec.{eqb}
use lib.ListN.{length, get_or}
use lib.Ieee.{Float}
use Rattle.answers.specs.declared.Answer.{Answer}
use Rattle.answers.specs.declared.Answer.TheVariants.{Done, Empty, Size, Node, Number, Room, Damping, Rounds, Start, Length, Paths, Unsettled, Text}
use Rattle.std.specs.Prelude.{Ok, Err}
use Rattle.answers.specs.declared.Refusal.{Refusal}
use Rattle.answers.specs.Answers.{number_of, refuses, refused_if}
use Rattle.answers.proofs.Said.{refused_err, refused_ok}
use Rattle.graph.specs.Edges.{edges_of}
use Rattle.graph.specs.Given.{Given, edges_in}
use Rattle.graph.specs.Checks.{size_wrong, node_wrong}
use Rattle.graph.specs.Refusals.{Tests, Row, row, table, first_of, first_refusal, ends_tests, room_wrong}
use Rattle.graph.specs.Pres.{Passed, Sound, Ready}
use Rattle.graph.proofs.Checks.{or_left, or_right, size_sized, size_limits, node_inside, work_roomy}

-- ---- the first row that holds

-- a is the answer of none of the rows
abbrev Elsewhere : Answer → List Row → Type 0
Elsewhere a [] = Unit {0}
Elsewhere a (r ∷ rs) = (eqb (number_of a) (number_of r.answer) ≡ false) × Elsewhere a rs

-- each answer stands once, and DONE nowhere
abbrev Apart : List Row → Type 0
Apart [] = Unit {0}
Apart (r ∷ rs) = (refuses r.answer ≡ true) × Elsewhere r.answer rs × Apart rs

abbrev no_row : Row
no_row = row false Done

-- the ith row's sentence holds, and no earlier one's
pub record GivenBy (rs : List Row) (i : ℕ) : Type 0 where
  pub holds : (get_or rs i no_row).holds ≡ true
  pub earlier : (j : ℕ) → j < i → (get_or rs j no_row).holds ≡ false

not_done : (a : Answer) → refuses a ≡ true → a ≡ Done → ⊥
not_done a r e = true≢false (sym r ∙ ap refuses e)

not_later : (a : Answer) (rs : List Row) → refuses a ≡ true → Elsewhere a rs → first_of rs ≡ a → ⊥
unfolding first_of
not_later a [] h e q = not_done a h (sym q)
not_later a (r ∷ rs) h e q = go r.holds q (not_later a rs h e.1)
  where
    go : (b : Bool) → cond b r.answer (first_of rs) ≡ a → (first_of rs ≡ a → ⊥) → ⊥
    go true p rest = true≢false (sym (eq-eqb (number_of a) (number_of r.answer) (ap number_of (sym p))) ∙ e.0)
    go false p rest = rest p

-- an answer that stands at the ith row is not the first row's
apart_at : (a : Answer) (rs : List Row) (i : ℕ) → i < length rs → Elsewhere a rs → a ≡ (get_or rs i no_row).answer → ⊥
apart_at a [] i l e q = not-suc-le-zero l
apart_at a (r ∷ rs) zero l e q = true≢false (sym (eq-eqb (number_of a) (number_of r.answer) (ap number_of q)) ∙ e.0)
apart_at a (r ∷ rs) (suc i) l e q = apart_at a rs i (le_of_suc-le-suc l) e.1 q

first_at_lem : (rs : List Row) (i : ℕ) → Apart rs → i < length rs → (first_of rs ≡ (get_or rs i no_row).answer) ↔ GivenBy rs i
unfolding first_of
first_at_lem [] i a l = absurd (not-suc-le-zero l)
first_at_lem (r ∷ rs) zero a l = (λ q. record { holds = only_here r.holds q; earlier = λ j h. absurd (not-suc-le-zero h) }, λ g. ap (λ (b : Bool). cond b r.answer (first_of rs)) g.holds)
  where
    only_here : (b : Bool) → cond b r.answer (first_of rs) ≡ r.answer → b ≡ true
    only_here true q = refl
    only_here false q = absurd (not_later r.answer rs a.0 a.1 q)
first_at_lem (r ∷ rs) (suc i) a l = (λ q. later r.holds refl q (first_at_lem rs i a.2 (le_of_suc-le-suc l)).0, λ g. ap (λ (b : Bool). cond b r.answer (first_of rs)) (g.earlier 0 (zero-lt-suc i)) ∙ (first_at_lem rs i a.2 (le_of_suc-le-suc l)).1 (record { holds = g.holds; earlier = λ j h. g.earlier (suc j) (omega arith) }))
  where
    both : r.holds ≡ false → GivenBy rs i → GivenBy (r ∷ rs) (suc i)
    both f g = record { holds = g.holds; earlier = before }
      where
        before : (j : ℕ) → j < suc i → (get_or (r ∷ rs) j no_row).holds ≡ false
        before zero h = f
        before (suc j) h = g.earlier j (le_of_suc-le-suc h)

    later : (b : Bool) → r.holds ≡ b → cond b r.answer (first_of rs) ≡ (get_or rs i no_row).answer → (first_of rs ≡ (get_or rs i no_row).answer → GivenBy rs i) → GivenBy (r ∷ rs) (suc i)
    later true e q rest = absurd (apart_at r.answer rs i (le_of_suc-le-suc l) a.1 q)
    later false e q rest = both e (rest q)

none_at : (rs : List Row) → Apart rs → (first_of rs ≡ Done) ↔ ((i : ℕ) → i < length rs → (get_or rs i no_row).holds ≡ false)
unfolding first_of
none_at [] a = (λ q i l. absurd (not-suc-le-zero l), λ h. refl)
none_at (r ∷ rs) a = (λ q. all r.holds refl q (none_at rs a.2).0, λ h. ap (λ (b : Bool). cond b r.answer (first_of rs)) (h 0 (zero-lt-suc (length rs))) ∙ (none_at rs a.2).1 (λ i l. h (suc i) (omega arith)))
  where
    all : (b : Bool) → r.holds ≡ b → cond b r.answer (first_of rs) ≡ Done → (first_of rs ≡ Done → (i : ℕ) → i < length rs → (get_or rs i no_row).holds ≡ false)
        → (i : ℕ) → i < length (r ∷ rs) → (get_or (r ∷ rs) i no_row).holds ≡ false
    all true e q rest i l = absurd (not_done r.answer a.0 q)
    all false e q rest zero l = e
    all false e q rest (suc i) l = rest q i (le_of_suc-le-suc l)

table_apart : (t : Tests) → Apart (table t)
table_apart t = (
  refl,
  (refl, (refl, (refl, (refl, (refl, (refl, (refl, (refl, tt)))))))),
  (
    refl,
    (refl, (refl, (refl, (refl, (refl, (refl, (refl, tt))))))),
    (
      refl,
      (refl, (refl, (refl, (refl, (refl, (refl, tt)))))),
      (
        refl,
        (refl, (refl, (refl, (refl, (refl, tt))))),
        (
          refl,
          (refl, (refl, (refl, (refl, tt)))),
          (
            refl,
            (refl, (refl, (refl, tt))),
            (
              refl,
              (refl, (refl, tt)),
              (
                refl,
                (refl, tt),
                (
                  refl,
                  tt,
                  tt,
                ),
              ),
            ),
          ),
        ),
      ),
    ),
  ),
)

-- the answer of the ith row of document 01's order is given exactly when that row's sentence holds and no earlier row's does
pub given_exactly : (t : Tests) (i : ℕ) → i < 9 → (first_refusal t ≡ (get_or (table t) i no_row).answer) ↔ GivenBy (table t) i
unfolding first_refusal
given_exactly t i l = first_at_lem (table t) i (table_apart t) l

-- DONE is given exactly when no row's sentence holds
pub done_exactly : (t : Tests) → (first_refusal t ≡ Done) ↔ ((i : ℕ) → i < 9 → (get_or (table t) i no_row).holds ≡ false)
unfolding first_refusal
done_exactly t = none_at (table t) (table_apart t)

-- ---- nothing refused
answer_done : (a : Answer) → refuses a ≡ false → a ≡ Done
answer_done Done e = refl
answer_done Empty e = absurd (true≢false e)
answer_done Size e = absurd (true≢false e)
answer_done Node e = absurd (true≢false e)
answer_done Number e = absurd (true≢false e)
answer_done Room e = absurd (true≢false e)
answer_done Damping e = absurd (true≢false e)
answer_done Rounds e = absurd (true≢false e)
answer_done Start e = absurd (true≢false e)
answer_done Length e = absurd (true≢false e)
answer_done Paths e = absurd (true≢false e)
answer_done Unsettled e = absurd (true≢false e)
answer_done Text e = absurd (true≢false e)

-- a is what the check answered, and b whether that refuses
passed_by : (t : Tests) {a : Answer} {b : Bool} → a ≡ first_refusal t → b ≡ refuses a → b ≡ false → Passed t
passed_by t {a} {b} ea eb ef =
    let h = (done_exactly t).0 (sym ea ∙ answer_done a (sym eb ∙ ef)) in
    record {
      size = h 0 (omega arith);
      empty = h 1 (omega arith);
      node = h 2 (omega arith);
      number = h 3 (omega arith);
      damping = h 4 (omega arith);
      rounds = h 5 (omega arith);
      lengths = h 6 (omega arith);
      start = h 7 (omega arith);
      room = h 8 (omega arith);
    }

-- the check let the call pass
pub passed : (t : Tests) {v : Unit {0}} → Ok v ≡ refused_if (first_refusal t) → Passed t
passed t {v} e = passed_by t refl refl (refused_ok _ v (sym e))

pub passed_done : {t : Tests} → Passed t → first_refusal t ≡ Done
unfolding first_refusal first_of
passed_done p = rw (p.size, p.empty, p.node, p.number, p.damping, p.rounds, p.lengths, p.start, p.room)

-- ---- SIZE, EMPTY and NODE are tested first

-- the tests with every later row left out
abbrev pub graph_part : Tests → Tests
graph_part t =
    record {
      size = t.size;
      empty = t.empty;
      node = t.node;
      number = false;
      damping = false;
      rounds = false;
      lengths = false;
      start = false;
      room = false;
    }

-- the rows from NUMBER on
abbrev later_rows : Tests → List Row
later_rows t =
    row t.number Number
    ∷ row t.damping Damping
    ∷ row t.rounds Rounds
    ∷ row t.lengths Length
    ∷ row t.start Start
    ∷ row t.room Room
    ∷ []

abbrev three : Bool → Bool → Bool → List Row → List Row
three s e n later = row s Size ∷ row e Empty ∷ row n Node ∷ later

early_rows : (s e n : Bool) (later none : List Row) → first_of none ≡ Done → refuses (first_of (three s e n none)) ≡ true → first_of (three s e n none) ≡ first_of (three s e n later)
unfolding first_of
early_rows true e n later none d h = refl
early_rows false true n later none d h = refl
early_rows false false true later none d h = refl
early_rows false false false later none d h = absurd (true≢false (sym h ∙ ap refuses d))

late_rows : (s e n : Bool) (none : List Row) → refuses (first_of (three s e n none)) ≡ false → (s ≡ false) × (e ≡ false) × (n ≡ false)
unfolding first_of
late_rows true e n none h = absurd (true≢false h)
late_rows false true n none h = absurd (true≢false h)
late_rows false false true none h = absurd (true≢false h)
late_rows false false false none h = (refl, refl, refl)

-- a is what `graph_refusal` answered, and b whether that refuses: if it does, it is the first of all
early : (t : Tests) {a : Answer} {b : Bool} → a ≡ first_refusal (graph_part t) → b ≡ refuses a → b ≡ true → a ≡ first_refusal t
unfolding first_refusal first_of
early t ea eb et = ea ∙ early_rows t.size t.empty t.node (later_rows t) (later_rows (graph_part t)) refl (ap refuses (sym ea) ∙ sym eb ∙ et)

-- if it doesn't, none of the three rows holds
late : (t : Tests) {a : Answer} {b : Bool} → a ≡ first_refusal (graph_part t) → b ≡ refuses a → b ≡ false → (t.size ≡ false) × (t.empty ≡ false) × (t.node ≡ false)
unfolding first_refusal
late t ea eb ef = late_rows t.size t.empty t.node (later_rows (graph_part t)) (ap refuses (sym ea) ∙ sym eb ∙ ef)

-- the check of the graph alone refused: so does the whole
pub early_err : (t : Tests) {r : Refusal} → Err r ≡ refused_if (first_refusal (graph_part t)) → Err r ≡ refused_if (first_refusal t)
early_err t {r} e = let p = refused_err _ r (sym e) in e ∙ ap refused_if (early t refl refl p.0)

-- it let the call pass
pub late_ok : (t : Tests) {v : Unit {0}} → Ok v ≡ refused_if (first_refusal (graph_part t)) → (t.size ≡ false) × (t.empty ≡ false) × (t.node ≡ false)
late_ok t {v} e = late t refl refl (refused_ok _ v (sym e))

-- SIZE and NODE did not refuse: the graph is sound
pub sound : (n : ℕ) (from to : List ℕ) (weight : List Float) → size_wrong n from to weight ≡ false → node_wrong n (edges_of from to weight) ≡ false → Sound n from to weight
sound n from to weight p q =
    let s = size_sized n from to weight p in
    record { sized = s; limits = size_limits n from to weight p; ends = node_inside n from to weight s q }

-- of a measure that reads only the ends of the edges
module _ {R : Type 0} (g : Given R) (empties stray short : Bool) where
  abbrev pub plain_tests : Tests
  plain_tests = ends_tests g.nodes g.from g.to g.weight empties stray (room_wrong g.nodes (length g.from) short (length g.w32) (length g.w64) (length g.wf))

  module _ (p : Passed plain_tests) where
    pub plain_ready : Ready g
    plain_ready =
        record {
          sound = sound g.nodes g.from g.to g.weight p.size (or_left _ stray p.node);
          roomy = work_roomy _ _ _ _ (or_right short _ p.room);
        }

    pub plain_fits : short ≡ false
    plain_fits = or_left short _ p.room

    pub plain_start : stray ≡ false
    plain_start = or_right (node_wrong g.nodes (edges_in g)) stray p.node
