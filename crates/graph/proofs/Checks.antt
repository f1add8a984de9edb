-- What a check that passed shows, the turns of `first_fault`, and what an odd number shows. Assumes nothing.
use mathlib.Core.Path.{◌≡◌, refl, sym, ap, ◌∙◌}
use mathlib.Core.Bool.{Bool, true, false, not, ◌||◌, cond, true≢false}
use mathlib.Core.List.{List, [], ◌∷◌}
use Prim.Native.Nat.{ℕ, zero, suc, ◌+◌, ◌≤◌, ◌<◌}
use native.Mathlib.Nat.{not-suc-le-zero, le_of_suc-le-suc}
use native.Mathlib.Numerals.{add-one}
use native.Mathlib.Omega.{arith}
use borrow.Author.Tests.{ltb-false, ltb-true, lt-ltb, le-ltb, eqb-true, not-false}
use lib.Dec.{eqb, ltb}
use lib.ListN.{length, get_or, drop}
use lib.Seq.{drop-length}
use lib.Ieee.{Float, nan, inf, fin}
use Rattle.std.specs.Float.{float_is_finite}
use lib.Ieee.Scale.{finite}
use Rattle.graph.specs.declared.Fault.{Fault}
use Rattle.graph.specs.declared.Fault.TheVariants.{From, To}
use Rattle.std.specs.Prelude.{Option, Some, None}
use Rattle.std.specs.List.{list_any}
use Rattle.std.specs.Option.{is_some}
use Rattle.graph.specs.declared.Fronts.{Fronts}
use Rattle.answers.specs.Settings.{node_limit, edge_limit}
use Rattle.graph.specs.Edges.{Edge, edges_of}
use Rattle.graph.specs.Checks.{size_wrong, first_fault, some_fault, node_wrong, first_odd, some_found, work_wrong}
use Rattle.graph.specs.Pres.{Sized, Limits, Inside, Roomy}
use Rattle.graph.proofs.Edges.{edges_long, edges_at, edges_from_lem, no_edge}

-- a test of several is false when each is
pub or_left : (a b : Bool) → (a || b) ≡ false → a ≡ false
or_left true b e = absurd (true≢false e)
or_left false b e = refl

pub or_right : (a b : Bool) → (a || b) ≡ false → b ≡ false
or_right true b e = absurd (true≢false e)
or_right false b e = e

none_of_3 : (a b c : Bool) → (a || b || c) ≡ false → (a ≡ false) × (b ≡ false) × (c ≡ false)
none_of_3 a b c e = let p = or_left (a || b) c e in (or_left a b p, or_right a b p, or_right (a || b) c e)

none_of_4 : (a b c d : Bool) → (a || b || c || d) ≡ false → (a ≡ false) × (b ≡ false) × (c ≡ false) × (d ≡ false)
none_of_4 a b c d e = let p = none_of_3 a b c (or_left (a || b || c) d e) in (p.0, p.1, p.2, or_right (a || b || c) d e)

-- ---- SIZE did not refuse
module _ (n : ℕ) (fs ts : List ℕ) (xs : List Float) (e : size_wrong n fs ts xs ≡ false) where
  size_tests : (ltb node_limit n ≡ false) × (ltb edge_limit (length fs) ≡ false) × (not (eqb (length ts) (length fs)) ≡ false) × (not (eqb (length xs) (length fs)) ≡ false)
  unfolding size_wrong
  size_tests = none_of_4 (ltb node_limit n) (ltb edge_limit (length fs)) (not (eqb (length ts) (length fs))) (not (eqb (length xs) (length fs))) e

  pub size_sized : Sized fs ts xs
  size_sized = record { tos = eqb-true _ _ (not-false _ size_tests.2); weights = eqb-true _ _ (not-false _ size_tests.3) }

  pub size_limits : Limits n (length fs)
  size_limits = record { nodes = ltb-false _ _ size_tests.0; edges = ltb-false _ _ size_tests.1 }

-- ---- ROOM did not refuse
pub work_roomy : (f : Fronts) (a b c : ℕ) → work_wrong f a b c ≡ false → Roomy f a b c
unfolding work_wrong
work_roomy f a b c e =
    let p = none_of_3 (ltb a f.narrow) (ltb b f.wide) (ltb c f.floats) e in
    record { r32 = ltb-false _ _ p.0; r64 = ltb-false _ _ p.1; rf = ltb-false _ _ p.2 }

-- ---- NODE did not refuse
none_found : (n : ℕ) (es : List Edge) → some_fault (first_fault n es) ≡ false → (k : ℕ) → k < length es → ((get_or es k no_edge).from < n) × ((get_or es k no_edge).to < n)
unfolding first_fault
none_found n [] h k l = absurd (not-suc-le-zero l)
none_found n (e ∷ es) h k l = by_tests (ltb e.from n) refl (ltb e.to n) refl h (none_found n es)
  where
    at : e.from < n → e.to < n → ((j : ℕ) → j < length es → ((get_or es j no_edge).from < n) × ((get_or es j no_edge).to < n)) → (k : ℕ) → k < length (e ∷ es)
        → ((get_or (e ∷ es) k no_edge).from < n) × ((get_or (e ∷ es) k no_edge).to < n)
    at f t g zero m = (f, t)
    at f t g (suc j) m = g j (le_of_suc-le-suc m)

    by_tests : (a : Bool) → ltb e.from n ≡ a → (b : Bool) → ltb e.to n ≡ b → some_fault (cond a (cond b (first_fault n es) (Some (To e.at))) (Some (From e.at))) ≡ false
        → (some_fault (first_fault n es) ≡ false → (j : ℕ) → j < length es → ((get_or es j no_edge).from < n) × ((get_or es j no_edge).to < n))
        → ((get_or (e ∷ es) k no_edge).from < n) × ((get_or (e ∷ es) k no_edge).to < n)
    by_tests true p true q g r = at (ltb-true _ _ p) (ltb-true _ _ q) (r g) k l
    by_tests true p false q g r = absurd (true≢false g)
    by_tests false p b q g r = absurd (true≢false g)

pub node_inside : (n : ℕ) (fs ts : List ℕ) (xs : List Float) → Sized fs ts xs → node_wrong n (edges_of fs ts xs) ≡ false → Inside n fs ts
unfolding node_wrong
node_inside n fs ts xs s e =
    record {
      froms = λ i l. rw (edges_at fs ts xs no_edge i s l) at (none_found n (edges_of fs ts xs) e i (here i l)).0;
      tos = λ i l. rw (edges_at fs ts xs no_edge i s l) at (none_found n (edges_of fs ts xs) e i (here i l)).1;
    }
  where
    here : (i : ℕ) → i < length fs → i < length (edges_of fs ts xs)
    here i l = omega (arith, edges_long fs ts xs s)

-- every end is a node: NODE does not refuse
none_wrong : (n : ℕ) (es : List Edge) → ((k : ℕ) → k < length es → ((get_or es k no_edge).from < n) × ((get_or es k no_edge).to < n)) → some_fault (first_fault n es) ≡ false
unfolding first_fault
none_wrong n [] h = refl
none_wrong n (e ∷ es) h = rw (lt-ltb _ _ (h 0 (omega arith)).0, lt-ltb _ _ (h 0 (omega arith)).1) (none_wrong n es (λ k l. h (suc k) (omega arith)))

pub inside_node : (n : ℕ) (fs ts : List ℕ) (xs : List Float) → Sized fs ts xs → Inside n fs ts → node_wrong n (edges_of fs ts xs) ≡ false
unfolding node_wrong
inside_node n fs ts xs s h = none_wrong n (edges_of fs ts xs) (λ k l. let q : k < length fs = omega (arith, edges_long fs ts xs s) in rw (edges_at fs ts xs no_edge k s q) (h.froms k q, h.tos k q))

-- ---- the turns of `highest`

-- none of the first i numbers is above k
abbrev pub Top : List ℕ → ℕ → ℕ → Type 0
Top xs i k = (j : ℕ) → j < i → get_or xs j 0 ≤ k

-- ---- the turns of `first_fault`
module _ (n : ℕ) (fs ts : List ℕ) (xs : List Float) (s : Sized fs ts xs) (o : Option Fault) (i : ℕ) where
  abbrev Rest : ℕ → Option Fault
  Rest k = first_fault n (drop k (edges_of fs ts xs))

  turn : i < length fs → Rest i ≡ cond (ltb (get_or fs i 0) n) (cond (ltb (get_or ts i 0) n) (Rest (suc i)) (Some (To i))) (Some (From i))
  unfolding first_fault
  turn l = rw (edges_from_lem fs ts xs i s l)

  pub from_fault : i < length fs → n ≤ get_or fs i 0 → Rest i ≡ o → Some (From i) ≡ o
  from_fault l b e = sym (turn l ∙ rw (le-ltb _ _ b)) ∙ e

  pub to_fault : i < length fs → get_or fs i 0 < n → n ≤ get_or ts i 0 → Rest i ≡ o → Some (To i) ≡ o
  to_fault l a b e = sym (turn l ∙ rw (lt-ltb _ _ a, le-ltb _ _ b)) ∙ e

  pub no_fault : i < length fs → get_or fs i 0 < n → get_or ts i 0 < n → Rest i ≡ o → Rest (i + 1) ≡ o
  no_fault l a b e = ap Rest (add-one i) ∙ sym (turn l ∙ rw (lt-ltb _ _ a, lt-ltb _ _ b)) ∙ e

  pub all_passed : i ≡ length fs → Rest i ≡ o → None ≡ o
  unfolding first_fault
  all_passed q e = sym (rw (q ∙ sym (edges_long fs ts xs s), drop-length (edges_of fs ts xs))) ∙ e

-- ---- the first fault, and the first number that is odd
pub fault_some : (o : Option Fault) → is_some o ≡ some_fault o
fault_some None = refl
fault_some (Some f) = refl

pub odd_any : (i : ℕ) (xs : List Float) → list_any (λ x. not (finite x)) xs ≡ some_found (first_odd i xs)
unfolding first_odd
odd_any i [] = refl
odd_any i (x ∷ xs) = by_test (finite x) (odd_any (suc i) xs)
  where
    by_test : (b : Bool) → list_any (λ y. not (finite y)) xs ≡ some_found (first_odd (suc i) xs) → (not b || list_any (λ y. not (finite y)) xs) ≡ some_found (cond b (first_odd (suc i) xs) (Some i))
    by_test true e = e
    by_test false e = refl

-- ---- std's test of a finite number is the definition's
pub finite_is : (x : Float) → float_is_finite x ≡ finite x
unfolding float_is_finite
finite_is nan = refl
finite_is (inf s) = refl
finite_is (fin s m k) = refl
