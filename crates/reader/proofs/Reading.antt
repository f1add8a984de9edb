-- The edges read so far, and what is left to read: storing the edges that are left gives what the definition says of all.
-- Assumes nothing.
use mathlib.Core.Path.{◌≡◌, refl, sym, ap, ◌∙◌}
use mathlib.Core.List.{List, [], ◌∷◌, map}
use Prim.Native.Nat.{ℕ, ◌+◌, ◌-◌, ◌<◌, ◌≤◌}
use native.Mathlib.Omega.{arith}
use native.Mathlib.Numerals.{add-one}
use lib.ListN.{length, set}
use lib.Seq.{sets}
use borrow.Author.Tests.{lt-ltb, le-ltb}
use Rattle.lines.specs.Lines.{edge_line}
use Rattle.std.specs.Prelude.{Option, Some, None, Result, Ok, Err}
use Rattle.lines.specs.declared.Edge.{Edge}
use Rattle.lines.specs.declared.FaultyLine.{FaultyLine}
use Rattle.lines.proofs.Values.{edge_next}
use Rattle.reader.specs.Edges.{Edges, line_of, edge_then, edges_from, from_of, to_of, bits_of, Stored}

-- one line more, a faulty line, and the end
more : (s : List ℕ) (m n k at : ℕ) → m ≡ n + 1 → edges_from s m k at ≡ edge_then (edge_line s at) (line_of k) (λ next. edges_from s n (k + 1) next)
unfolding edges_from
more s m n k at e = rw (e, add-one n)

an_edge : (s : List ℕ) (m n k at : ℕ) {edge : Edge} {next : ℕ} → m ≡ n + 1 → edge_line s at ≡ Some (edge, next) → edges_from s m k at ≡ record { given = edge ∷ (edges_from s n (k + 1) next).given; read = (edges_from s n (k + 1) next).read }
an_edge s m n k at e h = more s m n k at e ∙ ap (λ (x : Option (Edge × ℕ)). edge_then x (line_of k) (λ next. edges_from s n (k + 1) next)) h

a_fault : (s : List ℕ) (m n k at : ℕ) → m ≡ n + 1 → edge_line s at ≡ None → edges_from s m k at ≡ record { given = []; read = Err (line_of k) }
a_fault s m n k at e h = more s m n k at e ∙ ap (λ (x : Option (Edge × ℕ)). edge_then x (line_of k) (λ next. edges_from s n (k + 1) next)) h

a_line_more : (s : List ℕ) (m k at : ℕ) → m ≡ 0 → at < length s → edges_from s m k at ≡ record { given = []; read = Err (line_of k) }
unfolding edges_from
a_line_more s m k at e h = rw (e, lt-ltb at (length s) h)

the_end : (s : List ℕ) (m k at : ℕ) → m ≡ 0 → length s ≤ at → edges_from s m k at ≡ record { given = []; read = Ok tt }
unfolding edges_from
the_end s m k at e h = rw (e, le-ltb at (length s) h)

module _ (s : List ℕ) (m start : ℕ) (from₀ to₀ bits₀ : List ℕ) where
  -- k edges are stored, the line at `at` is next, and `left` lines are to come
  pub record Going (from to bits : List ℕ) (at k left : ℕ) : Type 0 where
    pub inside : k ≤ length s
    pub few : k ≤ at
    pub read : (edges_from s left k at).read ≡ (edges_from s m 0 start).read
    pub all_from : sets from k (map from_of (edges_from s left k at).given) ≡ sets from₀ 0 (map from_of (edges_from s m 0 start).given)
    pub all_to : sets to k (map to_of (edges_from s left k at).given) ≡ sets to₀ 0 (map to_of (edges_from s m 0 start).given)
    pub all_bits : sets bits k (map bits_of (edges_from s left k at).given) ≡ sets bits₀ 0 (map bits_of (edges_from s m 0 start).given)

  pub none : Going from₀ to₀ bits₀ start 0 m
  none = record { inside = omega arith; few = omega arith; read = refl; all_from = refl; all_to = refl; all_bits = refl }

  pub step : {from to bits from' to' bits' : List ℕ} {at k left left' : ℕ} {edge : Edge} {next : ℕ} → left ≡ left' + 1 → edge_line s at ≡ Some (edge, next) → from' ≡ set from k (from_of edge) → to' ≡ set to k (to_of edge) → bits' ≡ set bits k edge.weight → Going from to bits at k left → Going from' to' bits' next (k + 1) left'
  step {from} {to} {bits} {from'} {to'} {bits'} {at} {k} {left} {left'} {edge} {next} h e p q r g =
      let one = an_edge s left left' k at h e in
      let n = edge_next s at e in
      record {
        inside = omega (arith, n.0, n.1, g.few);
        few = omega (arith, n.0, g.few);
        read = sym (ap (λ (x : Edges). x.read) one) ∙ g.read;
        all_from = rw (p, add-one k) (sym (ap (λ (x : Edges). sets from k (map from_of x.given)) (rw (add-one k) at one)) ∙ g.all_from);
        all_to = rw (q, add-one k) (sym (ap (λ (x : Edges). sets to k (map to_of x.given)) (rw (add-one k) at one)) ∙ g.all_to);
        all_bits = rw (r, add-one k) (sym (ap (λ (x : Edges). sets bits k (map bits_of x.given)) (rw (add-one k) at one)) ∙ g.all_bits);
      }

  stopped : {from to bits : List ℕ} {at k left : ℕ} {read : Result (Unit {0}) FaultyLine} → edges_from s left k at ≡ record { given = []; read = read } → Going from to bits at k left → (read ≡ (edges_from s m 0 start).read) × Stored (edges_from s m 0 start).given from₀ to₀ bits₀ from to bits
  stopped {from} {to} {bits} {k} e g = (
    sym (ap (λ (x : Edges). x.read) e) ∙ g.read,
    record {
      from_is = sym (ap (λ (x : Edges). sets from k (map from_of x.given)) e) ∙ g.all_from;
      to_is = sym (ap (λ (x : Edges). sets to k (map to_of x.given)) e) ∙ g.all_to;
      bits_is = sym (ap (λ (x : Edges). sets bits k (map bits_of x.given)) e) ∙ g.all_bits;
    },
  )

  pub faulty : {from to bits : List ℕ} {at k left : ℕ} → 0 < left → edge_line s at ≡ None → Going from to bits at k left → (Err (line_of k) ≡ (edges_from s m 0 start).read) × Stored (edges_from s m 0 start).given from₀ to₀ bits₀ from to bits
  faulty {at} {k} {left} h e g = stopped (a_fault s left (left - 1) k at (omega arith) e) g

  pub line_more : {from to bits : List ℕ} {at k left n : ℕ} → left ≤ 0 → k ≡ n → at < length s → Going from to bits at k left → (Err (line_of n) ≡ (edges_from s m 0 start).read) × Stored (edges_from s m 0 start).given from₀ to₀ bits₀ from to bits
  line_more {at} {k} {left} h n e g = stopped (rw (sym n) (a_line_more s left k at (omega arith) e)) g

  pub done : {from to bits : List ℕ} {at k left : ℕ} → left ≤ 0 → length s ≤ at → Going from to bits at k left → (Ok tt ≡ (edges_from s m 0 start).read) × Stored (edges_from s m 0 start).given from₀ to₀ bits₀ from to bits
  done {at} {k} {left} h e g = stopped (the_end s left k at (omega arith) e) g

-- how the reading begins and ends
pub ruleset exits = (none, faulty, line_more, done)
