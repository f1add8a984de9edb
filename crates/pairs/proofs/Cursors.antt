-- Where an edge's entry stands in a row: behind those of the later edges. Assumes nothing.
use mathlib.Core.Path.{◌≡◌, refl, sym, ap, ap₂, ◌∙◌, subst}
use mathlib.Core.Logic.{◌⊎◌, inl, inr}
use mathlib.Core.Bool.{Bool, true, false, cond, false≢true}
use mathlib.Core.List.{List, ◌∷◌, ◌++◌}
use Prim.Native.Nat.{ℕ, zero, suc, ◌+◌, ◌-◌, ◌≤◌, ◌<◌}
use native.Mathlib.Numerals.{add-one}
use native.Mathlib.Omega.{arith}
use borrow.Author.Tests.{eq-eqb, ne_eqb}
use lib.ListN.{length, get_or, length-append, get_or-append}
use lib.Seq.{get_or-append-add}
use lib.Ieee.{Float}
use Rattle.regions.proofs.Cases.{same_or_not}
use Rattle.graph.specs.Edges.{edges_of, neighbours, one_if}
use Rattle.graph.specs.Pres.{Sized}
use Rattle.rows.specs.Walks.{cons_if, takes, row_to, back}
use Rattle.rows.proofs.Walks.{takes_own, row_none, long_more, long_mono}
use Rattle.rows.proofs.Neighbours.{rows_are}
use Rattle.pairs.specs.Writes.{among}

-- ---- how many entries the first edges give

pub among_none : (skip : Bool) (own other : List ℕ) (v : ℕ) → among skip own other v 0 ≡ 0
unfolding among
among_none skip own other v = refl

pub among_suc : (skip : Bool) (own other : List ℕ) (v i : ℕ) → among skip own other v (suc i) ≡ one_if (takes skip (get_or own i 0) (get_or other i 0) v) + among skip own other v i
unfolding among
among_suc skip own other v i = refl

-- they are those of the row
pub among_row : (skip : Bool) (own other : List ℕ) (v i : ℕ) → among skip own other v i ≡ length (row_to skip own other v i)
unfolding among
among_row skip own other v zero = sym (ap length (row_none skip own other v))
among_row skip own other v (suc i) =
    omega (arith, among_row skip own other v i, long_more skip own other v i, ap (λ (k : ℕ). length (row_to skip own other v k)) (add-one i))

pub among_le : (skip : Bool) (own other : List ℕ) (v i k : ℕ) → i ≤ k → among skip own other v i ≤ among skip own other v k
among_le skip own other v i k l = omega (arith, among_row skip own other v i, among_row skip own other v k, long_mono skip own other v i k l)

-- without skip the other ends don't matter
pub among_any : (own other other' : List ℕ) (v i : ℕ) → among false own other v i ≡ among false own other' v i
unfolding among
among_any own other other' v zero = refl
among_any own other other' v (suc i) = ap (λ (k : ℕ). one_if (takes false (get_or own i 0) (get_or other i 0) v) + k) (among_any own other other' v i)

-- ---- the place of the i-th edge's entry

-- x stands at place j of a row
abbrev pub Stands : ℕ → ℕ → List ℕ → Type 0
Stands x j row = (j < length row) × (get_or row j 0 ≡ x)

cons_stands : (b : Bool) (y x j k : ℕ) (r : List ℕ) → k ≡ one_if b + j → Stands x j r → Stands x k (cons_if b y r)
cons_stands true y x j k r e h =
    let q : k ≡ suc j = omega arith in
    subst (λ (i : ℕ). Stands x i (y ∷ r)) (sym q) (omega arith, h.1)
cons_stands false y x j k r e h = let q : k ≡ j = omega arith in subst (λ (i : ℕ). Stands x i r) (sym q) h

cons_first : (b : Bool) (y k : ℕ) (r : List ℕ) → b ≡ true → k ≡ 0 → Stands y k (cons_if b y r)
cons_first true y k r e z = subst (λ (i : ℕ). Stands y i (y ∷ r)) (sym z) (omega arith, refl)
cons_first false y k r e z = absurd (false≢true e)

module _ (skip : Bool) (own other : List ℕ) (v : ℕ) where
  row_suc : (i : ℕ) → row_to skip own other v (suc i) ≡ cons_if (takes skip (get_or own i 0) (get_or other i 0) v) (get_or other i 0) (row_to skip own other v i)
  unfolding row_to
  row_suc i = refl

  -- the entry of the i-th edge stands behind those of the later edges
  pub row_at : (m i : ℕ) → i < m → takes skip (get_or own i 0) (get_or other i 0) v ≡ true
      → Stands (get_or other i 0) (among skip own other v m - among skip own other v (suc i)) (row_to skip own other v m)
  row_at zero i l t = absurd (omega arith)
  row_at (suc m) i l t = go (same_or_not i m) (row_at m i)
    where
      last : takes skip (get_or own m 0) (get_or other m 0) v ≡ true → Stands (get_or other m 0) (among skip own other v (suc m) - among skip own other v (suc m)) (row_to skip own other v (suc m))
      last h =
          subst (λ (r : List ℕ). Stands (get_or other m 0) (among skip own other v (suc m) - among skip own other v (suc m)) r) (sym (row_suc m))
          (cons_first (takes skip (get_or own m 0) (get_or other m 0) v) (get_or other m 0) (among skip own other v (suc m) - among skip own other v (suc m)) (row_to skip own other v m) h (omega arith))

      go : (i ≡ m) ⊎ (i ≡ m → ⊥) → (i < m → takes skip (get_or own i 0) (get_or other i 0) v ≡ true → Stands (get_or other i 0) (among skip own other v m - among skip own other v (suc i)) (row_to skip own other v m))
          → Stands (get_or other i 0) (among skip own other v (suc m) - among skip own other v (suc i)) (row_to skip own other v (suc m))
      go (inl e) ih =
          subst
          (λ (k : ℕ). takes skip (get_or own k 0) (get_or other k 0) v ≡ true → Stands (get_or other k 0) (among skip own other v (suc m) - among skip own other v (suc k)) (row_to skip own other v (suc m)))
          (sym e) last t
      go (inr n) ih =
          subst (λ (r : List ℕ). Stands (get_or other i 0) (among skip own other v (suc m) - among skip own other v (suc i)) r) (sym (row_suc m))
          (cons_stands (takes skip (get_or own m 0) (get_or other m 0) v) (get_or other m 0) (get_or other i 0) (among skip own other v m - among skip own other v (suc i)) (among skip own other v (suc m) - among skip own other v (suc i)) (row_to skip own other v m)
          (omega (arith, among_suc skip own other v m, among_le skip own other v (suc i) m (omega arith))) (ih (omega arith) t))

-- ---- in the neighbour entries

append_left : (x j : ℕ) (r s : List ℕ) → Stands x j r → Stands x j (r ++ s)
append_left x j r s h = (omega (arith, length-append r s, h.0), get_or-append r s 0 j h.0 ∙ h.1)

append_right : (x j : ℕ) (r s : List ℕ) → Stands x j s → Stands x (length r + j) (r ++ s)
append_right x j r s h = (omega (arith, length-append r s, h.0), get_or-append-add r s j 0 ∙ h.1)

module _ {fs ts : List ℕ} {xs : List Float} (s : Sized fs ts xs) where
  -- the entries of v, of all edges
  pub among_long : (directed : Bool) (v : ℕ) → among false fs fs v (length fs) + cond directed 0 (among true ts fs v (length fs)) ≡ length (neighbours directed (edges_of fs ts xs) v)
  among_long directed v =
      omega (
        arith,
        ap length (rows_are fs ts xs s v directed),
        length-append (row_to false fs ts v (length fs)) (row_to true ts fs v (back directed (length fs))),
        among_any fs fs ts v (length fs),
        among_row false fs ts v (length fs),
        again directed,
      )
    where
      again : (b : Bool) → cond b 0 (among true ts fs v (length fs)) ≡ length (row_to true ts fs v (back b (length fs)))
      again true = sym (ap length (row_none true ts fs v))
      again false = among_row true ts fs v (length fs)

  -- the i-th edge's `to` among the entries of its `from`
  pub forward_entry : (directed : Bool) (i : ℕ) → i < length fs
      → Stands (get_or ts i 0) (among false fs fs (get_or fs i 0) (length fs) - among false fs fs (get_or fs i 0) (suc i)) (neighbours directed (edges_of fs ts xs) (get_or fs i 0))
  forward_entry directed i l =
      subst (λ (r : List ℕ). Stands (get_or ts i 0) (among false fs fs v (length fs) - among false fs fs v (suc i)) r) (rows_are fs ts xs s v directed)
      (append_left (get_or ts i 0) (among false fs fs v (length fs) - among false fs fs v (suc i)) (row_to false fs ts v (length fs)) (row_to true ts fs v (back directed (length fs)))
      (subst (λ (k : ℕ). Stands (get_or ts i 0) k (row_to false fs ts v (length fs))) same (row_at false fs ts v (length fs) i l (eq-eqb v v refl))))
    where
      v : ℕ
      v = get_or fs i 0

      same : among false fs ts v (length fs) - among false fs ts v (suc i) ≡ among false fs fs v (length fs) - among false fs fs v (suc i)
      same = ap₂ ◌-◌ (among_any fs ts fs v (length fs)) (among_any fs ts fs v (suc i))

  -- its `from` among the entries of its `to`, if that is another node
  pub back_entry : (i : ℕ) → i < length fs → (get_or fs i 0 ≡ get_or ts i 0 → ⊥)
      → Stands (get_or fs i 0) (among false fs fs (get_or ts i 0) (length fs) + (among true ts fs (get_or ts i 0) (length fs) - among true ts fs (get_or ts i 0) (suc i))) (neighbours false (edges_of fs ts xs) (get_or ts i 0))
  back_entry i l n =
      subst (λ (r : List ℕ). Stands (get_or fs i 0) (among false fs fs v (length fs) + (among true ts fs v (length fs) - among true ts fs v (suc i))) r) (rows_are fs ts xs s v false)
      (subst (λ (k : ℕ). Stands (get_or fs i 0) (k + (among true ts fs v (length fs) - among true ts fs v (suc i))) (row_to false fs ts v (length fs) ++ row_to true ts fs v (length fs))) (sym (among_row false fs ts v (length fs)) ∙ among_any fs ts fs v (length fs))
      (append_right (get_or fs i 0) (among true ts fs v (length fs) - among true ts fs v (suc i)) (row_to false fs ts v (length fs)) (row_to true ts fs v (length fs))
      (row_at true ts fs v (length fs) i l (takes_own true v (get_or fs i 0) v refl (ne_eqb v (get_or fs i 0) (λ q. n (sym q)))))))
    where
      v : ℕ
      v = get_or ts i 0
