-- The hop sequences themselves: the list of those of length k from a to b has each once, and as many as `walks` says. Assumes nothing.
use mathlib.Core.Path.{◌≡◌, refl, sym, ap, ap₂, ◌∙◌, subst}
use mathlib.Core.Logic.{◌≢◌, ◌⊎◌, inl, inr}
use mathlib.Core.Bool.{Bool, true, false}
use mathlib.Core.List.Memᴰ
use mathlib.Core.List.{List, [], ◌∷◌, ◌++◌, map, Memᴰ, head-eq_of_cons-eq, tail-eq_of_cons-eq}
use Prim.Native.Nat.{ℕ, zero, suc, ◌+◌, ◌<◌}
use native.Mathlib.Nat.{add-zero, zero-add, zero-lt-suc}
use native.Mathlib.Omega.{arith}
use lib.Dec.{eqb}
use lib.ListN.{length, get_or, length-append, length-map}
use Rattle.graph.specs.Edges.{Graph, entries}
use Rattle.hops.specs.Sum.{sum_over, same, only_if}
use Rattle.hops.specs.Hops.{Hops, stay, hop, walks, each, nil_if, routes, Distinct}
use Rattle.hops.proofs.Sums.{eq_or_ne, eqb_yes, eqb_no}

-- ---- their number

each_length : (r : ℕ → List (List ℕ)) (i : ℕ) (xs : List ℕ) → length (each r i xs) ≡ sum_over xs (λ x. length (r x))
unfolding each sum_over
each_length r i [] = refl
each_length r i (x ∷ xs) = length-append (map (λ p. i ∷ p) (r x)) (each r (suc i) xs) ∙ ap₂ ◌+◌ (length-map (r x) (λ p. i ∷ p)) (each_length r (suc i) xs)

pub routes_length : (g : Graph) (k a b : ℕ) → length (routes g k a b) ≡ walks g k a b
unfolding routes walks same
routes_length g zero a b = go (eqb a b)
  where
    go : (t : Bool) → length (nil_if t) ≡ only_if t 1
    go true = refl
    go false = refl
routes_length g (suc k) a b = each_length (λ x. routes g k x b) 0 (entries g a) ∙ ap (sum_over (entries g a)) (λ i x. routes_length g k x b i)

-- ---- which they are

Starts : (ℕ → List (List ℕ)) → ℕ → List ℕ → List ℕ → Type 0
Starts r i xs p = (j : ℕ) × (q : List ℕ) × (p ≡ (i + j) ∷ q) × (j < length xs) × Memᴰ q (r (get_or xs j 0))

each_starts : (r : ℕ → List (List ℕ)) (i : ℕ) (xs : List ℕ) (p : List ℕ) → Memᴰ p (each r i xs) → Starts r i xs p
unfolding each Starts
each_starts r i [] p m = absurd (Memᴰ.not-nil m)
each_starts r i (x ∷ xs) p m = go (Memᴰ.append_cases (map (λ p. i ∷ p) (r x)) m) (each_starts r (suc i) xs p)
  where
    go : Memᴰ p (map (λ p. i ∷ p) (r x)) ⊎ Memᴰ p (each r (suc i) xs) → (Memᴰ p (each r (suc i) xs) → Starts r (suc i) xs p) → Starts r i (x ∷ xs) p
    go (inl n) ih = let t = Memᴰ.of_map (λ p. i ∷ p) (r x) n in (0, t.0, sym t.2 ∙ ap (λ (l : ℕ). l ∷ t.0) (sym (add-zero i)), zero-lt-suc _, t.1)
    go (inr n) ih = let t = ih n in (suc t.0, t.1, t.2 ∙ ap (λ (l : ℕ). l ∷ t.1) (omega arith), omega (arith, t.3), t.4)

starts_each : (r : ℕ → List (List ℕ)) (i : ℕ) (xs : List ℕ) (j : ℕ) (q : List ℕ) → j < length xs → Memᴰ q (r (get_or xs j 0)) → Memᴰ ((i + j) ∷ q) (each r i xs)
unfolding each
starts_each r i [] j q h m = absurd (omega arith)
starts_each r i (x ∷ xs) zero q h m = Memᴰ.cast (ap (λ (l : ℕ). l ∷ q) (add-zero i)) (Memᴰ.append_left _ (Memᴰ.map (λ p. i ∷ p) m))
starts_each r i (x ∷ xs) (suc j) q h m = Memᴰ.append_right (map (λ p. i ∷ p) (r x)) (Memᴰ.cast (ap (λ (l : ℕ). l ∷ q) (omega arith)) (starts_each r (suc i) xs j q (omega arith) m))

-- each listed sequence leads from a to b in k hops
pub routes_hops : (g : Graph) (k a b : ℕ) (p : List ℕ) → Memᴰ p (routes g k a b) → Hops g a p b × (length p ≡ k)
unfolding routes Starts
routes_hops g zero a b p m = go (eq_or_ne a b)
  where
    go : (a ≡ b) ⊎ (a ≢ b) → Hops g a p b × (length p ≡ 0)
    go (inl e) = let z : p ≡ [] = Memᴰ.eq_of_singleton (subst (λ (t : Bool). Memᴰ p (nil_if t)) (eqb_yes e) m) in (subst (λ (q : List ℕ). Hops g a q b) (sym z) (subst (λ (c : ℕ). Hops g a [] c) e stay), ap length z)
    go (inr n) = absurd (Memᴰ.not-nil (subst (λ (t : Bool). Memᴰ p (nil_if t)) (eqb_no n) m))
routes_hops g (suc k) a b p m =
    let t = each_starts (λ x. routes g k x b) 0 (entries g a) p m in
    let ih = routes_hops g k (get_or (entries g a) t.0 0) b t.1 t.4 in
    let e : t.0 ∷ t.1 ≡ p = ap (λ (l : ℕ). l ∷ t.1) (sym (zero-add t.0)) ∙ sym t.2 in
    (subst (λ (q : List ℕ). Hops g a q b) e (hop t.3 ih.0), ap length (sym e) ∙ ap suc ih.1)

-- and each sequence of hops is listed
pub hops_routes : (g : Graph) {a b : ℕ} {p : List ℕ} → Hops g a p b → Memᴰ p (routes g (length p) a b)
unfolding routes
hops_routes g (stay {a}) = subst (λ (t : Bool). Memᴰ [] (nil_if t)) (sym (eqb_yes (λ i. a))) (Memᴰ.head refl)
hops_routes g (hop {a} {b} {i} {p} h r) =
    Memᴰ.cast (ap (λ (l : ℕ). l ∷ p) (sym (zero-add i))) (starts_each (λ x. routes g (length p) x b) 0 (entries g a) i p h (hops_routes g r))

-- ---- each once

distinct_append : (xs ys : List (List ℕ)) → Distinct xs → Distinct ys → ((p : List ℕ) → Memᴰ p xs → Memᴰ p ys → ⊥) → Distinct (xs ++ ys)
distinct_append [] ys dx dy f = dy
distinct_append (x ∷ xs) ys dx dy f = (out, distinct_append xs ys dx.1 dy (λ p m n. f p (Memᴰ.tail m) n))
  where
    out : ¬ Memᴰ x (xs ++ ys)
    out m = go (Memᴰ.append_cases xs m)
      where
        go : Memᴰ x xs ⊎ Memᴰ x ys → ⊥
        go (inl n) = dx.0 n
        go (inr n) = f x (Memᴰ.head refl) n

distinct_map : (i : ℕ) (ps : List (List ℕ)) → Distinct ps → Distinct (map (λ p. i ∷ p) ps)
distinct_map i [] d = tt
distinct_map i (p ∷ ps) d =
    (λ m. let t = Memᴰ.of_map (λ p. i ∷ p) ps m in d.0 (Memᴰ.cast (sym (tail-eq_of_cons-eq t.2)) t.1), distinct_map i ps d.1)

distinct_each : (r : ℕ → List (List ℕ)) (i : ℕ) (xs : List ℕ) → ((x : ℕ) → Distinct (r x)) → Distinct (each r i xs)
unfolding each Starts
distinct_each r i [] d = tt
distinct_each r i (x ∷ xs) d = distinct_append (map (λ p. i ∷ p) (r x)) (each r (suc i) xs) (distinct_map i (r x) (d x)) (distinct_each r (suc i) xs d) apart
  where
    apart : (p : List ℕ) → Memᴰ p (map (λ p. i ∷ p) (r x)) → Memᴰ p (each r (suc i) xs) → ⊥
    apart p m n =
        let s = Memᴰ.of_map (λ p. i ∷ p) (r x) m in
        let t = each_starts r (suc i) xs p n in
        omega (arith, head-eq_of_cons-eq (s.2 ∙ t.2))

pub routes_distinct : (g : Graph) (k a b : ℕ) → Distinct (routes g k a b)
unfolding routes
routes_distinct g zero a b = go (eqb a b)
  where
    go : (t : Bool) → Distinct (nil_if t)
    go true = (Memᴰ.not-nil, tt)
    go false = tt
routes_distinct g (suc k) a b = distinct_each (λ x. routes g k x b) 0 (entries g a) (λ x. routes_distinct g k x b)
