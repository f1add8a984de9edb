-- The breadth-first order: a queue that each node's entries join, first come first, is in the end the order level by level. Assumes nothing.
use mathlib.Core.Path.{◌≡◌, refl, sym, ap, ◌∙◌, subst}
use mathlib.Core.Logic.{◌≢◌, ◌⊎◌, inl, inr}
use mathlib.Core.Bool.{Bool, true, false, ◌||◌, cond}
use mathlib.Core.List.{List, [], ◌∷◌, ◌++◌, foldl-append, append_assoc, append-nil}
use Prim.Native.Nat.{ℕ, zero, suc, ◌+◌, ◌≤◌, ◌<◌}
use native.Mathlib.Omega.{arith}
use lib.Dec.{eqb}
use lib.ListN.{length, get_or, take, length-append}
use lib.Seq.{take_at, take-suc}
use Rattle.regions.proofs.Cases.{below_or_not}
use Rattle.graph.specs.Edges.{listed, Graph, entries}
use Rattle.hops.specs.Sum.{sum_over, times}
use Rattle.hops.proofs.Sums.{eq_or_ne, eqb_yes, eqb_no, same_yes, same_no}
use Rattle.predecessors.specs.Order.{admit, joined, entries_of, levels, order}

-- ---- what a list holds

pub listed_not : (l : List ℕ) (x : ℕ) → times x l ≡ 0 → listed x l ≡ false
unfolding listed sum_over
listed_not [] x e = refl
listed_not (y ∷ ys) x e = go (eq_or_ne y x) (listed_not ys x)
  where
    go : (y ≡ x) ⊎ (y ≢ x) → (times x ys ≡ 0 → listed x ys ≡ false) → (eqb y x || listed x ys) ≡ false
    go (inl p) ih = absurd (omega (arith, same_yes p))
    go (inr n) ih = ap (λ (b : Bool). b || listed x ys) (eqb_no n) ∙ ih (omega (arith, same_no n))

pub listed_it : (l : List ℕ) (x : ℕ) → 0 < times x l → listed x l ≡ true
unfolding listed sum_over
listed_it [] x h = absurd (omega arith)
listed_it (y ∷ ys) x h = go (eq_or_ne y x) (listed_it ys x)
  where
    go : (y ≡ x) ⊎ (y ≢ x) → (0 < times x ys → listed x ys ≡ true) → (eqb y x || listed x ys) ≡ true
    go (inl p) ih = ap (λ (b : Bool). b || listed x ys) (eqb_yes p)
    go (inr n) ih = ap (λ (b : Bool). b || listed x ys) (eqb_no n) ∙ ih (omega (arith, same_no n))

-- ---- joining

-- b begins with a
record Begins (a b : List ℕ) : Type 0 where
  rest : List ℕ
  is : b ≡ a ++ rest

begins : {a b : List ℕ} (r : List ℕ) → b ≡ a ++ r → Begins a b
begins r e = record { rest = r; is = e }

begins_long : {a b : List ℕ} → Begins a b → length a ≤ length b
begins_long {a} {b} p = omega (arith, ap length p.is, length-append a p.rest)

begins_same : {a b : List ℕ} → Begins a b → length b ≤ length a → b ≡ a
begins_same {a} {b} p h = go p.rest p.is
  where
    go : (r : List ℕ) → b ≡ a ++ r → b ≡ a
    go [] e = e ∙ append-nil a
    go (x ∷ r) e = absurd (omega (arith, ap length e, length-append a (x ∷ r)))

begins_take : {a b : List ℕ} → Begins a b → take (length a) b ≡ a
begins_take {a} {b} p = ap (take (length a)) p.is ∙ take_at a p.rest (length a) refl

admit_begins : (l : List ℕ) (x : ℕ) → Begins l (admit l x)
admit_begins l x = go (listed x l)
  where
    go : (b : Bool) → Begins l (cond b l (l ++ (x ∷ [])))
    go true = begins [] (sym (append-nil l))
    go false = begins (x ∷ []) refl

joined_begins : (l xs : List ℕ) → Begins l (joined l xs)
joined_begins l [] = begins [] (sym (append-nil l))
joined_begins l (x ∷ xs) =
    let a = admit_begins l x in
    let b = joined_begins (admit l x) xs in
    begins (a.rest ++ b.rest) (b.is ∙ ap (λ (t : List ℕ). t ++ b.rest) a.is ∙ append_assoc l a.rest b.rest)

pub joined_append : (l xs ys : List ℕ) → joined l (xs ++ ys) ≡ joined (joined l xs) ys
joined_append l xs ys = foldl-append admit l xs ys

-- one number more: it comes to the end, or is held already
pub joined_new : (l q xs : List ℕ) (x : ℕ) → q ≡ joined l xs → times x q ≡ 0 → q ++ (x ∷ []) ≡ joined l (xs ++ (x ∷ []))
joined_new l q xs x e n =
    sym (ap (λ (b : Bool). cond b q (q ++ (x ∷ []))) (listed_not q x n)) ∙ ap (λ (t : List ℕ). admit t x) e ∙ sym (joined_append l xs (x ∷ []))

pub joined_old : (l q xs : List ℕ) (x : ℕ) → q ≡ joined l xs → 0 < times x q → q ≡ joined l (xs ++ (x ∷ []))
joined_old l q xs x e n =
    sym (ap (λ (b : Bool). cond b q (q ++ (x ∷ []))) (listed_it q x n)) ∙ ap (λ (t : List ℕ). admit t x) e ∙ sym (joined_append l xs (x ∷ []))

-- ---- the entries of a list's nodes

pub entries_append : (g : Graph) (xs ys : List ℕ) → entries_of g (xs ++ ys) ≡ entries_of g xs ++ entries_of g ys
unfolding entries_of
entries_append g [] ys = refl
entries_append g (x ∷ xs) ys = ap (λ (t : List ℕ). entries g x ++ t) (entries_append g xs ys) ∙ sym (append_assoc (entries g x) (entries_of g xs) (entries_of g ys))

-- with one node more
pub entries_more : (g : Graph) (q : List ℕ) (k : ℕ) → k < length q → entries_of g (take (k + 1) q) ≡ entries_of g (take k q) ++ entries g (get_or q k 0)
unfolding entries_of
entries_more g q k h =
    let one : k + 1 ≡ suc k = omega arith in
    ap (λ (i : ℕ). entries_of g (take i q)) one
    ∙ ap (entries_of g) (take-suc q k 0 h)
    ∙ entries_append g (take k q) (get_or q k 0 ∷ [])
    ∙ ap (λ (t : List ℕ). entries_of g (take k q) ++ t) (append-nil (entries g (get_or q k 0)))

-- the nodes within k hops are the queue's first, and more than k, or all
abbrev Level : Graph → ℕ → List ℕ → ℕ → Type 0
Level g s q k = Begins (levels g s k) q × ((k < length (levels g s k)) ⊎ (levels g s k ≡ q))

-- ---- a queue to which its own nodes' entries have come, each node before its entries, is the order

module _ (g : Graph) (s : ℕ) (q : List ℕ) (come : q ≡ joined (s ∷ []) (entries_of g q)) (ahead : (k : ℕ) → k < length q → k < length (joined (s ∷ []) (entries_of g (take k q)))) where
  level : (k : ℕ) → Level g s q k
  unfolding levels
  level zero = (subst (λ (t : List ℕ). Begins (s ∷ []) t) (sym come) (joined_begins (s ∷ []) (entries_of g q)), inl (omega arith))
  level (suc k) = up (level k)
    where
      up : Level g s q k → Level g s q (suc k)
      up (b, far) = (next, go far)
        where
          next : Begins (joined (s ∷ []) (entries_of g (levels g s k))) q
          next =
              subst (λ (t : List ℕ). Begins (joined (s ∷ []) (entries_of g (levels g s k))) t)
              (sym (come ∙ ap (λ (t : List ℕ). joined (s ∷ []) (entries_of g t)) b.is ∙ ap (joined (s ∷ [])) (entries_append g (levels g s k) b.rest) ∙ joined_append (s ∷ []) (entries_of g (levels g s k)) (entries_of g b.rest)))
              (joined_begins (joined (s ∷ []) (entries_of g (levels g s k))) (entries_of g b.rest))

          all : levels g s k ≡ q → (joined (s ∷ []) (entries_of g (levels g s k))) ≡ q
          all e = ap (λ (t : List ℕ). joined (s ∷ []) (entries_of g t)) e ∙ sym come

          grows : k < length (levels g s k) → length (levels g s k) < length q → suc k < length (joined (s ∷ []) (entries_of g (levels g s k)))
          grows h l =
              let a : length (levels g s k) < length (joined (s ∷ []) (entries_of g (take (length (levels g s k)) q))) = ahead (length (levels g s k)) l in
              let e : take (length (levels g s k)) q ≡ levels g s k = begins_take b in
              let f : length (joined (s ∷ []) (entries_of g (take (length (levels g s k)) q))) ≡ length (joined (s ∷ []) (entries_of g (levels g s k))) = ap (λ (t : List ℕ). length (joined (s ∷ []) (entries_of g t))) e in
              omega arith

          go : (k < length (levels g s k)) ⊎ (levels g s k ≡ q) → (suc k < length (joined (s ∷ []) (entries_of g (levels g s k)))) ⊎ ((joined (s ∷ []) (entries_of g (levels g s k))) ≡ q)
          go (inr e) = inr (all e)
          go (inl h) = pick (below_or_not (length (levels g s k)) (length q))
            where
              pick : (length (levels g s k) < length q) ⊎ (length q ≤ length (levels g s k)) → (suc k < length (joined (s ∷ []) (entries_of g (levels g s k)))) ⊎ ((joined (s ∷ []) (entries_of g (levels g s k))) ≡ q)
              pick (inl l) = inl (grows h l)
              pick (inr l) = inr (all (sym (begins_same b l)))

  pub queue_order : length q ≤ g.nodes → q ≡ order g s
  queue_order h = go (level g.nodes)
    where
      go : Level g s q g.nodes → q ≡ order g s
      go (b, inl l) = absurd (omega (arith, begins_long b))
      go (b, inr e) = sym e
