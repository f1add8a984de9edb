-- The numbers of pairs: different pairs with an entry have different numbers, below the number of row entries. Assumes nothing.
use mathlib.Core.Path.{◌≡◌, sym, ap, ◌∙◌}
use mathlib.Core.Logic.{◌≢◌, ◌⊎◌, inl, inr}
use mathlib.Core.Bool.{Bool, cond}
use mathlib.Core.List.Memᴰ
use mathlib.Core.List.{List, [], ◌∷◌, Memᴰ}
use Prim.Native.Nat.{ℕ, zero, suc, ◌+◌, ◌-◌, ◌≤◌, ◌<◌}
use native.Mathlib.Omega.{arith}
use lib.ListN.{length, get_or}
use Rattle.graph.specs.Edges.{Graph, entries}
use Rattle.hops.specs.Search.{RowsOf}
use Rattle.hops.proofs.Sums.{eq_or_ne, eqb_yes, eqb_no}
use Rattle.regions.proofs.Cases.{below_or_not}
use Rattle.pairs.specs.Numbers.{first_at, number_in}

-- ---- the first x of a list

pub first_hit : (x y : ℕ) (ys : List ℕ) → y ≡ x → first_at x (y ∷ ys) ≡ 0
unfolding first_at
first_hit x y ys e = ap (λ (b : Bool). cond b 0 (suc (first_at x ys))) (eqb_yes e)

pub first_miss : (x y : ℕ) (ys : List ℕ) → y ≢ x → first_at x (y ∷ ys) ≡ suc (first_at x ys)
unfolding first_at
first_miss x y ys n = ap (λ (b : Bool). cond b 0 (suc (first_at x ys))) (eqb_no n)

rest_mem : {x y : ℕ} {ys : List ℕ} → y ≢ x → Memᴰ x (y ∷ ys) → Memᴰ x ys
rest_mem n (Memᴰ.head e) = absurd (n (sym e))
rest_mem n (Memᴰ.tail m) = m

-- it stands in the list
pub first_below : (x : ℕ) (ys : List ℕ) → Memᴰ x ys → first_at x ys < length ys
first_below x [] m = absurd (Memᴰ.not-nil m)
first_below x (y ∷ ys) m = go (eq_or_ne y x) (first_below x ys)
  where
    go : (y ≡ x) ⊎ (y ≢ x) → (Memᴰ x ys → first_at x ys < length ys) → first_at x (y ∷ ys) < length (y ∷ ys)
    go (inl e) ih = omega (arith, first_hit x y ys e)
    go (inr n) ih = omega (arith, first_miss x y ys n, ih (rest_mem n m))

-- and is x
pub first_is : (x : ℕ) (ys : List ℕ) → Memᴰ x ys → get_or ys (first_at x ys) 0 ≡ x
first_is x [] m = absurd (Memᴰ.not-nil m)
first_is x (y ∷ ys) m = go (eq_or_ne y x) (first_is x ys)
  where
    go : (y ≡ x) ⊎ (y ≢ x) → (Memᴰ x ys → get_or ys (first_at x ys) 0 ≡ x) → get_or (y ∷ ys) (first_at x (y ∷ ys)) 0 ≡ x
    go (inl e) ih = ap (λ (i : ℕ). get_or (y ∷ ys) i 0) (first_hit x y ys e) ∙ e
    go (inr n) ih = ap (λ (i : ℕ). get_or (y ∷ ys) i 0) (first_miss x y ys n) ∙ ih (rest_mem n m)

-- ---- the numbers

module _ {g : Graph} {w : List ℕ} {top : ℕ} (R : RowsOf g w top) where
  rise_by : (v k : ℕ) → v + k ≤ g.nodes → get_or w v 0 ≤ get_or w (v + k) 0
  rise_by v zero h = let e : v + 0 ≡ v = omega arith in omega (arith, ap (λ (i : ℕ). get_or w i 0) e)
  rise_by v (suc k) h =
      let e : v + suc k ≡ v + k + 1 = omega arith in
      omega (arith, rise_by v k (omega arith), R.long (v + k) (omega arith), ap (λ (i : ℕ). get_or w i 0) e)

  -- the offsets of the rows rise
  pub rows_rise : (v a : ℕ) → v ≤ a → a ≤ g.nodes → get_or w v 0 ≤ get_or w a 0
  rows_rise v a l h =
      let e : v + (a - v) ≡ a = omega arith in
      omega (arith, rise_by v (a - v) (omega arith), ap (λ (i : ℕ). get_or w i 0) e)

  -- a row ends before a later one begins
  pub row_before : (v a : ℕ) → v < a → a ≤ g.nodes → get_or w v 0 + length (entries g v) ≤ get_or w a 0
  row_before v a l h = omega (arith, R.long v (omega arith), rows_rise (v + 1) a (omega arith) h)

  pub number_below : (v x : ℕ) → v < g.nodes → Memᴰ x (entries g v) → number_in w g v x < get_or w g.nodes 0
  number_below v x h m = omega (arith, first_below x (entries g v) m, row_before v g.nodes h (omega arith))

  row_of : (v x a b : ℕ) → v < g.nodes → a < g.nodes → Memᴰ x (entries g v) → Memᴰ b (entries g a) → number_in w g v x ≡ number_in w g a b → v < a → ⊥
  row_of v x a b hv ha mx mb e l = omega (arith, e, first_below x (entries g v) mx, row_before v a l (omega arith))

  same_row : (v x a b : ℕ) → v < g.nodes → a < g.nodes → Memᴰ x (entries g v) → Memᴰ b (entries g a) → number_in w g v x ≡ number_in w g a b → v ≡ a
  same_row v x a b hv ha mx mb e = go (eq_or_ne v a)
    where
      apart : (v < a) ⊎ (a ≤ v) → v ≢ a → v ≡ a
      apart (inl l) n = absurd (row_of v x a b hv ha mx mb e l)
      apart (inr l) n = absurd (row_of a b v x ha hv mb mx (sym e) (omega arith))

      go : (v ≡ a) ⊎ (v ≢ a) → v ≡ a
      go (inl q) = q
      go (inr n) = apart (below_or_not v a) n

  pub number_injective : (v x a b : ℕ) → v < g.nodes → a < g.nodes → Memᴰ x (entries g v) → Memᴰ b (entries g a) → number_in w g v x ≡ number_in w g a b → (v ≡ a) × (x ≡ b)
  number_injective v x a b hv ha mx mb e = (q, sym (first_is x (entries g v) mx) ∙ ap (λ (i : ℕ). get_or (entries g v) i 0) places ∙ ap (λ (u : ℕ). get_or (entries g u) (first_at b (entries g a)) 0) q ∙ first_is b (entries g a) mb)
    where
      q : v ≡ a
      q = same_row v x a b hv ha mx mb e

      places : first_at x (entries g v) ≡ first_at b (entries g a)
      places = omega (arith, e, ap (λ (u : ℕ). get_or w u 0) q)
