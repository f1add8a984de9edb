-- The predecessor entries entered so far: with one entry more, with a node done, how many there can be. Assumes nothing.
use mathlib.Core.Path.{◌≡◌, refl, sym, ap, ap₂, ◌∙◌}
use mathlib.Core.Logic.{◌≢◌, ◌⊎◌, inl, inr}
use mathlib.Core.Bool.{Bool, true, false, cond}
use mathlib.Core.List.Memᴰ
use mathlib.Core.List.{List, [], ◌∷◌, ◌++◌, append_assoc, append-nil, Memᴰ}
use Prim.Native.Nat.{ℕ, ◌+◌, ◌*◌, ◌≤◌, ◌<◌}
use native.Mathlib.Nat.{mul-le-mul_right, one-mul}
use native.Mathlib.Omega.{arith}
use lib.Dec.{eqb}
use lib.ListN.{length, length-append}
use Rattle.graph.specs.Edges.{Graph, entries, only}
use Rattle.hops.specs.Sum.{sum_over, below, only_if, same, times}
use Rattle.hops.proofs.Sums.{eq_or_ne, eqb_yes, eqb_no, sum_append, sum_times, below_mono}
use Rattle.predecessors.specs.Order.{copies, entered_by, entered}
use Rattle.predecessors.specs.Tracks.{leading, so_far}

-- ---- one node's entries

copies_append : (v w : ℕ) (xs ys : List ℕ) → copies v w (xs ++ ys) ≡ copies v w xs ++ copies v w ys
unfolding copies
copies_append v w [] ys = refl
copies_append v w (x ∷ xs) ys = ap (λ (t : List ℕ). only (eqb x w) v ++ t) (copies_append v w xs ys) ∙ sym (append_assoc (only (eqb x w) v) (copies v w xs) (copies v w ys))

copies_hit : (v w : ℕ) (xs : List ℕ) (x : ℕ) → x ≡ w → copies v w (xs ++ (x ∷ [])) ≡ copies v w xs ++ (v ∷ [])
unfolding copies
copies_hit v w xs x e = copies_append v w xs (x ∷ []) ∙ ap (λ (b : Bool). copies v w xs ++ (only b v ++ [])) (eqb_yes e)

copies_miss : (v w : ℕ) (xs : List ℕ) (x : ℕ) → x ≢ w → copies v w (xs ++ (x ∷ [])) ≡ copies v w xs
unfolding copies
copies_miss v w xs x n = copies_append v w xs (x ∷ []) ∙ ap (λ (b : Bool). copies v w xs ++ (only b v ++ [])) (eqb_no n) ∙ append-nil (copies v w xs)

copies_long : (v w : ℕ) (xs : List ℕ) → length (copies v w xs) ≡ times w xs
unfolding copies sum_over same
copies_long v w [] = refl
copies_long v w (x ∷ xs) = length-append (only (eqb x w) v) (copies v w xs) ∙ ap₂ ◌+◌ (go (eqb x w)) (copies_long v w xs)
  where
    go : (b : Bool) → length (only b v) ≡ only_if b 1
    go true = refl
    go false = refl

copies_mem : (v w : ℕ) (xs : List ℕ) (y : ℕ) → Memᴰ y (copies v w xs) → y ≡ v
unfolding copies
copies_mem v w [] y m = absurd (Memᴰ.not-nil m)
copies_mem v w (x ∷ xs) y m = go (Memᴰ.append_cases (only (eqb x w) v) m) (copies_mem v w xs y)
  where
    one : (b : Bool) → Memᴰ y (only b v) → y ≡ v
    one true k = Memᴰ.eq_of_singleton k
    one false k = absurd (Memᴰ.not-nil k)

    go : Memᴰ y (only (eqb x w) v) ⊎ Memᴰ y (copies v w xs) → (Memᴰ y (copies v w xs) → y ≡ v) → y ≡ v
    go (inl k) ih = one (eqb x w) k
    go (inr k) ih = ih k

-- ---- what a node enters

by_near : (d : ℕ → ℕ) (w v : ℕ) (seen : List ℕ) → d v + 1 ≡ d w → entered_by d w v seen ≡ copies v w seen
by_near d w v seen e = ap (λ (b : Bool). cond b (copies v w seen) []) (eqb_yes e)

by_far : (d : ℕ → ℕ) (w v : ℕ) (seen : List ℕ) → d v + 1 ≢ d w → entered_by d w v seen ≡ []
by_far d w v seen n = ap (λ (b : Bool). cond b (copies v w seen) []) (eqb_no n)

by_long : (d : ℕ → ℕ) (w v : ℕ) (seen : List ℕ) → length (entered_by d w v seen) ≤ times w seen
by_long d w v seen = go (eqb (d v + 1) (d w))
  where
    go : (b : Bool) → length (cond b (copies v w seen) []) ≤ times w seen
    go true = omega (arith, copies_long v w seen)
    go false = omega arith

pub by_mem : (d : ℕ → ℕ) (w v : ℕ) (seen : List ℕ) (y : ℕ) → Memᴰ y (entered_by d w v seen) → y ≡ v
by_mem d w v seen y = go (eqb (d v + 1) (d w))
  where
    go : (b : Bool) → Memᴰ y (cond b (copies v w seen) []) → y ≡ v
    go true m = copies_mem v w seen y m
    go false m = absurd (Memᴰ.not-nil m)

by_none : (d : ℕ → ℕ) (w v : ℕ) (seen : List ℕ) → seen ≡ [] → entered_by d w v seen ≡ []
unfolding copies
by_none d w v seen e = ap (entered_by d w v) e ∙ go (eqb (d v + 1) (d w))
  where
    go : (b : Bool) → ◌≡◌ {A = List ℕ} (cond b [] []) []
    go true = refl
    go false = refl

-- ---- what the nodes of a list enter

entered_append : (g : Graph) (d : ℕ → ℕ) (w : ℕ) (xs ys : List ℕ) → entered g d w (xs ++ ys) ≡ entered g d w xs ++ entered g d w ys
unfolding entered
entered_append g d w [] ys = refl
entered_append g d w (x ∷ xs) ys =
    ap (λ (t : List ℕ). entered_by d w x (entries g x) ++ t) (entered_append g d w xs ys) ∙ sym (append_assoc (entered_by d w x (entries g x)) (entered g d w xs) (entered g d w ys))

entered_long : (g : Graph) (d : ℕ → ℕ) (w : ℕ) (vs : List ℕ) → length (entered g d w vs) ≤ sum_over vs (λ v. times w (entries g v))
unfolding entered sum_over
entered_long g d w [] = omega arith
entered_long g d w (v ∷ vs) = omega (arith, length-append (entered_by d w v (entries g v)) (entered g d w vs), by_long d w v (entries g v), entered_long g d w vs)

pub entered_mem : (g : Graph) (d : ℕ → ℕ) (w : ℕ) (vs : List ℕ) (y : ℕ) → Memᴰ y (entered g d w vs) → Memᴰ y vs
unfolding entered
entered_mem g d w [] y m = m
entered_mem g d w (v ∷ vs) y m = go (Memᴰ.append_cases (entered_by d w v (entries g v)) m) (entered_mem g d w vs y)
  where
    go : Memᴰ y (entered_by d w v (entries g v)) ⊎ Memᴰ y (entered g d w vs) → (Memᴰ y (entered g d w vs) → Memᴰ y vs) → Memᴰ y (v ∷ vs)
    go (inl k) ih = Memᴰ.head (by_mem d w v (entries g v) y k)
    go (inr k) ih = Memᴰ.tail (ih k)

-- ---- so far

module _ (g : Graph) (d : ℕ → ℕ) (done : List ℕ) (u : ℕ) where
  -- an entry x that is one hop further: u once more among its predecessors, and no other node's change
  pub so_hit : (seen : List ℕ) (x : ℕ) → d u + 1 ≡ d x → so_far g d done u (seen ++ (x ∷ [])) x ≡ so_far g d done u seen x ++ (u ∷ [])
  so_hit seen x e =
      ap (λ (t : List ℕ). entered g d x done ++ t) (by_near d x u (seen ++ (x ∷ [])) e ∙ copies_hit u x seen x refl ∙ ap (λ (t : List ℕ). t ++ (u ∷ [])) (sym (by_near d x u seen e)))
      ∙ sym (append_assoc (entered g d x done) (entered_by d x u seen) (u ∷ []))

  pub so_miss : (seen : List ℕ) (x w : ℕ) → x ≢ w → so_far g d done u (seen ++ (x ∷ [])) w ≡ so_far g d done u seen w
  so_miss seen x w n = ap (λ (t : List ℕ). entered g d w done ++ cond (eqb (d u + 1) (d w)) t []) (copies_miss u w seen x n)

  -- an entry that is not: no change
  pub so_far_lem : (seen : List ℕ) (x : ℕ) → d u + 1 ≢ d x → (w : ℕ) → so_far g d done u (seen ++ (x ∷ [])) w ≡ so_far g d done u seen w
  so_far_lem seen x n w = go (eq_or_ne x w)
    where
      go : (x ≡ w) ⊎ (x ≢ w) → so_far g d done u (seen ++ (x ∷ [])) w ≡ so_far g d done u seen w
      go (inl e) =
          let f : d u + 1 ≢ d w = λ p. n (p ∙ ap d (sym e)) in
          ap (λ (t : List ℕ). entered g d w done ++ t) (by_far d w u (seen ++ (x ∷ [])) f ∙ sym (by_far d w u seen f))
      go (inr m) = so_miss seen x w m

  -- no entry seen
  pub so_none : (seen : List ℕ) (w : ℕ) → seen ≡ [] → so_far g d done u seen w ≡ entered g d w done
  so_none seen w e = ap (λ (t : List ℕ). entered g d w done ++ t) (by_none d w u seen e) ∙ append-nil (entered g d w done)

  -- all entries seen: the node is done
  pub so_done : (w : ℕ) → so_far g d done u (entries g u) w ≡ entered g d w (done ++ (u ∷ []))
  unfolding entered
  so_done w = sym (entered_append g d w done (u ∷ []) ∙ ap (λ (t : List ℕ). entered g d w done ++ t) (append-nil (entered_by d w u (entries g u))))

  -- there are no more than entries lead to w
  pub so_most : (seen : List ℕ) (w : ℕ) → times w seen ≤ times w (entries g u)
      → ((y : ℕ) → Memᴰ y (done ++ (u ∷ [])) → y < g.nodes) → ((v : ℕ) → v < g.nodes → times v (done ++ (u ∷ [])) ≤ 1)
      → length (so_far g d done u seen w) ≤ leading g w
  unfolding sum_over
  so_most seen w part nodes once =
      let f : ℕ → ℕ = λ v. times w (entries g v) in
      let m : sum_over (below g.nodes) (λ v. times v (done ++ (u ∷ [])) * f v) ≤ sum_over (below g.nodes) f = below_mono g.nodes (λ v. times v (done ++ (u ∷ [])) * f v) f (λ v hv. one v (once v hv)) in
      omega (
        arith,
        length-append (entered g d w done) (entered_by d w u seen),
        entered_long g d w done,
        by_long d w u seen,
        sum_append done (u ∷ []) f,
        sum_times g.nodes (done ++ (u ∷ [])) f nodes,
      )
    where
      one : (v : ℕ) → times v (done ++ (u ∷ [])) ≤ 1 → times v (done ++ (u ∷ [])) * times w (entries g v) ≤ times w (entries g v)
      one v h = let q : times v (done ++ (u ∷ [])) * times w (entries g v) ≤ 1 * times w (entries g v) = mul-le-mul_right (times w (entries g v)) h in omega (arith, one-mul (times w (entries g v)))
