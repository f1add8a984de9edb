-- Laws of sums over a list, and over every number below n. Assumes nothing.
use mathlib.Core.Path.{◌≡◌, refl, sym, ap, ap₂, ◌∙◌, subst}
use mathlib.Core.Logic.{◌≢◌, ◌⊎◌, inl, inr}
use mathlib.Core.Bool.{Bool, true, false}
use mathlib.Core.List.{List, [], ◌∷◌, ◌++◌, Memᴰ}
use Prim.Native.Nat.{ℕ, zero, suc, ◌+◌, ◌*◌, ◌≤◌, ◌<◌}
use native.Mathlib.Nat.{add-zero, zero-add, add_assoc, zero-mul, mul-one, one-mul, add-mul, eq-zero-or-pos}
use native.Mathlib.Omega.{arith}
use Rattle.std.proofs.lemmas.Bool.{eq-eqb, ne_eqb}
use lib.Dec.{T, eqb}
use lib.ListN.{length}
use Rattle.regions.proofs.Cases.{same_or_not}
use Rattle.hops.specs.Sum.{sum_over, below, only_if, same, times}

-- ---- tests

pub eq_or_ne : (x y : ℕ) → (x ≡ y) ⊎ (x ≢ y)
eq_or_ne x y = same_or_not x y

pub T_true : (b : Bool) → T b → b ≡ true
T_true true t = refl
T_true false t = absurd t

pub eqb_yes : {x y : ℕ} → x ≡ y → eqb x y ≡ true
eqb_yes {x} {y} p = eq-eqb x y p

pub eqb_no : {x y : ℕ} → x ≢ y → eqb x y ≡ false
eqb_no {x} {y} q = ne_eqb x y q

pub same_yes : {x y : ℕ} → x ≡ y → same x y ≡ 1
unfolding same
same_yes p = ap (λ (b : Bool). only_if b 1) (eqb_yes p)

pub same_no : {x y : ℕ} → x ≢ y → same x y ≡ 0
unfolding same
same_no q = ap (λ (b : Bool). only_if b 1) (eqb_no q)

pub same_comm : (x y : ℕ) → same x y ≡ same y x
same_comm x y = go (eq_or_ne x y)
  where
    go : (x ≡ y) ⊎ (x ≢ y) → same x y ≡ same y x
    go (inl p) = same_yes p ∙ sym (same_yes (sym p))
    go (inr q) = same_no q ∙ sym (same_no (λ p. q (sym p)))

pub same_pos : (x y : ℕ) → 0 < same x y → x ≡ y
same_pos x y h = go (eq_or_ne x y)
  where
    go : (x ≡ y) ⊎ (x ≢ y) → x ≡ y
    go (inl p) = p
    go (inr q) = absurd (omega (arith, same_no q))

-- ---- sums

pub sum_cong : (xs : List ℕ) {f g : ℕ → ℕ} → ((x : ℕ) → f x ≡ g x) → sum_over xs f ≡ sum_over xs g
unfolding sum_over
sum_cong [] e = refl
sum_cong (x ∷ xs) e = ap₂ ◌+◌ (e x) (sum_cong xs e)

-- the terms need agree only at numbers below n
pub below_cong : (n : ℕ) {f g : ℕ → ℕ} → ((x : ℕ) → x < n → f x ≡ g x) → sum_over (below n) f ≡ sum_over (below n) g
unfolding sum_over below
below_cong zero e = refl
below_cong (suc n) e = ap₂ ◌+◌ (e n (omega arith)) (below_cong n (λ x h. e x (omega arith)))

pub sum_zero : (xs : List ℕ) → sum_over xs (λ x. 0) ≡ 0
unfolding sum_over
sum_zero [] = refl
sum_zero (x ∷ xs) = zero-add _ ∙ sum_zero xs

pub sum_append : (xs ys : List ℕ) (f : ℕ → ℕ) → sum_over (xs ++ ys) f ≡ sum_over xs f + sum_over ys f
unfolding sum_over
sum_append [] ys f = sym (zero-add _)
sum_append (x ∷ xs) ys f = ap (λ (s : ℕ). f x + s) (sum_append xs ys f) ∙ sym (add_assoc _ _ _)

pub sum_add : (xs : List ℕ) (f g : ℕ → ℕ) → sum_over xs (λ x. f x + g x) ≡ sum_over xs f + sum_over xs g
unfolding sum_over
sum_add [] f g = refl
sum_add (x ∷ xs) f g = omega (arith, sum_add xs f g)

pub sum_mul : (xs : List ℕ) (f : ℕ → ℕ) (c : ℕ) → sum_over xs (λ x. f x * c) ≡ sum_over xs f * c
unfolding sum_over
sum_mul [] f c = sym (zero-mul c)
sum_mul (x ∷ xs) f c = ap (λ (s : ℕ). f x * c + s) (sum_mul xs f c) ∙ sym (add-mul _ _ _)

-- two sums change places
pub sum_swap : (xs ys : List ℕ) (f : ℕ → ℕ → ℕ) → sum_over xs (λ x. sum_over ys (λ y. f x y)) ≡ sum_over ys (λ y. sum_over xs (λ x. f x y))
unfolding sum_over
sum_swap [] ys f = sym (sum_zero ys)
sum_swap (x ∷ xs) ys f = ap (λ (s : ℕ). sum_over ys (f x) + s) (sum_swap xs ys f) ∙ sym (sum_add ys (f x) (λ y. sum_over xs (λ z. f z y)))

-- at most one number below n is a, and none where n ≤ a
pub none_below : (n a : ℕ) (f : ℕ → ℕ) → n ≤ a → sum_over (below n) (λ v. same a v * f v) ≡ 0
unfolding sum_over below
none_below zero a f h = refl
none_below (suc n) a f h =
    let p : same a n ≡ 0 = same_no (omega arith) in
    rw p (zero_mul' (f n) (none_below n a f (omega arith)))
  where
    zero_mul' : (x : ℕ) {s : ℕ} → s ≡ 0 → 0 * x + s ≡ 0
    zero_mul' x e = omega (arith, zero-mul x)

-- the sum of f over the numbers below n that are a is f a
pub sum_same : (n a : ℕ) (f : ℕ → ℕ) → a < n → sum_over (below n) (λ v. same a v * f v) ≡ f a
unfolding sum_over below
sum_same zero a f h = omega arith
sum_same (suc n) a f h = go (sum_same n a f) (eq_or_ne a n)
  where
    go : (a < n → sum_over (below n) (λ v. same a v * f v) ≡ f a) → (a ≡ n) ⊎ (a ≢ n) → same a n * f n + sum_over (below n) (λ v. same a v * f v) ≡ f a
    go ih (inl p) = ap₂ ◌+◌ (ap₂ ◌*◌ (same_yes p) (ap f (sym p)) ∙ one-mul (f a)) (none_below n a f (omega arith)) ∙ add-zero (f a)
    go ih (inr q) = ap₂ ◌+◌ (ap (λ (s : ℕ). s * f n) (same_no q) ∙ zero-mul (f n)) (ih (omega arith)) ∙ zero-add (f a)

-- a sum that is not 0 has a term that is not 0
pub below_some : (n : ℕ) (f : ℕ → ℕ) → 0 < sum_over (below n) f → (v : ℕ) × (v < n) × (0 < f v)
unfolding sum_over below
below_some zero f h = absurd (omega arith)
below_some (suc n) f h = go (eq-zero-or-pos (f n)) (below_some n f)
  where
    go : (f n ≡ 0) ⊎ (0 < f n) → (0 < sum_over (below n) f → (v : ℕ) × (v < n) × (0 < f v)) → (v : ℕ) × (v < suc n) × (0 < f v)
    go (inl p) ih = let r = ih (omega arith) in (r.0, omega arith, r.2)
    go (inr q) ih = (n, omega arith, q)

-- and one with a term that is not 0 is not 0
pub below_pos : (n : ℕ) (f : ℕ → ℕ) (v : ℕ) → v < n → 0 < f v → 0 < sum_over (below n) f
unfolding sum_over below
below_pos zero f v h p = omega arith
below_pos (suc n) f v h p = go (eq_or_ne v n) (below_pos n f v)
  where
    go : (v ≡ n) ⊎ (v ≢ n) → (v < n → 0 < f v → 0 < sum_over (below n) f) → 0 < f n + sum_over (below n) f
    go (inl e) ih = let q : 0 < f n = subst (λ (x : ℕ). 0 < f x) e p in omega arith
    go (inr e) ih = let q : 0 < sum_over (below n) f = ih (omega arith) p in omega arith

-- terms that are each at most 1, and at least 1
pub below_le : (n : ℕ) (f : ℕ → ℕ) → ((v : ℕ) → v < n → f v ≤ 1) → sum_over (below n) f ≤ n
unfolding sum_over below
below_le zero f h = omega arith
below_le (suc n) f h = omega (arith, h n (omega arith), below_le n f (λ v k. h v (omega arith)))

pub below_mono : (n : ℕ) (f g : ℕ → ℕ) → ((v : ℕ) → v < n → f v ≤ g v) → sum_over (below n) f ≤ sum_over (below n) g
unfolding sum_over below
below_mono zero f g h = omega arith
below_mono (suc n) f g h = omega (arith, h n (omega arith), below_mono n f g (λ v k. h v (omega arith)))

pub below_ge : (n : ℕ) (f : ℕ → ℕ) → ((v : ℕ) → v < n → 0 < f v) → n ≤ sum_over (below n) f
unfolding sum_over below
below_ge zero f h = omega arith
below_ge (suc n) f h = omega (arith, h n (omega arith), below_ge n f (λ v k. h v (omega arith)))

-- ---- how often a number stands in a list

pub sum_cong_mem : (xs : List ℕ) {f g : ℕ → ℕ} → ((x : ℕ) → Memᴰ x xs → f x ≡ g x) → sum_over xs f ≡ sum_over xs g
unfolding sum_over
sum_cong_mem [] e = refl
sum_cong_mem (x ∷ xs) e = ap₂ ◌+◌ (e x (Memᴰ.head refl)) (sum_cong_mem xs (λ y m. e y (Memᴰ.tail m)))

pub mem_times : (xs : List ℕ) (v : ℕ) → Memᴰ v xs → 0 < times v xs
unfolding sum_over
mem_times xs v m = go v xs m
  where
    go : (u : ℕ) (l : List ℕ) → Memᴰ u l → 0 < times u l
    go u l (Memᴰ.head {x} {xs = ys} e) = omega (arith, same_yes (sym e))
    go u l (Memᴰ.tail {x} {xs = ys} m) = omega (arith, go u ys m)

pub times_mem : (xs : List ℕ) (v : ℕ) → 0 < times v xs → Memᴰ v xs
unfolding sum_over
times_mem [] v h = absurd (omega arith)
times_mem (x ∷ xs) v h = go (eq_or_ne x v) (times_mem xs v)
  where
    go : (x ≡ v) ⊎ (x ≢ v) → (0 < times v xs → Memᴰ v xs) → Memᴰ v (x ∷ xs)
    go (inl e) ih = Memᴰ.head (sym e)
    go (inr n) ih = Memᴰ.tail (ih (omega (arith, same_no n)))

pub times_none : (xs : List ℕ) (v : ℕ) → ¬ Memᴰ v xs → times v xs ≡ 0
times_none xs v n = go (eq-zero-or-pos (times v xs))
  where
    go : (times v xs ≡ 0) ⊎ (0 < times v xs) → times v xs ≡ 0
    go (inl z) = z
    go (inr z) = absurd (n (times_mem xs v z))

-- one more at the end
pub times_snoc : (xs : List ℕ) (x v : ℕ) → times v (xs ++ (x ∷ [])) ≡ times v xs + same x v
unfolding sum_over
times_snoc xs x v = sum_append xs (x ∷ []) (λ w. same w v) ∙ ap (λ (t : ℕ). times v xs + t) (add-zero (same x v))

-- a sum over a list of numbers below n, number by number
pub sum_times : (n : ℕ) (xs : List ℕ) (f : ℕ → ℕ) → ((x : ℕ) → Memᴰ x xs → x < n) → sum_over xs f ≡ sum_over (below n) (λ v. times v xs * f v)
sum_times n xs f h =
    sum_cong_mem xs (λ x m. sym (sum_same n x f (h x m)))
    ∙ sum_swap xs (below n) (λ x v. same x v * f v)
    ∙ sum_cong (below n) (λ v. sum_mul xs (λ x. same x v) (f v))

pub sum_length : (xs : List ℕ) → sum_over xs (λ x. 1) ≡ length xs
unfolding sum_over
sum_length [] = refl
sum_length (x ∷ xs) = omega (arith, sum_length xs)

-- no number stands twice, and x not at all: the list is shorter than n
pub below_lt : (n : ℕ) (f : ℕ → ℕ) → ((v : ℕ) → v < n → f v ≤ 1) → (x : ℕ) → x < n → f x ≡ 0 → sum_over (below n) f < n
unfolding sum_over below
below_lt zero f h x l e = omega arith
below_lt (suc n) f h x l e = go (eq_or_ne x n) (below_lt n f (λ v k. h v (omega arith)) x)
  where
    go : (x ≡ n) ⊎ (x ≢ n) → (x < n → f x ≡ 0 → sum_over (below n) f < n) → f n + sum_over (below n) f < suc n
    go (inl p) ih = omega (arith, ap f p, below_le n f (λ v k. h v (omega arith)))
    go (inr q) ih = omega (arith, ih (omega arith) e, h n (omega arith))

pub not_long : (n : ℕ) (xs : List ℕ) → ((x : ℕ) → Memᴰ x xs → x < n) → ((v : ℕ) → v < n → times v xs ≤ 1) → length xs ≤ n
not_long n xs inside once =
    omega (arith, sum_length xs, sum_times n xs (λ v. 1) inside, sum_cong (below n) (λ v. mul-one (times v xs)), below_le n (λ v. times v xs) once)

pub short : (n : ℕ) (xs : List ℕ) → ((x : ℕ) → Memᴰ x xs → x < n) → ((v : ℕ) → v < n → times v xs ≤ 1) → (x : ℕ) → x < n → times x xs ≡ 0 → length xs < n
short n xs inside once x hx z =
    omega (arith, sum_length xs, sum_times n xs (λ v. 1) inside, sum_cong (below n) (λ v. mul-one (times v xs)), below_lt n (λ v. times v xs) once x hx z)
