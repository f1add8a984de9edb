-- Delta: it changes only at predecessors, and does not depend on the order of a node's predecessor entries. Assumes nothing.
use Rattle.std.proofs.Common.{◌≡◌, ℕ, ◌+◌, ◌≢◌, ◌⊎◌, List, [], ◌∷◌, get_or, set, sym, refl, ap, ◌∙◌, ap₂, inl, inr, get_or-set_other}
use mathlib.Core.List.{foldl, foldr, Memᴰ, Permᴰ}
use lib.Seq.{set_comm}
use lib.Ieee.{Float, nan, binary64, add}
use Rattle.regions.specs.Doubles.{one}
use Rattle.graph.specs.Edges.{Graph}
use Rattle.hops.proofs.Sums.{eq_or_ne, eqb_no}
use Rattle.predecessors.specs.Order.{entered}
use Rattle.brandes.specs.Shares.{share, grow, Sums, passed, leave}

-- ---- where delta stays

fold_off : (f : ℕ → Float) (v : ℕ) (vs : List ℕ) → ((y : ℕ) → Memᴰ y vs → v ≢ y) → (d : List Float) → get_or (foldl (λ e y. grow e y (f y)) d vs) v nan ≡ get_or d v nan
fold_off f v [] h d = refl
fold_off f v (y ∷ vs) h d =
    fold_off f v vs (λ z m. h z (Memᴰ.tail m)) (grow d y (f y)) ∙ get_or-set_other d y v _ nan (h y (Memᴰ.head refl))

-- a node that is no predecessor of the nodes that leave keeps its delta
pub delta_off : (ways : ℕ → Float) (lists : ℕ → List ℕ) (s v : ℕ) (ws : List ℕ) → ((w : ℕ) → Memᴰ w ws → (y : ℕ) → Memᴰ y (lists w) → v ≢ y) → (x : Sums)
    → get_or (foldr (leave ways lists s) x ws).delta v nan ≡ get_or x.delta v nan
unfolding leave passed
delta_off ways lists s v [] h x = refl
delta_off ways lists s v (w ∷ ws) h x =
    let before = (foldr (leave ways lists s) x ws).delta in
    fold_off (λ y. share (ways y) (ways w) (add binary64 one (get_or before w nan))) v (lists w) (h w (Memᴰ.head refl)) before
    ∙ delta_off ways lists s v ws (λ u m. h u (Memᴰ.tail m)) x

-- a node has no predecessors where none of the nodes is one hop nearer
pub entered_none : (g : Graph) (d : ℕ → ℕ) (w : ℕ) (vs : List ℕ) → ((v : ℕ) → Memᴰ v vs → d v + 1 ≢ d w) → entered g d w vs ≡ []
unfolding entered
entered_none g d w [] h = refl
entered_none g d w (v ∷ vs) h = simp (eqb_no (h v (Memᴰ.head refl))) (entered_none g d w vs (λ u m. h u (Memᴰ.tail m)))

-- ---- the order of the entries

-- different predecessors are different places, and equal ones take equal shares
grow_swap : (f : ℕ → Float) (d : List Float) (u v : ℕ) → grow (grow d u (f u)) v (f v) ≡ grow (grow d v (f v)) u (f u)
grow_swap f d u v = go (eq_or_ne u v)
  where
    go : (u ≡ v) ⊎ (u ≢ v) → grow (grow d u (f u)) v (f v) ≡ grow (grow d v (f v)) u (f u)
    go (inl e) = ap₂ (λ (a b : ℕ). grow (grow d a (f a)) b (f b)) e (sym e)
    go (inr n) =
        ap (λ (z : Float). set (grow d u (f u)) v (add binary64 z (f v))) (get_or-set_other d u v _ nan (λ e. n (sym e)))
        ∙ set_comm d u v _ _ n
        ∙ ap (λ (z : Float). set (grow d v (f v)) u (add binary64 z (f u))) (sym (get_or-set_other d v u _ nan n))

fold_perm : (f : ℕ → Float) {us vs : List ℕ} → Permᴰ us vs → (d : List Float) → foldl (λ e y. grow e y (f y)) d us ≡ foldl (λ e y. grow e y (f y)) d vs
fold_perm f Permᴰ.nil d = refl
fold_perm f (Permᴰ.cons {a} {b} {l₁} {l₂} e p) d = fold_perm f p (grow d a (f a)) ∙ ap (λ (y : ℕ). foldl (λ e y. grow e y (f y)) (grow d y (f y)) l₂) e
fold_perm f (Permᴰ.swap {a} {b} {a'} {b'} {l} p q) d =
    ap (λ (t : List Float). foldl (λ e y. grow e y (f y)) t l) (grow_swap f d a b ∙ ap₂ (λ (x y : ℕ). grow (grow d x (f x)) y (f y)) q p)
fold_perm f (Permᴰ.trans p q) d = fold_perm f p d ∙ fold_perm f q d

-- delta does not depend on the order of a node's predecessor entries
pub any_order : (ways : ℕ → Float) (lists lists' : ℕ → List ℕ) (w : ℕ) → Permᴰ (lists w) (lists' w) → (delta : List Float) → passed ways lists w delta ≡ passed ways lists' w delta
unfolding passed
any_order ways lists lists' w p delta = fold_perm (λ v. share (ways v) (ways w) (add binary64 one (get_or delta w nan))) p delta
