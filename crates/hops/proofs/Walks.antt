-- Hop sequences split at any place, and turn round with the graph. Assumes nothing.
use mathlib.Core.Path.{◌≡◌, refl, sym, ap, ap₂, ◌∙◌, subst}
use mathlib.Core.Logic.{◌≢◌, ◌⊎◌, inl, inr}
use mathlib.Core.Bool.{Bool, true, false, not, ◌&&◌, cond}
use mathlib.Core.List.Memᴰ
use mathlib.Core.List.{List, [], ◌∷◌, ◌++◌, map, Memᴰ}
use Prim.Native.Nat.{ℕ, zero, suc, ◌+◌, ◌*◌, ◌<◌}
use native.Mathlib.Nat.{add-zero, zero-add, suc-add, mul-zero, zero-mul, one-mul, mul_comm, mul-pos}
use native.Mathlib.Omega.{arith}
use lib.Dec.{eqb}
use Rattle.graph.specs.Edges.{Edge, Graph, only, newest_first, gives_out, gives_in, neighbours, entries}
use Rattle.hops.specs.Sum.{sum_over, below, same, only_if}
use Rattle.hops.specs.Hops.{EndsIn, walks, turn, turned}
use Rattle.hops.proofs.Sums.{eq_or_ne, eqb_yes, eqb_no, same_no, same_comm, sum_cong, below_cong, sum_append, sum_mul, sum_swap, sum_same, below_pos}

-- the entries of v from edges that leave it, and from those that lead to it from another node
abbrev out_of : List Edge → ℕ → List ℕ
out_of es v = newest_first (gives_out v) es

abbrev in_to : List Edge → ℕ → List ℕ
in_to es v = newest_first (gives_in v) es

-- ---- entries are nodes

abbrev AllBelow : ℕ → List ℕ → Type 0
AllBelow n [] = Unit {0}
AllBelow n (x ∷ xs) = (x < n) × AllBelow n xs

all_append : (n : ℕ) (xs ys : List ℕ) → AllBelow n xs → AllBelow n ys → AllBelow n (xs ++ ys)
all_append n [] ys h k = k
all_append n (x ∷ xs) ys h k = (h.0, all_append n xs ys h.1 k)

all_only : {n : ℕ} (b : Bool) (x : ℕ) → x < n → AllBelow n (only b x)
all_only true x h = (h, tt)
all_only false x h = tt

out_below : (n : ℕ) (es : List Edge) (v : ℕ) → EndsIn n es → AllBelow n (out_of es v)
unfolding newest_first
out_below n [] v h = tt
out_below n (e ∷ es) v h = all_append n (out_of es v) _ (out_below n es v h.2) (all_only (eqb e.from v) e.to h.1)

in_below : (n : ℕ) (es : List Edge) (v : ℕ) → EndsIn n es → AllBelow n (in_to es v)
unfolding newest_first
in_below n [] v h = tt
in_below n (e ∷ es) v h = all_append n (in_to es v) _ (in_below n es v h.2) (all_only (eqb e.to v && not (eqb e.from v)) e.from h.0)

all_both : (n : ℕ) (b : Bool) (xs : List ℕ) → AllBelow n xs → AllBelow n (cond b [] xs)
all_both n true xs h = tt
all_both n false xs h = h

entries_below : (g : Graph) (v : ℕ) → EndsIn g.nodes g.edges → AllBelow g.nodes (entries g v)
unfolding neighbours
entries_below g v h = all_append g.nodes (out_of g.edges v) _ (out_below g.nodes g.edges v h) (all_both g.nodes g.directed _ (in_below g.nodes g.edges v h))

sum_cong_all : {n : ℕ} (xs : List ℕ) {f h : ℕ → ℕ} → AllBelow n xs → ((x : ℕ) → x < n → f x ≡ h x) → sum_over xs f ≡ sum_over xs h
unfolding sum_over
sum_cong_all [] a e = refl
sum_cong_all (x ∷ xs) a e = ap₂ ◌+◌ (e x a.0) (sum_cong_all xs a.1 e)

-- ---- a hop sequence of i + j hops is one of i hops to some node, and one of j hops from there

pub walks_split : (g : Graph) → EndsIn g.nodes g.edges → (i j a b : ℕ) → a < g.nodes
    → walks g (i + j) a b ≡ sum_over (below g.nodes) (λ v. walks g i a v * walks g j v b)
unfolding walks
walks_split g ok zero j a b h = rw zero-add (sym (sum_same g.nodes a (λ v. walks g j v b) h))
walks_split g ok (suc i) j a b h =
    rw suc-add
    (sum_cong_all (entries g a) (entries_below g a ok) (λ x k. walks_split g ok i j x b k)
    ∙ sum_swap (entries g a) (below g.nodes) (λ x v. walks g i x v * walks g j v b)
    ∙ sum_cong (below g.nodes) (λ v. sum_mul (entries g a) (λ x. walks g i x v) (walks g j v b)))

pub walks_via : (g : Graph) → EndsIn g.nodes g.edges → (i j a v b : ℕ) → a < g.nodes → v < g.nodes
    → 0 < walks g i a v → 0 < walks g j v b → 0 < walks g (i + j) a b
walks_via g ok i j a v b ha hv p q = rw (walks_split g ok i j a b ha) (below_pos g.nodes _ v hv (mul-pos p q))

-- ---- the edges turned round

-- how many edges lead from u to v
arcs : List Edge → ℕ → ℕ → ℕ
arcs [] u v = 0
arcs (e ∷ es) u v = arcs es u v + same e.from u * same e.to v

only_sum : (x y z v : ℕ) → sum_over (only (eqb x y) z) (λ w. same w v) ≡ same x y * same z v
unfolding same sum_over
only_sum x y z v = go (eqb x y)
  where
    go : (b : Bool) → sum_over (only b z) (λ w. same w v) ≡ only_if b 1 * same z v
    go true = add-zero _ ∙ sym (one-mul _)
    go false = sym (zero-mul _)

out_arcs : (es : List Edge) (u v : ℕ) → sum_over (out_of es u) (λ w. same w v) ≡ arcs es u v
unfolding newest_first sum_over arcs
out_arcs [] u v = refl
out_arcs (e ∷ es) u v = sum_append (out_of es u) _ _ ∙ ap₂ ◌+◌ (out_arcs es u v) (only_sum e.from u e.to v)

and_no : (t : Bool) → t && not true ≡ false
and_no true = refl
and_no false = refl

and_yes : (t : Bool) → t && not false ≡ t
and_yes true = refl
and_yes false = refl

-- what an edge x → y gives to u as an edge to it: nothing where it is from u, and else x where it is to u
back_self : {x u : ℕ} (y v : ℕ) → x ≡ u → sum_over (only (eqb y u && not (eqb x u)) x) (λ w. same w v) ≡ 0
unfolding sum_over
back_self {x} {u} y v p = ap (λ (b : Bool). sum_over (only (eqb y u && not b) x) (λ w. same w v)) (eqb_yes p) ∙ ap (λ (b : Bool). sum_over (only b x) (λ w. same w v)) (and_no (eqb y u))

back_other : {x u : ℕ} (y v : ℕ) → x ≢ u → sum_over (only (eqb y u && not (eqb x u)) x) (λ w. same w v) ≡ same y u * same x v
back_other {x} {u} y v q =
    ap (λ (b : Bool). sum_over (only (eqb y u && not b) x) (λ w. same w v)) (eqb_no q)
    ∙ ap (λ (b : Bool). sum_over (only b x) (λ w. same w v)) (and_yes (eqb y u))
    ∙ only_sum y u x v

-- at another node v, the edges to u that are not from u and give v are the edges from v to u
in_arcs : (es : List Edge) (u v : ℕ) → u ≢ v → sum_over (in_to es u) (λ w. same w v) ≡ arcs es v u
unfolding newest_first sum_over arcs
in_arcs [] u v q = refl
in_arcs (e ∷ es) u v q = sum_append (in_to es u) _ _ ∙ ap₂ ◌+◌ (in_arcs es u v q) (go (eq_or_ne e.from u))
  where
    go : (e.from ≡ u) ⊎ (e.from ≢ u) → sum_over (only (eqb e.to u && not (eqb e.from u)) e.from) (λ w. same w v) ≡ same e.from v * same e.to u
    go (inl p) = back_self e.to v p ∙ sym (ap (λ (s : ℕ). s * same e.to u) (same_no (λ k. q (sym p ∙ k))) ∙ zero-mul _)
    go (inr r) = back_other e.to v r ∙ mul_comm _ _

in_self : (es : List Edge) (u : ℕ) → sum_over (in_to es u) (λ w. same w u) ≡ 0
unfolding newest_first sum_over
in_self [] u = refl
in_self (e ∷ es) u = sum_append (in_to es u) _ _ ∙ ap₂ ◌+◌ (in_self es u) (go (eq_or_ne e.from u))
  where
    go : (e.from ≡ u) ⊎ (e.from ≢ u) → sum_over (only (eqb e.to u && not (eqb e.from u)) e.from) (λ w. same w u) ≡ 0
    go (inl p) = back_self e.to u p
    go (inr r) = back_other e.to u r ∙ ap (λ (s : ℕ). same e.to u * s) (same_no r) ∙ mul-zero _

arcs_turn : (es : List Edge) (u v : ℕ) → arcs (map turn es) v u ≡ arcs es u v
unfolding arcs
arcs_turn [] u v = refl
arcs_turn (e ∷ es) u v = ap₂ ◌+◌ (arcs_turn es u v) (mul_comm _ _)

-- the entries of u that are v, turned: the entries of v that are u
both_turn : (b : Bool) (es : List Edge) (u v : ℕ)
    → sum_over (out_of (map turn es) v ++ cond b [] (in_to (map turn es) v)) (λ w. same w u) ≡ sum_over (out_of es u ++ cond b [] (in_to es u)) (λ w. same w v)
unfolding sum_over
both_turn true es u v =
    sum_append (out_of (map turn es) v) [] _ ∙ ap (λ (s : ℕ). s + sum_over [] (λ w. same w u)) (out_arcs (map turn es) v u ∙ arcs_turn es u v ∙ sym (out_arcs es u v)) ∙ sym (sum_append (out_of es u) [] _)
both_turn false es u v =
    sum_append (out_of (map turn es) v) (in_to (map turn es) v) _ ∙ ap₂ ◌+◌ (out_arcs (map turn es) v u ∙ arcs_turn es u v) refl ∙ go (eq_or_ne u v)
    ∙ sym (sum_append (out_of es u) (in_to es u) _ ∙ ap₂ ◌+◌ (out_arcs es u v) refl)
  where
    go : (u ≡ v) ⊎ (u ≢ v) → arcs es u v + sum_over (in_to (map turn es) v) (λ w. same w u) ≡ arcs es u v + sum_over (in_to es u) (λ w. same w v)
    go (inl p) = ap (λ (s : ℕ). arcs es u v + s) (subst (λ (z : ℕ). sum_over (in_to (map turn es) z) (λ w. same w u) ≡ sum_over (in_to es u) (λ w. same w z)) p (in_self (map turn es) u ∙ sym (in_self es u)))
    go (inr q) = ap (λ (s : ℕ). arcs es u v + s) (in_arcs (map turn es) v u (λ p. q (sym p)) ∙ arcs_turn es v u ∙ sym (in_arcs es u v q))

one_turn : (g : Graph) (u v : ℕ) → walks (turned g) 1 v u ≡ walks g 1 u v
unfolding walks turned neighbours
one_turn g u v = both_turn g.directed g.edges u v

inside_turn : (n : ℕ) (es : List Edge) → EndsIn n es → EndsIn n (map turn es)
inside_turn n [] h = tt
inside_turn n (e ∷ es) h = (h.1, h.0, inside_turn n es h.2)

pub turned_inside : (g : Graph) → EndsIn g.nodes g.edges → EndsIn (turned g).nodes (turned g).edges
unfolding turned
turned_inside g h = inside_turn g.nodes g.edges h

-- the hop sequences from b to a of the turned graph are as many as those from a to b
pub walks_turn : (g : Graph) → EndsIn g.nodes g.edges → (k a b : ℕ) → a < g.nodes → b < g.nodes → walks (turned g) k b a ≡ walks g k a b
unfolding walks turned
walks_turn g ok zero a b ha hb = same_comm b a
walks_turn g ok (suc k) a b ha hb =
    ap (λ (i : ℕ). walks (turned g) i b a) one_first
    ∙ walks_split (turned g) (turned_inside g ok) 1 k b a hb
    ∙ below_cong g.nodes (λ v hv. ap₂ ◌*◌ (one_turn g v b) (walks_turn g ok k a v ha hv) ∙ mul_comm _ _)
    ∙ sym (walks_split g ok k 1 a b ha)
    ∙ ap (λ (i : ℕ). walks g i a b) one_last
  where
    one_first : suc k ≡ 1 + k
    one_first = omega arith

    one_last : k + 1 ≡ suc k
    one_last = omega arith

all_mem : (n : ℕ) (xs : List ℕ) (x : ℕ) → AllBelow n xs → Memᴰ x xs → x < n
all_mem n [] x h m = elim m [ ]
all_mem n (y ∷ xs) x h m = go (Memᴰ.cases_cons m) (all_mem n xs x h.1)
  where
    go : (x ≡ y) ⊎ Memᴰ x xs → (Memᴰ x xs → x < n) → x < n
    go (inl e) ih = omega (arith, h.0)
    go (inr k) ih = ih k

-- an entry is a node
pub entry_lt : (g : Graph) → EndsIn g.nodes g.edges → (v x : ℕ) → Memᴰ x (entries g v) → x < g.nodes
entry_lt g ok v x m = all_mem g.nodes (entries g v) x (entries_below g v ok) m
