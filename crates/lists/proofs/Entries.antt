-- Laws of weighted lists: one edge more in front, and lengths. Assumes nothing.
use mathlib.Core.Path.{◌≡◌, refl, sym, ap, ◌∙◌}
use mathlib.Core.Bool.{Bool, true, false, not, ◌&&◌, ◌||◌, cond, true≢false}
use mathlib.Core.List.{List, [], ◌∷◌, ◌++◌, append_assoc, append-nil}
use Prim.Native.Nat.{ℕ, zero, suc, ◌≤◌, ◌<◌}
use native.Mathlib.Omega.{arith}
use borrow.Author.Tests.{eq-eqb, ne_eqb, eqb-true, eqb-false}
use lib.Dec.{eqb}
use lib.ListN.{length, get_or, drop, length-append}
use lib.Ieee.{Float, nan}
use Rattle.graph.specs.Edges.{Edge, Entry, only, toward, enters_from, gives_out, gives_in, newest_first, neighbours, weighted_gives, weighted}
use Rattle.graph.proofs.Edges.{no_edge}

-- the lists with x in front of the list of `own`
abbrev pub added : ℕ → Entry → (ℕ → List Entry) → ℕ → List Entry
added own x lists v = only (eqb own v) x ++ lists v

module _ (own : ℕ) (x : Entry) (lists : ℕ → List Entry) where
  pub added_own : added own x lists own ≡ x ∷ lists own
  added_own = rw (eq-eqb own own refl)

  pub added_other : (v : ℕ) → (own ≡ v → ⊥) → added own x lists v ≡ lists v
  added_other v h = rw (ne_eqb own v h)

  pub added_more : (v : ℕ) → length (lists v) ≤ length (added own x lists v)
  added_more v = omega (arith, length-append (only (eqb own v) x) (lists v))

-- ---- one edge more
pub weighted_none : (directed : Bool) (v : ℕ) → weighted directed [] v ≡ []
unfolding weighted
weighted_none directed v = refl

module _ (directed : Bool) (e : Edge) (es : List Edge) where
  pub weighted_more : (v : ℕ) → weighted directed (e ∷ es) v ≡ weighted_gives directed v e ++ weighted directed es v
  unfolding weighted
  weighted_more v = refl

  twice : (a : Bool) → (a && not a) ≡ false
  twice true = refl
  twice false = refl

  gives_one : (d : Bool) (v : ℕ) → (d || eqb e.from e.to) ≡ true → weighted_gives d v e ≡ only (eqb e.from v) (toward e.to e)
  gives_one true v h = append-nil (only (eqb e.from v) (toward e.to e))
  gives_one false v h =
      let q : enters_from v e ≡ false = rw (← (eqb-true e.from e.to h)) (twice (eqb e.from v)) in
      rw q (append-nil (only (eqb e.from v) (toward e.to e)))

  -- directed, or a self-loop
  pub weighted_one : (directed || eqb e.from e.to) ≡ true → (v : ℕ) → added e.from (toward e.to e) (weighted directed es) v ≡ weighted directed (e ∷ es) v
  weighted_one h v = sym (weighted_more v ∙ ap (λ (l : List Entry). l ++ weighted directed es v) (gives_one directed v h))

  split : (a b : Bool) (x y : Entry) (l : List Entry) → (a ≡ true → b ≡ true → ⊥) → only b y ++ (only a x ++ l) ≡ (only a x ++ only (b && not a) y) ++ l
  split true true x y l h = absurd (h refl refl)
  split true false x y l h = refl
  split false true x y l h = refl
  split false false x y l h = refl

  -- both ends
  pub weighted_two : (directed || eqb e.from e.to) ≡ false → (v : ℕ) → added e.to (toward e.from e) (added e.from (toward e.to e) (weighted directed es)) v ≡ weighted directed (e ∷ es) v
  weighted_two h v = split (eqb e.from v) (eqb e.to v) (toward e.to e) (toward e.from e) (weighted directed es v) not_both ∙ sym (weighted_more v ∙ undirected directed h)
    where
      not_both : eqb e.from v ≡ true → eqb e.to v ≡ true → ⊥
      not_both p q = apart directed h (eqb-true e.from v p ∙ sym (eqb-true e.to v q))
        where
          apart : (d : Bool) → (d || eqb e.from e.to) ≡ false → e.from ≡ e.to → ⊥
          apart true r z = true≢false r
          apart false r z = eqb-false e.from e.to r z

      undirected : (d : Bool) → (d || eqb e.from e.to) ≡ false
          → weighted_gives d v e ++ weighted directed es v ≡ (only (eqb e.from v) (toward e.to e) ++ only (enters_from v e) (toward e.from e)) ++ weighted directed es v
      undirected true r = absurd (true≢false r)
      undirected false r = refl

-- ---- lengths
pub drop_short : (directed : Bool) (v : ℕ) (es : List Edge) (i : ℕ) → length (weighted directed (drop i es) v) ≤ length (weighted directed es v)
unfolding weighted
drop_short directed v [] zero = omega arith
drop_short directed v [] (suc i) = omega arith
drop_short directed v (e ∷ es) zero = omega arith
drop_short directed v (e ∷ es) (suc i) = omega (arith, drop_short directed v es i, length-append (weighted_gives directed v e) (weighted directed es v))

only_long : {A : Type 0} (b : Bool) (x : A) → length (only b x) ≡ cond b 1 0
only_long true x = refl
only_long false x = refl

-- a weighted list is as long as the neighbour entries
pub weighted_long : (directed : Bool) (es : List Edge) (v : ℕ) → length (neighbours directed es v) ≡ length (weighted directed es v)
unfolding neighbours newest_first weighted
weighted_long true [] v = refl
weighted_long false [] v = refl
weighted_long true (e ∷ es) v =
    omega (
      arith,
      weighted_long true es v,
      length-append (newest_first (gives_out v) es) [],
      length-append (newest_first (gives_out v) es ++ gives_out v e) [],
      length-append (newest_first (gives_out v) es) (gives_out v e),
      length-append (weighted_gives true v e) (weighted true es v),
      length-append (only (eqb e.from v) (toward e.to e)) [],
      only_long (eqb e.from v) e.to,
      only_long (eqb e.from v) (toward e.to e),
    )
weighted_long false (e ∷ es) v =
    omega (
      arith,
      weighted_long false es v,
      length-append (newest_first (gives_out v) es) (newest_first (gives_in v) es),
      length-append (newest_first (gives_out v) es ++ gives_out v e) (newest_first (gives_in v) es ++ gives_in v e),
      length-append (newest_first (gives_out v) es) (gives_out v e),
      length-append (newest_first (gives_in v) es) (gives_in v e),
      length-append (weighted_gives false v e) (weighted false es v),
      length-append (only (eqb e.from v) (toward e.to e)) (only (enters_from v e) (toward e.from e)),
      only_long (eqb e.from v) e.to,
      only_long (eqb e.from v) (toward e.to e),
      only_long (enters_from v e) e.from,
      only_long (enters_from v e) (toward e.from e),
    )

-- ---- what holds of each entry: its target is one of n nodes, and it has the position and the weight of one of m edges
pub record Good (n m : ℕ) (xs : List Float) (x : Entry) : Type 0 where
  pub target : x.target < n
  pub at : x.edge.at < m
  pub weight : get_or xs x.edge.at nan ≡ x.edge.weight

module _ (n m : ℕ) (xs : List Float) (directed : Bool) where
  only_good : (b : Bool) (x d : Entry) (k : ℕ) (l : List Entry) → Good n m xs x → ((j : ℕ) → j < length l → Good n m xs (get_or l j d)) → k < length (only b x ++ l) → Good n m xs (get_or (only b x ++ l) k d)
  only_good true x d zero l g h q = g
  only_good true x d (suc k) l g h q = h k (omega arith)
  only_good false x d k l g h q = h k q

  gives_good : (v : ℕ) (e : Edge) (d : Entry) (k : ℕ) (l : List Entry) → Good n m xs (toward e.to e) → Good n m xs (toward e.from e)
      → ((j : ℕ) → j < length l → Good n m xs (get_or l j d)) → k < length (weighted_gives directed v e ++ l) → Good n m xs (get_or (weighted_gives directed v e ++ l) k d)
  gives_good v e d k l t f h q = go directed q
    where
      go : (b : Bool) → k < length (weighted_gives b v e ++ l) → Good n m xs (get_or (weighted_gives b v e ++ l) k d)
      go true r =
          let z : weighted_gives true v e ++ l ≡ only (eqb e.from v) (toward e.to e) ++ l = ap (λ (y : List Entry). y ++ l) (append-nil (only (eqb e.from v) (toward e.to e))) in
          rw z (only_good (eqb e.from v) (toward e.to e) d k l t h (rw z at r))
      go false r =
          let z : weighted_gives false v e ++ l ≡ only (eqb e.from v) (toward e.to e) ++ (only (enters_from v e) (toward e.from e) ++ l) = append_assoc (only (eqb e.from v) (toward e.to e)) (only (enters_from v e) (toward e.from e)) l in
          rw z
          (only_good (eqb e.from v) (toward e.to e) d k (only (enters_from v e) (toward e.from e) ++ l) t
          (λ j p. only_good (enters_from v e) (toward e.from e) d j l f h p)
          (rw z at r))

  pub weighted_good : (es : List Edge) (v : ℕ) (d : Entry) (k : ℕ) → k < length (weighted directed es v)
      → ((i : ℕ) → i < length es → Good n m xs (toward (get_or es i no_edge).to (get_or es i no_edge)) × Good n m xs (toward (get_or es i no_edge).from (get_or es i no_edge)))
      → Good n m xs (get_or (weighted directed es v) k d)
  unfolding weighted
  weighted_good [] v d k l h = absurd (omega arith)
  weighted_good (e ∷ es) v d k l h =
      gives_good v e d k (weighted directed es v) (h 0 (omega arith)).0 (h 0 (omega arith)).1 (λ j q. weighted_good es v d j q (λ i p. h (suc i) (omega arith))) l
