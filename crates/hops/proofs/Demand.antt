-- What is demanded of `dist` and `count`, over the definitions of `Hops`. Assumes nothing.
use mathlib.Core.Path.{◌≡◌, refl, sym, ◌∙◌, subst}
use mathlib.Core.Logic.{◌≢◌, ◌⊎◌, inl, inr, ◌↔◌}
use mathlib.Core.Bool.{◌&&◌}
use mathlib.Core.List.{List, [], ◌∷◌, Memᴰ}
use Prim.Native.Nat.{ℕ, ◌-◌, ◌*◌, ◌≤◌, ◌<◌}
use native.Mathlib.Omega.{arith}
use lib.Dec.{eqb}
use lib.ListN.{length}
use Rattle.graph.specs.Edges.{Graph}
use Rattle.hops.specs.Sum.{sum_over, below, only_if}
use Rattle.hops.specs.Hops.{Valid, unreached, Hops, walks, dist, count, turned, routes, Distinct}
use Rattle.hops.proofs.Routes.{routes_length, routes_hops, hops_routes, routes_distinct}
use Rattle.hops.proofs.Dist.{Fewest, Never, dist_cases, dist_fewest, count_reached, count_unreached, sum_on_way, dist_turned, count_turned}

-- a hop sequence there is shows in the number, and a number that is not 0 shows a hop sequence
hops_walks : (g : Graph) (a b : ℕ) (p : List ℕ) → Hops g a p b → 0 < walks g (length p) a b
hops_walks g a b p h = subst (λ (t : ℕ). 0 < t) (routes_length g (length p) a b) (pos (routes g (length p) a b) (hops_routes g h))
  where
    pos : (ps : List (List ℕ)) → Memᴰ p ps → 0 < length ps
    pos [] m = elim m [ ]
    pos (q ∷ ps) m = omega arith

walks_hops : (g : Graph) (k a b : ℕ) → 0 < walks g k a b → (p : List ℕ) × Hops g a p b × (length p ≡ k)
walks_hops g k a b h = go (routes g k a b) refl (omega (arith, routes_length g k a b))
  where
    go : (ps : List (List ℕ)) → routes g k a b ≡ ps → 0 < length ps → (p : List ℕ) × Hops g a p b × (length p ≡ k)
    go [] e l = absurd (omega arith)
    go (p ∷ ps) e l = let r = routes_hops g k a b p (subst (λ (qs : List (List ℕ)). Memᴰ p qs) (sym e) (Memᴰ.head refl)) in (p, r.0, r.1)

module _ (g : Graph) (ok : Valid g) (a b : ℕ) (ha : a < g.nodes) where
  -- no hop sequence from a to b has fewer hops than `dist`
  pub no_fewer : (p : List ℕ) → Hops g a p b → (dist g a b ≢ unreached) × (dist g a b ≤ length p)
  no_fewer p h = go (dist_cases g ok.inside a b ha)
    where
      go : ((dist g a b < g.nodes) × Fewest g a b (dist g a b)) ⊎ ((dist g a b ≡ unreached) × Never g a b) → (dist g a b ≢ unreached) × (dist g a b ≤ length p)
      go (inl r) = (λ e. omega (arith, r.0, ok.few), least r.1)
        where
          least : Fewest g a b (dist g a b) → dist g a b ≤ length p
          least f = le (λ l. omega (arith, hops_walks g a b p h, f.before (length p) l))
            where
              le : ¬ (length p < dist g a b) → dist g a b ≤ length p
              le n = omega arith
      go (inr r) = absurd (omega (arith, hops_walks g a b p h, r.1 (length p)))

  -- and one has as many, unless there is none at all
  pub as_few : dist g a b ≢ unreached → (p : List ℕ) × Hops g a p b × (length p ≡ dist g a b)
  as_few u = walks_hops g (dist g a b) a b (dist_fewest g ok.inside a b (dist g a b) ha refl u).here

  pub none_at_all : dist g a b ≡ unreached → ((p : List ℕ) → ¬ Hops g a p b) × (count g a b ≡ 0)
  none_at_all e = (λ p h. (no_fewer p h).0 e, count_unreached g a b e)

  -- `count` is how many there are: `routes` lists each of them once
  pub how_many : dist g a b ≢ unreached → count g a b ≡ length (routes g (dist g a b) a b)
  how_many u = count_reached g a b (dist g a b) refl u ∙ sym (routes_length g (dist g a b) a b)

  pub listed : (p : List ℕ) → (Hops g a p b × (length p ≡ dist g a b)) ↔ Memᴰ p (routes g (dist g a b) a b)
  listed p = (λ r. subst (λ (k : ℕ). Memᴰ p (routes g k a b)) r.1 (hops_routes g r.0), routes_hops g (dist g a b) a b p)

  pub listed_once : Distinct (routes g (dist g a b) a b)
  listed_once = routes_distinct g (dist g a b) a b

  -- the nodes k hops from a on the way to b
  pub on_the_way : (k : ℕ) → dist g a b ≢ unreached → k ≤ dist g a b
      → sum_over (below g.nodes) (λ v. only_if (eqb (dist g a v) k && eqb (dist g v b) (dist g a b - k)) (count g a v * count g v b)) ≡ count g a b
  on_the_way k u h = sum_on_way g ok a b (dist g a b) k ha refl u h

  -- the edges turned round
  pub turned_round : b < g.nodes → (dist (turned g) b a ≡ dist g a b) × (count (turned g) b a ≡ count g a b)
  turned_round hb = (dist_turned g ok a b ha hb, count_turned g ok a b ha hb)
