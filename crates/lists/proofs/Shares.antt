-- The shares that a round reads in the workspace are those of the weighted lists, and their weights sum to the out-weights. Assumes nothing.
use mathlib.Core.Path.{◌≡◌, refl, ap, ◌∙◌}
use mathlib.Core.Bool.{Bool}
use mathlib.Core.List.{List, [], ◌∷◌, map, foldl}
use Prim.Native.Nat.{ℕ, suc, ◌<◌}
use native.Mathlib.Omega.{arith}
use lib.ListN.{length, get_or}
use lib.Ieee.{Float}
use Rattle.regions.specs.Region.{zero_f}
use Rattle.graph.specs.Edges.{Edge, Entry, toward, edges_of, weighted, with_weight, out_weight}
use Rattle.graph.specs.Pres.{Sound}
use Rattle.graph.proofs.Edges.{edges_long, edges_at, no_edge}
use Rattle.lists.specs.Lists.{place_of, Share, share, share_of, share_at, shares_of, shares_at, with_share, weight_of, Built}
use Rattle.lists.specs.Walks.{no_entry}
use Rattle.lists.proofs.Entries.{Good, weighted_good}

module _ (n : ℕ) (directed : Bool) (fs ts : List ℕ) (xs : List Float) (sound : Sound n fs ts xs) where
  pub entries_good : (v k : ℕ) → k < length (weighted directed (edges_of fs ts xs) v) → Good n (length fs) xs (get_or (weighted directed (edges_of fs ts xs) v) k no_entry)
  entries_good v k l = weighted_good n (length fs) xs directed (edges_of fs ts xs) v no_entry k l edges_good
    where
      edges_good : (i : ℕ) → i < length (edges_of fs ts xs)
          → Good n (length fs) xs (toward (get_or (edges_of fs ts xs) i no_edge).to (get_or (edges_of fs ts xs) i no_edge)) × Good n (length fs) xs (toward (get_or (edges_of fs ts xs) i no_edge).from (get_or (edges_of fs ts xs) i no_edge))
      edges_good i q =
          let p : i < length fs = omega (arith, edges_long fs ts xs sound.sized) in
          rw (edges_at fs ts xs no_edge i sound.sized p)
          (record { target = sound.ends.tos i p; at = p; weight = refl }, record { target = sound.ends.froms i p; at = p; weight = refl })

  held : (l : List Entry) → ((k : ℕ) → k < length l → Good n (length fs) xs (get_or l k no_entry)) → map (share_at xs) (map place_of l) ≡ map share_of l
  held [] h = refl
  held (x ∷ l) h =
      ap (λ (y : Float). share x.target y ∷ map (share_at xs) (map place_of l)) (h 0 (omega arith)).weight
      ∙ ap (λ (r : List Share). share_of x ∷ r) (held l (λ k q. h (suc k) (omega arith)))

  pub shares_built : (w w' : List ℕ) → Built n directed fs ts xs w w' → (v : ℕ) → v < n → shares_at n (length fs) xs w' v ≡ shares_of directed (edges_of fs ts xs) v
  shares_built w w' b v l = ap (map (share_at xs)) (b.lists v l) ∙ held (weighted directed (edges_of fs ts xs) v) (entries_good v)

fold_shares : (l : List Entry) (s : Float) → foldl with_weight s l ≡ foldl with_share s (map share_of l)
fold_shares [] s = refl
fold_shares (x ∷ l) s = fold_shares l (with_weight s x)

pub out_weight_is : (directed : Bool) (es : List Edge) (v : ℕ) → out_weight directed es v ≡ weight_of (shares_of directed es v)
unfolding out_weight weight_of
out_weight_is directed es v = fold_shares (weighted directed es v) zero_f
