-- Reading weighted lists in the workspace: their shares one after the other. Assumes nothing.
use mathlib.Core.Path.{◌≡◌, refl, sym, ap, ◌∙◌}
use mathlib.Core.List.{List, [], ◌∷◌, ◌++◌, map, foldl, foldl-append}
use Prim.Native.Nat.{ℕ, zero, suc, ◌+◌, ◌*◌, ◌-◌, ◌≤◌, ◌<◌}
use native.Mathlib.Omega.{arith}
use lib.ListN.{length, get_or, take, drop, length-take, length-drop}
use lib.Seq.{get_or-take, get_or-drop}
use lib.Ieee.{Float, nan, binary64, add}
use Rattle.std.proofs.lemmas.List.{map_push}
use Rattle.regions.specs.Region.{list_of, zero_f}
use Rattle.regions.proofs.Fronts.{list_more}
use Rattle.graph.specs.Layout.{entries_at, beside_at}
use Rattle.lists.specs.Lists.{place_at, long_at, list_at, Share, share, share_at, shares_at, with_share, weight_of, ListsFit}

map_list : {A B : Type 0} (f : A → B) (g : ℕ → A) (n : ℕ) → map f (list_of g n) ≡ list_of (λ k. f (g k)) n
unfolding list_of
map_list f g zero = refl
map_list {A} {B} f g (suc n) = map_push f (list_of g n) (g n) ∙ ap (λ (r : List B). r ++ (f (g n) ∷ [])) (map_list f g n)

-- ---- a fold over f 0, f 1, ..
module _ {S A : Type 0} (turn : S → A → S) (s : S) (f : ℕ → A) where
  pub fold_none : s ≡ foldl turn s (list_of f 0)
  unfolding list_of
  fold_none = refl

  pub fold_more : (k : ℕ) (t : S) (a : A) → t ≡ foldl turn s (list_of f k) → a ≡ f k → turn t a ≡ foldl turn s (list_of f (k + 1))
  fold_more k t a e q =
      ap (λ (x : S). turn x a) e
      ∙ ap (turn (foldl turn s (list_of f k))) q
      ∙ sym (foldl-append turn s (list_of f k) (f k ∷ []))
      ∙ ap (foldl turn s) (sym (list_more f k))

-- ---- the shares of v
module _ (n m : ℕ) (weight : List Float) (w : List ℕ) (v : ℕ) where
  -- the share at the jth place of the entries
  abbrev pub share_in : ℕ → Share
  share_in j = share (get_or w (entries_at n + j) 0) (get_or weight (get_or w (beside_at n m + j) 0) nan)

  pub shares_are : shares_at n m weight w v ≡ list_of (λ k. share_in (get_or w v 0 + k)) (long_at w v)
  unfolding list_at
  shares_are = map_list (share_at weight) (λ k. place_at n m w (get_or w v 0 + k)) (long_at w v)

  -- ---- a fold over the shares, as the code walks them: j from the offset of v to the next one
  module _ {S : Type 0} (turn : S → Share → S) (s : S) where
    -- after the entries before the jth place
    abbrev pub fold_to : ℕ → S
    fold_to j = foldl turn s (list_of (λ k. share_in (get_or w v 0 + k)) (j - get_or w v 0))

    pub walk_none : s ≡ fold_to (get_or w v 0)
    walk_none = fold_none turn s (λ k. share_in (get_or w v 0 + k)) ∙ ap (λ (i : ℕ). foldl turn s (list_of (λ k. share_in (get_or w v 0 + k)) i)) (gone (get_or w v 0))
      where
        gone : (a : ℕ) → 0 ≡ a - a
        gone a = omega arith

    pub walk_more : (j : ℕ) (t : S) → get_or w v 0 ≤ j → t ≡ fold_to j → turn t (share_in j) ≡ fold_to (j + 1)
    walk_more j t l e =
        fold_more turn s (λ k. share_in (get_or w v 0 + k)) (j - get_or w v 0) t (share_in j) e (ap share_in (there (get_or w v 0) l))
        ∙ ap (λ (i : ℕ). foldl turn s (list_of (λ k. share_in (get_or w v 0 + k)) i)) (after (get_or w v 0) l)
      where
        there : (a : ℕ) → a ≤ j → j ≡ a + (j - a)
        there a q = omega arith

        after : (a : ℕ) → a ≤ j → j - a + 1 ≡ j + 1 - a
        after a q = omega arith

    pub walk_all : (j : ℕ) → j ≡ get_or w (v + 1) 0 → fold_to j ≡ foldl turn s (shares_at n m weight w v)
    walk_all j e = ap fold_to e ∙ ap (foldl turn s) (sym shares_are)

-- ---- where a walk over the list of v reads
module _ (n m : ℕ) (w : List ℕ) (fit : ListsFit n m w) (v : ℕ) (l : v < n) where
  pub record Offsets : Type 0 where
    pub long : beside_at n m + 2 * m ≤ length w
    pub next : v + 1 < length w
    pub rises : get_or w v 0 ≤ get_or w (v + 1) 0
    pub inside : get_or w (v + 1) 0 ≤ 2 * m

  pub offsets : Offsets
  offsets = record { long = fit.room; next = omega (arith, fit.room); rises = fit.rises v l; inside = fit.inside v l }

  -- the jth place, of the list of v
  pub record Reads (j : ℕ) : Type 0 where
    pub long : beside_at n m + j < length w
    pub target : get_or w (entries_at n + j) 0 < n
    pub position : get_or w (beside_at n m + j) 0 < m

  pub reads : (j : ℕ) → get_or w v 0 ≤ j → j < get_or w (v + 1) 0 → Reads j
  reads j a b = record { long = omega (arith, fit.room, fit.inside v l); target = fit.nodes v j l a b; position = fit.edges v j l a b }

-- ---- the sum of the weights of v, as the code walks its edge positions
module _ (n m : ℕ) (weight : List Float) (w : List ℕ) (v : ℕ) where
  -- the edge positions, as a part of w
  abbrev pub positions : List ℕ
  positions = take (beside_at n m + get_or w (v + 1) 0 - (beside_at n m + get_or w v 0)) (drop (beside_at n m + get_or w v 0) w)

  -- after i of them
  abbrev pub summed : ℕ → Float
  summed i = fold_to n m weight w v with_share zero_f (get_or w v 0 + i)

  pub summed_none : zero_f ≡ summed 0
  summed_none = walk_none n m weight w v with_share zero_f ∙ ap (fold_to n m weight w v with_share zero_f) (none (get_or w v 0))
    where
      none : (a : ℕ) → a ≡ a + 0
      none a = omega arith

  module _ (fit : ListsFit n m w) (l : v < n) where
    pub positions_long : length positions ≡ get_or w (v + 1) 0 - get_or w v 0
    positions_long = simp (length-take, length-drop) (omega (arith, offsets n m w fit v l))

    position_is : (i : ℕ) → i < length positions → get_or positions i 0 ≡ get_or w (beside_at n m + (get_or w v 0 + i)) 0
    position_is i q =
        get_or-take (beside_at n m + get_or w (v + 1) 0 - (beside_at n m + get_or w v 0)) (drop (beside_at n m + get_or w v 0) w) i 0 (omega (arith, positions_long))
        ∙ get_or-drop (beside_at n m + get_or w v 0) w i 0
        ∙ ap (λ (k : ℕ). get_or w k 0) (same (get_or w v 0))
      where
        same : (a : ℕ) → beside_at n m + a + i ≡ beside_at n m + (a + i)
        same a = omega arith

    pub position_in : (i : ℕ) → i < length positions → get_or positions i 0 < m
    position_in i q = rw (position_is i q) (reads n m w fit v l (get_or w v 0 + i) (omega arith) (omega (arith, positions_long))).position

    pub summed_more : (i : ℕ) (sum : Float) → i < length positions → sum ≡ summed i → add binary64 sum (get_or weight (get_or positions i 0) nan) ≡ summed (i + 1)
    summed_more i sum q e =
        ap (λ (k : ℕ). add binary64 sum (get_or weight k nan)) (position_is i q)
        ∙ walk_more n m weight w v with_share zero_f (get_or w v 0 + i) sum (omega arith) e
        ∙ ap (fold_to n m weight w v with_share zero_f) (more (get_or w v 0))
      where
        more : (a : ℕ) → a + i + 1 ≡ a + (i + 1)
        more a = omega arith

    pub summed_all : (i : ℕ) → i ≡ length positions → summed i ≡ weight_of (shares_at n m weight w v)
    unfolding weight_of
    summed_all i e = walk_all n m weight w v with_share zero_f (get_or w v 0 + i) (omega (arith, positions_long, offsets n m w fit v l))
