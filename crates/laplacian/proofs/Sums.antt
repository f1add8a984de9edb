-- Laws of the Laplacian score: a neighbour at a time, and the same from rows that agree. Assumes nothing.
use Rattle.std.proofs.Common.{◌≡◌, ℕ, suc, ◌<◌, List, [], ◌∷◌, length, get_or, take, refl, ap, ◌∙◌, arith, take_all}
use mathlib.Core.List.{foldl}
use lib.Ieee.{Float}
use Rattle.laplacian.specs.Laplacian.{entry_count, own_part, with_neighbour, laplacian_score}

-- ---- a neighbour at a time
module _ (rows : ℕ → List ℕ) (v : ℕ) where
  -- the sum after k entries of v
  abbrev pub sum_after : ℕ → Float
  sum_after k = foldl (with_neighbour rows) (own_part (entry_count rows v)) (take k (rows v))

  pub sum_all : (k : ℕ) → k ≡ length (rows v) → sum_after k ≡ laplacian_score rows v
  unfolding laplacian_score
  sum_all k e = ap (foldl (with_neighbour rows) (own_part (entry_count rows v))) (take_all k (rows v) (omega arith))

-- ---- rows that agree for each node
module _ (n : ℕ) (f g : ℕ → List ℕ) (same : (v : ℕ) → v < n → f v ≡ g v) where
  fold_same : (us : List ℕ) (sum : Float) → ((k : ℕ) → k < length us → get_or us k 0 < n) → foldl (with_neighbour f) sum us ≡ foldl (with_neighbour g) sum us
  fold_same [] sum h = refl
  fold_same (u ∷ us) sum h =
      fold_same us (with_neighbour f sum u) (λ k l. h (suc k) (omega arith))
      ∙ ap (λ (row : List ℕ). foldl (with_neighbour g) (with_neighbour (λ _. row) sum u) us) (same u (h 0 (omega arith)))

  pub score_same : (v : ℕ) → v < n → ((k : ℕ) → k < length (f v) → get_or (f v) k 0 < n) → laplacian_score f v ≡ laplacian_score g v
  unfolding laplacian_score
  score_same v l h =
      fold_same (f v) (own_part (entry_count f v)) h
      ∙ ap (λ (row : List ℕ). foldl (with_neighbour g) (own_part (entry_count (λ _. row) v)) row) (same v l)
