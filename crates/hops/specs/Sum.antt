-- Sums over a list, and over every number below n. Definitions only.
use Rattle.std.specs.Prelude.{Bool, true, false, List, [], ◌∷◌, ℕ, zero, suc, ◌+◌, eqb}

-- the sum of f x over the entries x of a list, each as often as it stands there
unfoldable pub sum_over : List ℕ → (ℕ → ℕ) → ℕ
sum_over [] f = 0
sum_over (x ∷ xs) f = f x + sum_over xs f

-- every number below n
unfoldable pub below : ℕ → List ℕ
below zero = []
below (suc n) = n ∷ below n

-- x where the test holds, and 0 where it fails
abbrev pub only_if : Bool → ℕ → ℕ
only_if true x = x
only_if false x = 0

-- 1 where x is y, and 0 where not
unfoldable pub same : ℕ → ℕ → ℕ
same x y = only_if (eqb x y) 1

-- how often v stands in a list
abbrev pub times : ℕ → List ℕ → ℕ
times v xs = sum_over xs (λ x. same x v)
