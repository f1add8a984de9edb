-- `exceeds` says just that some node has more fewest hop sequences from s than the limit. Assumes nothing.
use mathlib.Core.Path.{◌≡◌, refl, ap, ap₂, ◌∙◌}
use mathlib.Core.Logic.{◌⊎◌, inl, inr, ◌↔◌}
use mathlib.Core.Bool.{Bool, true, false, ◌||◌, false≢true}
use Prim.Native.Nat.{ℕ, zero, suc, ◌≤◌, ◌<◌}
use native.Mathlib.Omega.{arith}
use borrow.Author.Tests.{ltb-true, lt-ltb, le-ltb}
use lib.Dec.{ltb}
use Rattle.regions.proofs.Cases.{same_or_not}
use Rattle.graph.specs.Edges.{Graph}
use Rattle.hops.specs.Hops.{count, exceeds_below, exceeds}
use Rattle.hops.specs.Search.{TooMany}

module _ (limit : ℕ) (g : Graph) (s : ℕ) where
  none_below : (n : ℕ) → ((v : ℕ) → v < n → count g s v ≤ limit) → exceeds_below n limit g s ≡ false
  unfolding exceeds_below
  none_below zero h = refl
  none_below (suc n) h = ap₂ ◌||◌ (none_below n (λ v l. h v (omega arith))) (le-ltb limit (count g s n) (h n (omega arith)))

  some_below : (n v : ℕ) → v < n → limit < count g s v → exceeds_below n limit g s ≡ true
  unfolding exceeds_below
  some_below zero v l h = absurd (omega arith)
  some_below (suc n) v l h = go (same_or_not v n) (some_below n v)
    where
      or_true : (b : Bool) → (b || true) ≡ true
      or_true true = refl
      or_true false = refl

      go : (v ≡ n) ⊎ (v ≡ n → ⊥) → (v < n → limit < count g s v → exceeds_below n limit g s ≡ true) → (exceeds_below n limit g s || ltb limit (count g s n)) ≡ true
      go (inl e) ih =
          ap (λ (b : Bool). exceeds_below n limit g s || b) (lt-ltb limit (count g s n) (omega (arith, ap (count g s) e)))
          ∙ or_true (exceeds_below n limit g s)
      go (inr e) ih = ap (λ (b : Bool). b || ltb limit (count g s n)) (ih (omega arith) h)

  -- a node below n whose count is above the limit
  abbrev Above : ℕ → Type 0
  Above n = (v : ℕ) × (v < n) × (limit < count g s v)

  found_below : (n : ℕ) → exceeds_below n limit g s ≡ true → Above n
  unfolding exceeds_below
  found_below zero e = absurd (false≢true e)
  found_below (suc n) e = go (exceeds_below n limit g s) refl e (found_below n)
    where
      go : (b : Bool) → exceeds_below n limit g s ≡ b → (b || ltb limit (count g s n)) ≡ true → (exceeds_below n limit g s ≡ true → Above n) → Above (suc n)
      go true q p ih = let r = ih q in (r.0, omega (arith, r.1), r.2)
      go false q p ih = (n, omega arith, ltb-true limit (count g s n) p)

  -- no count exceeds the limit
  pub within_limit : ((v : ℕ) → v < g.nodes → count g s v ≤ limit) → exceeds limit g s ≡ false
  unfolding exceeds
  within_limit h = none_below g.nodes h

  -- some count does, exactly then
  pub exceeds_exactly : (exceeds limit g s ≡ true) ↔ TooMany g limit s
  unfolding exceeds
  exceeds_exactly =
      (λ e. let r = found_below g.nodes e in record { node = r.0; inside = r.1; more = r.2 }, λ t. some_below g.nodes t.node t.inside t.more)
