-- Every outcome of rounds says what `Says` puts in words. Assumes nothing.
use mathlib.Core.Path.{◌≡◌, refl, sym, ap, ◌∙◌, subst}
use mathlib.Core.Logic.{◌⊎◌, inl, inr}
use mathlib.Core.Bool.{Bool, true, false, cond, true≢false}
use Prim.Native.Nat.{ℕ, zero, suc, ◌+◌, ◌≤◌, ◌<◌, zero-le}
use native.Mathlib.Nat.{zero-add, not-suc-le-zero, eq-or-lt_of_le}
use native.Mathlib.Numerals.{add-one}
use native.Mathlib.Omega.{arith}
use Rattle.rounds.specs.Rounds.{Round, out, outcome_from, outcome}
use Rattle.rounds.specs.Says.{iterate, state_after, met_after, Says}

module _ {S : Type 0} (step : S → Round S) (s : S) where
  -- no round before the kth met a stop rule
  abbrev None : ℕ → Type 0
  None k = (j : ℕ) → j < k → met_after step s j ≡ false

  none_more : (k : ℕ) → None k → met_after step s k ≡ false → None (k + 1)
  none_more k q f j h = let l : j ≤ k = omega arith in pick (eq-or-lt_of_le l)
    where
      pick : (j ≡ k) ⊎ (j < k) → met_after step s j ≡ false
      pick (inl z) = ap (met_after step s) z ∙ f
      pick (inr l) = q j l

  says_from : (more k limit : ℕ) → k + more ≡ limit → None k → Says false step limit s (outcome_from step more k (state_after step s k))
  unfolding outcome_from iterate
  says_from zero k limit e q =
      record {
        last_is = refl;
        within = omega arith;
        at_once = λ h. absurd (true≢false (sym h));
        earlier = λ j h. q j (omega arith);
        met = λ f h. absurd (true≢false (sym h));
        ran_out = λ h. (refl, omega arith, λ j g. q j (omega arith));
      }
  says_from (suc more) k limit e q = go (met_after step s k) refl (says_from more (k + 1) limit (omega arith))
    where
      next : state_after step s (k + 1) ≡ (step (state_after step s k)).next
      next = ap (state_after step s) (add-one k)

      stopped : met_after step s k ≡ true → Says false step limit s (out (step (state_after step s k)).next (k + 1) true)
      stopped t =
          record {
            last_is = sym next;
            within = omega arith;
            at_once = λ h. absurd (true≢false (sym h));
            earlier = λ j h. q j (omega arith);
            met = λ f h. (k, refl, t);
            ran_out = λ h. absurd (true≢false h);
          }

      go : (b : Bool) → met_after step s k ≡ b
          → (None (k + 1) → Says false step limit s (outcome_from step more (k + 1) (state_after step s (k + 1))))
          → Says false step limit s (cond b (out (step (state_after step s k)).next (k + 1) true) (outcome_from step more (k + 1) (step (state_after step s k)).next))
      go true t further = stopped t
      go false f further = subst (λ (u : S). Says false step limit s (outcome_from step more (k + 1) u)) next (further (none_more k q f))

  pub says : (before : Bool) (limit : ℕ) → Says before step limit s (outcome before step limit s)
  unfolding outcome iterate
  says true limit =
      record {
        last_is = refl;
        within = zero-le;
        at_once = λ h. (refl, refl);
        earlier = λ j h. absurd (not-suc-le-zero h);
        met = λ h. absurd (true≢false h);
        ran_out = λ h. absurd (true≢false h);
      }
  says false limit = says_from limit 0 limit (zero-add limit) (λ j h. absurd (not-suc-le-zero h))
