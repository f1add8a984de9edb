-- Laws for the code's loops: `after`, a turn at a time; rounds until a stop rule, a round at a time. And what holds of a state that met a
-- stop rule holds of every settled outcome. Assumes nothing.
use mathlib.Core.Path.{◌≡◌, refl, sym, ap, ◌∙◌}
use mathlib.Core.Bool.{Bool, true, false, cond, true≢false}
use mathlib.Core.List.{List, [], ◌∷◌, ◌++◌}
use lib.ListN.{length, get_or, get_or-append, length-append}
use lib.Seq.{get_or-append_seam}
use Prim.Native.Nat.{ℕ, zero, suc, ◌+◌, ◌-◌, ◌≤◌, ◌<◌}
use native.Mathlib.Nat.{sub-zero}
use native.Mathlib.Numerals.{add-one}
use native.Mathlib.Omega.{arith}
use Rattle.rounds.specs.Rounds.{after, Round, round, Out, out, outcome_from, outcome}

-- ---- turns of a loop
pub after_none : {S : Type 0} (turn : ℕ → S → S) (s : S) → s ≡ after turn 0 s
unfolding after
after_none turn s = refl

pub after_more : {S : Type 0} (turn : ℕ → S → S) (k : ℕ) (s t : S) → t ≡ after turn k s → turn k t ≡ after turn (k + 1) s
unfolding after
after_more turn k s t e = ap (turn k) e ∙ ap (λ (j : ℕ). after turn j s) (sym (add-one k))

-- turns that do the same to every state
after_same : {S : Type 0} (turn other : ℕ → S → S) (k : ℕ) (s : S) → ((i : ℕ) (t : S) → i < k → turn i t ≡ other i t) → after turn k s ≡ after other k s
unfolding after
after_same turn other zero s h = refl
after_same turn other (suc k) s h = h k (after turn k s) (omega arith) ∙ ap (other k) (after_same turn other k s (λ i t l. h i t (omega arith)))

-- a fold over a list is a loop over its places: one item more
pub folded_more : {A S : Type 0} (f : S → A → S) (d : A) (xs : List A) (x : A) (s : S)
    → f (after (λ i t. f t (get_or xs i d)) (length xs) s) x ≡ after (λ i t. f t (get_or (xs ++ (x ∷ [])) i d)) (length (xs ++ (x ∷ []))) s
folded_more {A} {S} f d xs x s =
    let there : get_or (xs ++ (x ∷ [])) (length xs) d ≡ x = get_or-append_seam xs x [] d in
    let long : length (xs ++ (x ∷ [])) ≡ length xs + 1 = length-append xs (x ∷ []) in
    ap (f (after (λ i t. f t (get_or xs i d)) (length xs) s)) (sym there)
    ∙ after_more (λ i t. f t (get_or (xs ++ (x ∷ [])) i d)) (length xs) s (after (λ i t. f t (get_or xs i d)) (length xs) s)
    (after_same (λ i t. f t (get_or xs i d)) (λ i t. f t (get_or (xs ++ (x ∷ [])) i d)) (length xs) s (λ i t l. ap (f t) (sym (get_or-append xs (x ∷ []) d i l))))
    ∙ ap (λ (k : ℕ). after (λ i t. f t (get_or (xs ++ (x ∷ [])) i d)) k s) (sym long)

-- ---- rounds until a stop rule, of which k are done: o is where they end
module _ {S : Type 0} (step : S → Round S) (o : Out S) (limit : ℕ) where
  -- where the rounds from the kth state on end
  abbrev pub rest : ℕ → S → Out S
  rest k s = outcome_from step (limit - k) k s

  pub rounds_none : (before : Bool) (s : S) → before ≡ false → outcome before step limit s ≡ o → rest 0 s ≡ o
  unfolding outcome
  rounds_none before s e h = ap (λ (l : ℕ). outcome_from step l 0 s) (sub-zero limit) ∙ rw e at h

  one_round : (k : ℕ) (s t : S) (b : Bool) → k < limit → step s ≡ round t b → rest k s ≡ cond b (out t (k + 1) true) (rest (k + 1) t)
  unfolding outcome_from
  one_round k s t b l e =
      let z : limit - k ≡ suc (limit - (k + 1)) = omega arith in
      ap (λ (m : ℕ). outcome_from step m k s) z
      ∙ ap (λ (r : Round S). cond r.met (out r.next (k + 1) true) (outcome_from step (limit - (k + 1)) (k + 1) r.next)) e

  -- a round that met no stop rule
  pub rounds_more : {k : ℕ} {s t : S} {b : Bool} → k < limit → step s ≡ round t b → b ≡ false → rest k s ≡ o → rest (k + 1) t ≡ o
  rounds_more {k} {s} {t} {b} l e f h = sym (one_round k s t b l e ∙ rw f) ∙ h

  -- a round that met one
  pub rounds_met : {k : ℕ} {s t : S} {b : Bool} → k < limit → step s ≡ round t b → b ≡ true → rest k s ≡ o → out t (k + 1) true ≡ o
  rounds_met {k} {s} {t} {b} l e f h = sym (one_round k s t b l e ∙ rw f) ∙ h

  -- all rounds are used
  pub rounds_over : {k : ℕ} {s : S} → limit ≤ k → rest k s ≡ o → out s k false ≡ o
  unfolding outcome_from
  rounds_over {k} {s} l h = let z : limit - k ≡ 0 = omega arith in sym (ap (λ (m : ℕ). outcome_from step m k s) z) ∙ h

-- a stop rule met before the first round
pub rounds_before : {S : Type 0} (step : S → Round S) (limit : ℕ) (before : Bool) (s : S) → before ≡ true → out s 0 true ≡ outcome before step limit s
unfolding outcome
rounds_before step limit before s e = rw e

-- ---- what holds of each state that met a stop rule holds of a settled outcome
module _ {S : Type 0} (P : S → Type 0) (step : S → Round S) (held : (s : S) → (step s).met ≡ true → P (step s).next) where
  held_from : (more k : ℕ) (s : S) → (outcome_from step more k s).settled ≡ true → P (outcome_from step more k s).last
  unfolding outcome_from
  held_from zero k s e = absurd (true≢false (sym e))
  held_from (suc more) k s e = go (step s).met refl e (held_from more (k + 1) (step s).next)
    where
      go : (b : Bool) → (step s).met ≡ b
          → (cond b (out (step s).next (k + 1) true) (outcome_from step more (k + 1) (step s).next)).settled ≡ true
          → ((outcome_from step more (k + 1) (step s).next).settled ≡ true → P (outcome_from step more (k + 1) (step s).next).last)
          → P (cond b (out (step s).next (k + 1) true) (outcome_from step more (k + 1) (step s).next)).last
      go true q h further = held s q
      go false q h further = further h

  pub settled_holds : (before : Bool) (limit : ℕ) (s : S) → (before ≡ true → P s) → (outcome before step limit s).settled ≡ true → P (outcome before step limit s).last
  unfolding outcome
  settled_holds true limit s start e = start refl
  settled_holds false limit s start e = held_from limit 0 s e
