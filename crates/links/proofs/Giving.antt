-- What the entries of a list give to the next vector: none, one more, four, one stretch after another. Assumes nothing.
use Rattle.std.proofs.Common.{◌≡◌, ℕ, zero, suc, ◌+◌, ◌-◌, ◌*◌, ◌<◌, ◌≤◌, List, [], ◌∷◌, ◌++◌, length, get_or, set, sym, refl, ap, ◌∙◌, append_assoc, append-nil, arith}
use mathlib.Core.List.{foldl, foldl-append}
use lib.Ieee.{Float, nan, binary64, add, mul}
use Rattle.regions.specs.Region.{list_of, Front}
use Rattle.regions.proofs.Fronts.{list_same}
use Rattle.graph.specs.Layout.{entries_at}
use Rattle.lists.specs.Lists.{Share, share}
use Rattle.lists.proofs.Reading.{fold_none, fold_more}
use Rattle.rounds.specs.Vectors.{entry, next_in}
use Rattle.rounds.proofs.Vectors.{next_at_lem, next_set, vectors_then, vectors_are}
use Rattle.links.specs.Links.{share_in, weights_at, gives}
use Rattle.links.specs.Steps.{LinksPre, GivePre, shares_from, Given}
use Rattle.links.proofs.Turns.{vectors_none}

-- ---- the stretches of a list
-- where a walk over it reads
pub give_pre : {n : ℕ} {w : List ℕ} {wf : List Float} → LinksPre n w wf → (v : ℕ) → v < n → GivePre n w (get_or w v 0) (get_or w (v + 1) 0) wf
give_pre pre v l = record { order = pre.rises v l; entries = pre.entries v l; nodes = λ j a b. pre.nodes v j l a b; weights = pre.weights v l }

-- a part of a stretch, while only the two vectors are written
pub give_part : {n : ℕ} {w : List ℕ} {k end : ℕ} {wf wf' : List Float} → GivePre n w k end wf → (a b : ℕ) → k ≤ a → a ≤ b → b ≤ end → length wf' ≡ length wf
    → GivePre n w a b wf'
give_part pre a b h i j e =
    record {
      order = i;
      entries = omega (arith, pre.entries);
      nodes = λ t p q. pre.nodes t (omega arith) (omega arith);
      weights = omega (arith, pre.weights);
    }

list_then : {A : Type 0} (f : ℕ → A) (a b : ℕ) → list_of f (a + b) ≡ list_of f a ++ list_of (λ k. f (a + k)) b
unfolding list_of
list_then f a zero =
    let e : a + 0 ≡ a = omega arith in
    ap (list_of f) e ∙ sym (append-nil (list_of f a))
list_then {A} f a (suc b) =
    let e : a + suc b ≡ suc (a + b) = omega arith in
    ap (list_of f) e ∙ ap (λ (l : List A). l ++ (f (a + b) ∷ [])) (list_then f a b) ∙ append_assoc (list_of f a) (list_of (λ k. f (a + k)) b) (f (a + b) ∷ [])

module _ (n : ℕ) (w : List ℕ) where
  stretch_kept : {wf wf' : List Float} → Front wf (n + n) wf' → (k end : ℕ) → shares_from n w wf' k end ≡ shares_from n w wf k end
  stretch_kept {wf} {wf'} front k end =
      list_same (λ j. share_in n w wf' (k + j)) (λ j. share_in n w wf (k + j)) (end - k)
      (λ j h. ap (share (get_or w (entries_at n + (k + j)) 0)) (front.rest nan (weights_at n + (k + j)) (omega arith)))

  stretch_then : (wf : List Float) (k j end : ℕ) → k ≤ j → j ≤ end → shares_from n w wf k j ++ shares_from n w wf j end ≡ shares_from n w wf k end
  stretch_then wf k j end a b =
      ap (λ (l : List Share). shares_from n w wf k j ++ l)
      (list_same (λ i. share_in n w wf (j + i)) (λ i. share_in n w wf (k + (j - k + i))) (end - j) (λ i h. ap (share_in n w wf) (omega arith)))
      ∙ sym (list_then (λ i. share_in n w wf (k + i)) (j - k) (end - j))
      ∙ ap (list_of (λ i. share_in n w wf (k + i))) (omega arith)

-- ---- what they give
module _ (n : ℕ) (c : Float) (w : List ℕ) where
  pub given_none : (k : ℕ) (wf : List Float) → Given n c w k k wf wf
  given_none k wf =
      vectors_none n wf (fold_none (gives c) (next_in n wf) (λ j. share_in n w wf (k + j)) ∙ ap (λ (i : ℕ). foldl (gives c) (next_in n wf) (list_of (λ j. share_in n w wf (k + j)) i)) (omega arith))

  -- one entry more: its target, at `at`, gains x
  pub given_more : (k j : ℕ) (wf₀ wf : List Float) (at : ℕ) (x : Float) → n + n ≤ length wf₀ → k ≤ j → get_or w (entries_at n + j) 0 < n
      → at ≡ n + get_or w (entries_at n + j) 0 → x ≡ mul binary64 c (get_or wf₀ (weights_at n + j) nan) → Given n c w k j wf₀ wf
      → Given n c w k (j + 1) wf₀ (set wf at (add binary64 (get_or wf at nan) x))
  given_more k j wf₀ wf at x room l inside p e s =
      let t = get_or w (entries_at n + j) 0 in
      let held : ℕ → Share = λ i. share_in n w wf₀ (k + i) in
      rw p
      (vectors_then s
      (vectors_are s.current
      (ap (λ (a : Float). set (next_in n wf) t (add binary64 a x)) (next_at_lem n wf t inside)
      ∙ ap (λ (z : Float). set (next_in n wf) t (add binary64 (entry (next_in n wf) t) z)) e
      ∙ fold_more (gives c) (next_in n wf₀) held (j - k) (next_in n wf) (share_in n w wf₀ j) s.next (ap (share_in n w wf₀) (there k l))
      ∙ ap (λ (i : ℕ). foldl (gives c) (next_in n wf₀) (list_of held i)) (later k l))
      (next_set n wf t (add binary64 (get_or wf (n + t) nan) x) (omega (arith, s.front.long)) inside)))
    where
      there : (a : ℕ) → a ≤ j → j ≡ a + (j - a)
      there a q = omega arith

      later : (a : ℕ) → a ≤ j → j - a + 1 ≡ j + 1 - a
      later a q = omega arith

  -- the same end in other words
  pub given_all : (first : ℕ) {k end : ℕ} {wf₀ wf : List Float} → k ≡ end → Given n c w first k wf₀ wf → Given n c w first end wf₀ wf
  given_all first e s = rw e at s

  -- one stretch after another
  pub given_then : {k j end : ℕ} {wf₀ wf wf' : List Float} → k ≤ j → j ≤ end → Given n c w k j wf₀ wf → Given n c w j end wf wf' → Given n c w k end wf₀ wf'
  given_then {k} {j} {end} {wf₀} {wf} a b s t =
      vectors_then s
      (vectors_are s.current
      (ap (λ (y : List Float). foldl (gives c) y (shares_from n w wf j end)) s.next
      ∙ ap (foldl (gives c) (foldl (gives c) (next_in n wf₀) (shares_from n w wf₀ k j))) (stretch_kept n w s.front j end)
      ∙ sym (foldl-append (gives c) (next_in n wf₀) (shares_from n w wf₀ k j) (shares_from n w wf₀ j end))
      ∙ ap (foldl (gives c) (next_in n wf₀)) (stretch_then n w wf₀ k j end a b))
      t)

-- ---- four entries
-- their targets, by the places that the code reads
pub record Targets (n : ℕ) (w : List ℕ) (k : ℕ) : Type 0 where
  pub first : get_or w (n + 1 + k) 0 < n
  pub second : get_or w (n + 1 + k + 1) 0 < n
  pub third : get_or w (n + 1 + k + 2) 0 < n
  pub fourth : get_or w (n + 1 + k + 3) 0 < n

module _ (n : ℕ) (w : List ℕ) (k : ℕ) (wf : List Float) (pre : GivePre n w k (k + 4) wf) where
  target : (i p : ℕ) → i < 4 → p ≡ entries_at n + (k + i) → get_or w p 0 < n
  target i p h e = rw e (pre.nodes (k + i) (omega arith) (omega arith))

  pub targets : Targets n w k
  targets =
      record {
        first = target 0 (n + 1 + k) (omega arith) (omega arith);
        second = target 1 (n + 1 + k + 1) (omega arith) (omega arith);
        third = target 2 (n + 1 + k + 2) (omega arith) (omega arith);
        fourth = target 3 (n + 1 + k + 3) (omega arith) (omega arith);
      }

  module _ (c : Float) where
    -- the target at p gains its product with the weight at q, read before the stores
    abbrev gain : ℕ → ℕ → List Float → List Float
    gain p q u = set u (n + get_or w p 0) (add binary64 (get_or u (n + get_or w p 0) nan) (mul binary64 c (get_or wf q nan)))

    turn : (i p q : ℕ) (u : List Float) → i < 4 → p ≡ entries_at n + (k + i) → q ≡ weights_at n + (k + i) → Given n c w k (k + i) wf u → Given n c w k (k + i + 1) wf (gain p q u)
    turn i p q u h e f s =
        given_more n c w k (k + i) wf u (n + get_or w p 0) (mul binary64 c (get_or wf q nan)) (omega (arith, pre.weights)) (omega arith) (target i (entries_at n + (k + i)) h refl) (ap (λ (a : ℕ). n + get_or w a 0) e) (ap (λ (a : ℕ). mul binary64 c (get_or wf a nan)) f) s

    pub given_four : Given n c w k (k + 4) wf
        (gain (n + 1 + k + 3) (4 * n + k + 3) (gain (n + 1 + k + 2) (4 * n + k + 2) (gain (n + 1 + k + 1) (4 * n + k + 1) (gain (n + 1 + k) (4 * n + k) wf))))
    given_four =
        given_all n c w k (omega arith)
        (turn 3 (n + 1 + k + 3) (4 * n + k + 3) _ (omega arith) (omega arith) (omega arith)
        (given_all n c w k (omega arith)
        (turn 2 (n + 1 + k + 2) (4 * n + k + 2) _ (omega arith) (omega arith) (omega arith)
        (given_all n c w k (omega arith)
        (turn 1 (n + 1 + k + 1) (4 * n + k + 1) _ (omega arith) (omega arith) (omega arith)
        (given_all n c w k (omega arith)
        (turn 0 (n + 1 + k) (4 * n + k) wf (omega arith) (omega arith) (omega arith) (given_all n c w k (omega arith) (given_none n c w k wf)))))))))
