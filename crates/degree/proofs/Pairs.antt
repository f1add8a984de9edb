-- The walk over both ends of the edges: none, one edge more, four, one stretch after another. Assumes nothing.
use mathlib.Core.Path.{◌≡◌, refl, sym, ap, ◌∙◌}
use mathlib.Core.List.{List, [], ◌∷◌, ◌++◌, foldl, foldl-append}
use Prim.Native.Nat.{ℕ, ◌+◌, ◌-◌, ◌≤◌, ◌<◌}
use native.Mathlib.Omega.{arith}
use lib.ListN.{length, get_or, take, drop, length-drop}
use lib.Seq.{take-add, length-take-le, drop-cons, drop-drop}
use lib.Ieee.{Float}
use Rattle.degree.specs.Tally.{plus_one, in_turn, pair_tally, pairs_from, TallyPre}
use Rattle.degree.proofs.Counting.{in_turn_then}

pub pairs_none : (fs ts : List ℕ) (w : List Float) → w ≡ pair_tally fs ts 0 w
unfolding pair_tally in_turn
pairs_none fs ts w = refl

-- the edges from i to before j after those before i
pub pairs_then : (fs ts : List ℕ) (i j : ℕ) (w₀ w w' : List Float) → i ≤ j → j ≤ length fs → j ≤ length ts → w ≡ pair_tally fs ts i w₀ → w' ≡ pairs_from fs ts i j w → w' ≡ pair_tally fs ts j w₀
unfolding pair_tally
pairs_then fs ts i j w₀ w w' h lf lt e e' =
    let a : length (take i fs) ≡ i = length-take-le i fs (omega arith) in
    let b : length (take i ts) ≡ i = length-take-le i ts (omega arith) in
    let k = j - i in
    let all : j ≡ i + k = omega arith in
    e'
    ∙ ap (λ (x : List Float). foldl plus_one x (in_turn (take k (drop i fs)) (take k (drop i ts)))) e
    ∙ sym
    (ap (λ (n : ℕ). foldl plus_one w₀ (in_turn (take n fs) (take n ts))) all
    ∙ ap (λ (l : List ℕ). foldl plus_one w₀ (in_turn l (take (i + k) ts))) (take-add i k fs)
    ∙ ap (λ (l : List ℕ). foldl plus_one w₀ (in_turn (take i fs ++ take k (drop i fs)) l)) (take-add i k ts)
    ∙ ap (foldl plus_one w₀) (in_turn_then (take i fs) (take i ts) (take k (drop i fs)) (take k (drop i ts)) (b ∙ sym a))
    ∙ foldl-append plus_one w₀ (in_turn (take i fs) (take i ts)) (in_turn (take k (drop i fs)) (take k (drop i ts))))

module _ (fs ts : List ℕ) where
  -- one more at both ends of edge i
  abbrev pub plus_both : List Float → ℕ → List Float
  plus_both w i = plus_one (plus_one w (get_or fs i 0)) (get_or ts i 0)

  pub both_at : (i f t : ℕ) (w w' : List Float) → f ≡ get_or fs i 0 → t ≡ get_or ts i 0 → w' ≡ plus_one (plus_one w f) t → w' ≡ plus_both w i
  both_at i f t w w' ef et e = e ∙ ap (λ (x : ℕ). plus_one (plus_one w x) t) ef ∙ ap (λ (x : ℕ). plus_one (plus_one w (get_or fs i 0)) x) et

  pub from_none : (i : ℕ) (w : List Float) → w ≡ pairs_from fs ts i i w
  from_none i w = pairs_none (drop i fs) (drop i ts) w ∙ ap (λ (n : ℕ). pair_tally (drop i fs) (drop i ts) n w) (omega arith)

  from_one : (i : ℕ) (w : List Float) → i < length fs → i < length ts → plus_both w i ≡ pairs_from fs ts i (i + 1) w
  unfolding pair_tally in_turn
  from_one i w lf lt =
      let one : i + 1 - i ≡ 1 = omega arith in
      sym
      (ap (λ (n : ℕ). foldl plus_one w (in_turn (take n (drop i fs)) (take n (drop i ts)))) one
      ∙ ap (λ (l : List ℕ). foldl plus_one w (in_turn (take 1 l) (take 1 (drop i ts)))) (drop-cons fs i 0 lf)
      ∙ ap (λ (l : List ℕ). foldl plus_one w (in_turn (get_or fs i 0 ∷ []) (take 1 l))) (drop-cons ts i 0 lt))

  from_then : (first i j : ℕ) (w₀ w w' : List Float) → first ≤ i → i ≤ j → j ≤ length fs → j ≤ length ts → w ≡ pairs_from fs ts first i w₀ → w' ≡ pairs_from fs ts i j w → w' ≡ pairs_from fs ts first j w₀
  from_then first i j w₀ w w' h l lf lt e e' =
      let k = i - first in
      let there : i ≡ first + k = omega arith in
      let many : j - i ≡ j - first - k = omega arith in
      pairs_then (drop first fs) (drop first ts) k (j - first) w₀ w w' (omega arith) (omega (arith, length-drop first fs)) (omega (arith, length-drop first ts)) e
      (e'
      ∙ ap (λ (n : ℕ). pair_tally (drop i fs) (drop i ts) n w) many
      ∙ ap (λ (n : ℕ). pair_tally (drop n fs) (drop n ts) (j - first - k) w) there
      ∙ ap (λ (l : List ℕ). pair_tally l (drop (first + k) ts) (j - first - k) w) (sym (drop-drop k first fs))
      ∙ ap (λ (l : List ℕ). pair_tally (drop k (drop first fs)) l (j - first - k) w) (sym (drop-drop k first ts)))

  -- one edge more
  pub from_more : (first i j : ℕ) (w₀ w w' : List Float) → first ≤ i → j ≡ i + 1 → j ≤ length fs → j ≤ length ts → w ≡ pairs_from fs ts first i w₀ → w' ≡ plus_both w i → w' ≡ pairs_from fs ts first j w₀
  from_more first i j w₀ w w' h q lf lt e e' =
      rw q (from_then first i (i + 1) w₀ w w' h (omega arith) (omega arith) (omega arith) e (e' ∙ from_one i w (omega arith) (omega arith)))

  -- four edges, each after the one before it
  pub from_four : (i : ℕ) (w w1 w2 w3 w4 : List Float) (f1 f2 f3 f4 t1 t2 t3 t4 : ℕ) → i + 4 ≤ length fs → i + 4 ≤ length ts
      → f1 ≡ get_or fs i 0 → f2 ≡ get_or fs (i + 1) 0 → f3 ≡ get_or fs (i + 2) 0 → f4 ≡ get_or fs (i + 3) 0
      → t1 ≡ get_or ts i 0 → t2 ≡ get_or ts (i + 1) 0 → t3 ≡ get_or ts (i + 2) 0 → t4 ≡ get_or ts (i + 3) 0
      → w1 ≡ plus_one (plus_one w f1) t1 → w2 ≡ plus_one (plus_one w1 f2) t2 → w3 ≡ plus_one (plus_one w2 f3) t3 → w4 ≡ plus_one (plus_one w3 f4) t4
      → w4 ≡ pairs_from fs ts i (i + 4) w
  from_four i w w1 w2 w3 w4 f1 f2 f3 f4 t1 t2 t3 t4 lf lt p1 p2 p3 p4 q1 q2 q3 q4 e1 e2 e3 e4 =
      let s1 = from_more i i (i + 1) w w w1 (omega arith) refl (omega arith) (omega arith) (from_none i w) (both_at i f1 t1 w w1 p1 q1 e1) in
      let s2 = from_more i (i + 1) (i + 2) w w1 w2 (omega arith) (omega arith) (omega arith) (omega arith) s1 (both_at (i + 1) f2 t2 w1 w2 p2 q2 e2) in
      let s3 = from_more i (i + 2) (i + 3) w w2 w3 (omega arith) (omega arith) (omega arith) (omega arith) s2 (both_at (i + 2) f3 t3 w2 w3 p3 q3 e3) in
      from_more i (i + 3) (i + 4) w w3 w4 (omega arith) (omega arith) (omega arith) (omega arith) s3 (both_at (i + 3) f4 t4 w3 w4 p4 q4 e4)
