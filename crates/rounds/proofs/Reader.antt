-- From a settled vector to the scores of a call that answers UNSETTLED otherwise: DONE means settled, and the scores are that vector's entries. Assumes nothing.
use mathlib.Core.Path.{◌≡◌, refl, ap, ◌∙◌}
use mathlib.Core.Bool.{Bool, true, false, cond}
use mathlib.Core.List.{List, foldl, [], ◌∷◌}
use Prim.Native.Nat.{ℕ, ◌<◌}
use native.Mathlib.Omega.{arith}
use lib.ListN.{length, get_or, length-set}
use lib.Dec.{eqb}
use lib.Ieee.{Float, nan, binary64, add, mul}
use lib.Ieee.Scale.{finite}
use Rattle.regions.specs.Region.{over}
use Rattle.regions.proofs.Parts.{over_at}
use Rattle.answers.specs.declared.Answer.{Answer}
use Rattle.answers.specs.declared.Answer.TheVariants.{Unsettled}
use Rattle.answers.specs.declared.Settings.{Settings}
use Rattle.answers.specs.declared.Rounds.{Rounds}
use Rattle.answers.specs.Answers.{Said, done, refusal, refuses, refused_with}
use Rattle.graph.specs.Edges.{Edge}
use Rattle.graph.specs.Given.{Given}
use Rattle.graph.specs.Left.{Left, untouched, unless_refused, late_refusal}
use Rattle.rounds.specs.Rounds.{Out}
use Rattle.rounds.specs.Ending.{reported, scored, settled_only}
use Rattle.rounds.specs.Vectors.{entry, gains, spreads}

-- n numbers, each of them finite
pub record AllFinite (n : ℕ) (x : List Float) : Type 0 where
  pub long : length x ≡ n
  pub each : (i : ℕ) → i < n → finite (entry x i) ≡ true

-- a refusal brings no values
pub no_values : {Values : Type 0} {k : ℕ} {v : Values} → refusal k ≡ done v → ⊥
no_values e = let z : ◌≡◌ {A = ℕ} 0 1 = cc in omega arith

-- DONE: nothing refused
pub not_refused : {R : Type 0} (g : Given R) (a : Answer) (did : Left (Said Rounds) R) {r : Rounds} → (unless_refused g a did).says ≡ done r → refuses a ≡ false
not_refused {R} g a did {r} = by (refuses a)
  where
    by : (b : Bool) → (cond b (untouched g (refused_with a)) did).says ≡ done r → b ≡ false
    by true e = absurd (no_values e)
    by false e = refl

module _ (g : Given (List Float)) (settings : Settings) (o : Out (List Float)) where
  -- DONE: the rounds settled, r is their report, and the last vector stands in front of the results
  pub done_settled : (a : Answer) {r : Rounds} → (unless_refused g a (settled_only g settings o)).says ≡ done r
      → (o.settled ≡ true) × ((unless_refused g a (settled_only g settings o)).results ≡ over o.last g.results) × (reported settings o ≡ r)
  done_settled a {r} = by (refuses a) o.settled refl
    where
      by : (b s : Bool) → o.settled ≡ s
          → (cond b (untouched g (refused_with a)) (cond s (scored g settings o) (late_refusal g Unsettled))).says ≡ done r
          → (s ≡ true) × ((cond b (untouched g (refused_with a)) (cond s (scored g settings o) (late_refusal g Unsettled))).results ≡ over o.last g.results) × (reported settings o ≡ r)
      by true s q e = absurd (no_values e)
      by false true q e = (refl, refl, cc)
      by false false q e = absurd (no_values e)

  -- a settled vector of finite numbers gives finite scores
  pub scores_finite : (o.settled ≡ true → AllFinite g.nodes o.last) → (a : Answer) {r : Rounds} → (unless_refused g a (settled_only g settings o)).says ≡ done r
      → (i : ℕ) → i < g.nodes → finite (get_or (unless_refused g a (settled_only g settings o)).results i nan) ≡ true
  scores_finite all a e i l =
      let d = done_settled a e in
      let x = all d.0 in
      ap (λ (xs : List Float). finite (get_or xs i nan)) d.1 ∙ ap finite (over_at o.last g.results nan i (omega (arith, x.long))) ∙ x.each i l

-- ---- an edge changes no vector's length
spreads_long : (directed : Bool) (factor : Float) (x y : List Float) (row col : ℕ) → length (spreads directed factor x y row col) ≡ length y
unfolding spreads
spreads_long true factor x y row col = length-set y row (add binary64 (entry y row) (mul binary64 factor (entry x col)))
spreads_long false factor x y row col = by (eqb row col)
  where
    by : (b : Bool) → length (cond b (gains factor x y row col) (gains factor x (gains factor x y row col) col row)) ≡ length y
    by true = length-set y row (add binary64 (entry y row) (mul binary64 factor (entry x col)))
    by false =
        length-set (gains factor x y row col) col (add binary64 (entry (gains factor x y row col) col) (mul binary64 factor (entry x row)))
        ∙ length-set y row (add binary64 (entry y row) (mul binary64 factor (entry x col)))

pub edges_keep : (directed : Bool) (factor : Edge → Float) (row col : Edge → ℕ) (x y : List Float) (es : List Edge) → length (foldl (λ z e. spreads directed (factor e) x z (row e) (col e)) y es) ≡ length y
edges_keep directed factor row col x y [] = refl
edges_keep directed factor row col x y (e ∷ es) =
    edges_keep directed factor row col x (spreads directed (factor e) x y (row e) (col e)) es ∙ spreads_long directed (factor e) x y (row e) (col e)
