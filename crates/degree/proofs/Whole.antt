-- Each score that a degree call leaves is the number of a node's ends, unrounded. Assumes nothing.
use mathlib.Core.Path.{◌≡◌, refl, sym, ◌∙◌, subst}
use mathlib.Core.Bool.{Bool, true, false, ◌&&◌, cond}
use mathlib.Core.List.{List, [], ◌∷◌}
use Prim.Native.Nat.{ℕ, ◌*◌, ◌^◌, ◌≤◌, ◌<◌}
use native.Mathlib.Omega.{arith}
use lib.Dec.{eqb}
use lib.ListN.{length, get_or}
use lib.Ieee.{Float, nan, binary64, of_int}
use lib.Ieee.Exact.{HasValue}
use lib.Ieee.Back.{round_whole}
use Rattle.regions.specs.Region.{over}
use Rattle.regions.proofs.Fronts.{list_long}
use Rattle.regions.proofs.Parts.{list_at_lem, over_at}
use Rattle.answers.specs.Answers.{Said, done, refusal, refuses, refused_with}
use Rattle.graph.specs.Edges.{Edge, one_if}
use Rattle.graph.specs.Fronts.{no_fronts}
use Rattle.graph.specs.Given.{Given, edges_in}
use Rattle.graph.specs.Left.{Left, untouched, wiped_by}
use Rattle.graph.specs.Pres.{Passed}
use Rattle.graph.specs.Refusals.{first_refusal}
use Rattle.graph.proofs.Checks.{or_left}
use Rattle.graph.proofs.Edges.{edges_long}
use Rattle.graph.proofs.Refusals.{passed, sound}
use Rattle.degree.specs.Degree.{end_count, end_score, end_scores, ends_outcome}
use Rattle.degree.proofs.Ending.{tests}

-- an edge has two ends
one_most : (b : Bool) → one_if b ≤ 1
one_most true = omega arith
one_most false = omega arith

ends_most : (froms tos : Bool) (es : List Edge) (v : ℕ) → end_count froms tos es v ≤ 2 * length es
unfolding end_count
ends_most froms tos [] v = omega arith
ends_most froms tos (e ∷ es) v = omega (arith, one_most (froms && eqb e.from v), one_most (tos && eqb e.to v), ends_most froms tos es v)

no_values : {k : ℕ} → refusal k ≡ done (tt {0}) → ⊥
no_values e = let z : ◌≡◌ {A = ℕ} 0 1 = cc in omega arith

module _ (froms tos : Bool) (g : Given (List Float)) where
  -- a number of ends is far below 2^53, up to which every whole number is a double
  few : Passed (tests g) → (v : ℕ) → end_count froms tos (edges_in g) v ≤ 2 ^ 53
  few ok v =
      let s = sound g.nodes g.from g.to g.weight ok.size (or_left _ false ok.node) in
      omega (arith, ends_most froms tos (edges_in g) v, edges_long g.from g.to g.weight s.sized, s.limits.edges)

  -- DONE leaves at each node the number of its ends: the score is finite, its sign is +, and it equals that number
  pub degree_whole : (ends_outcome froms tos g).says ≡ done tt → (v : ℕ) → v < g.nodes → HasValue (get_or (ends_outcome froms tos g).results v nan) false (end_count froms tos (edges_in g) v) 1
  unfolding ends_outcome end_scores of_int
  degree_whole = by (refuses (first_refusal (tests g))) refl
    where
      did : Left (Said (Unit {0})) (List Float)
      did = wiped_by no_fronts g (done tt) (over (end_scores froms tos g) g.results)

      by : (b : Bool) → refuses (first_refusal (tests g)) ≡ b → (cond b (untouched g (refused_with (first_refusal (tests g)))) did).says ≡ done tt → (v : ℕ) → v < g.nodes
          → HasValue (get_or (cond b (untouched g (refused_with (first_refusal (tests g)))) did).results v nan) false (end_count froms tos (edges_in g) v) 1
      by true q e v l = absurd (no_values e)
      by false q e v l =
          subst (λ (x : Float). HasValue x false (end_count froms tos (edges_in g) v) 1)
          (sym (over_at (end_scores froms tos g) g.results nan v (omega (arith, list_long (end_score froms tos (edges_in g)) g.nodes)) ∙ list_at_lem (end_score froms tos (edges_in g)) g.nodes nan v l))
          (round_whole binary64 false (end_count froms tos (edges_in g) v) (few (passed (tests g) (rw q refl)) v))
