-- P1 and P3 of document 01, the survey's part: whole outcomes of the call, computed from the definition that its contract cites. Assumes nothing.
use mathlib.Core.Path.{◌≡◌, refl}
use mathlib.Core.Bool.{true, false}
use mathlib.Core.List.{[], ◌∷◌, ◌++◌}
use lib.ListN.{replicate}
use lib.Ieee.{nan}
use Rattle.regions.specs.Region.{over, list_of, cleared, zero_f}
use Rattle.answers.specs.declared.Answer.TheVariants.{Node}
use Rattle.answers.specs.Answers.{done, refused_with}
use Rattle.graph.specs.Edges.{edges_from, newest_first, neighbours}
use Rattle.graph.specs.Given.{Given, given}
use Rattle.graph.specs.Checks.{size_wrong, first_fault, node_wrong, work_wrong}
use Rattle.graph.specs.Refusals.{first_of, first_refusal}
use Rattle.graph.specs.Left.{left}
use Rattle.hops.specs.Sum.{sum_over, same}
use Rattle.hops.specs.Hops.{walks, seek, dist, count, exceeds_below, exceeds, unreached}
use Rattle.survey.specs.Survey.{Results, results, surveyed, survey_outcome}

-- undirected 0-1, 1-3, 0-2, 2-3; a slot more than the results need, and a place more than each used front
abbrev square : Given Results
square = given 4 false (0 ∷ 1 ∷ 0 ∷ 2 ∷ []) (1 ∷ 3 ∷ 2 ∷ 3 ∷ []) (replicate 4 nan) (results (replicate 5 7) (replicate 5 7)) (replicate 73 7) (replicate 9 7) (replicate 41 nan)

-- directed 0→1 twice, 1→2
abbrev doubled : Given Results
doubled = given 3 true (0 ∷ 0 ∷ 1 ∷ []) (1 ∷ 1 ∷ 2 ∷ []) (replicate 3 nan) (results (replicate 4 7) (replicate 4 7)) (replicate 57 7) (replicate 7 7) (replicate 31 nan)

pub record P1Survey : Type 0 where
  -- the survey from 0 gives distances 0,1,1,2, counts 1,1,1,2
  pub from_0 : survey_outcome 0 square
      ≡ left (done tt) (results (0 ∷ 1 ∷ 1 ∷ 2 ∷ 7 ∷ []) (1 ∷ 1 ∷ 1 ∷ 2 ∷ 7 ∷ [])) (replicate 72 0 ++ (7 ∷ [])) (replicate 8 0 ++ (7 ∷ [])) (replicate 40 zero_f ++ (nan ∷ []))

pub record P3Survey : Type 0 where
  -- the counts from 0 are 1,2,2
  pub from_0 : survey_outcome 0 doubled
      ≡ left (done tt) (results (0 ∷ 1 ∷ 2 ∷ 7 ∷ []) (1 ∷ 2 ∷ 2 ∷ 7 ∷ [])) (replicate 56 0 ++ (7 ∷ [])) (replicate 6 0 ++ (7 ∷ [])) (replicate 30 zero_f ++ (nan ∷ []))

pub p1_survey : P1Survey
unfolding survey_outcome surveyed exceeds exceeds_below dist count seek walks sum_over same neighbours newest_first edges_from first_refusal first_of size_wrong node_wrong first_fault work_wrong over cleared list_of
p1_survey = record { from_0 = refl }

pub p3_survey : P3Survey
unfolding survey_outcome surveyed exceeds exceeds_below dist count seek walks sum_over same neighbours newest_first edges_from first_refusal first_of size_wrong node_wrong first_fault work_wrong over cleared list_of
p3_survey = record { from_0 = refl }

-- ---- beside the table

-- from the far end nothing is reached but itself
from_2 : survey_outcome 2 doubled
    ≡ left (done tt) (results (unreached ∷ unreached ∷ 0 ∷ 7 ∷ []) (0 ∷ 0 ∷ 1 ∷ 7 ∷ [])) (replicate 56 0 ++ (7 ∷ [])) (replicate 6 0 ++ (7 ∷ [])) (replicate 30 zero_f ++ (nan ∷ []))
unfolding survey_outcome surveyed exceeds exceeds_below dist count seek walks sum_over same neighbours newest_first edges_from first_refusal first_of size_wrong node_wrong first_fault work_wrong over cleared list_of
from_2 = refl

-- a start that is no node
from_3 : survey_outcome 3 doubled ≡ left (refused_with Node) (results (replicate 4 7) (replicate 4 7)) (replicate 57 7) (replicate 7 7) (replicate 31 nan)
unfolding survey_outcome exceeds exceeds_below dist count seek walks sum_over same neighbours newest_first edges_from first_refusal first_of size_wrong node_wrong first_fault work_wrong
from_3 = refl
