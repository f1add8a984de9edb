-- What an iterative call leaves when its rounds ended so. Definitions only.
use Rattle.std.specs.Prelude.{cond, List, ℕ, ◌≤◌, length, Float}
use Rattle.regions.specs.Region.{over, cleared, zero_f}
use Rattle.answers.specs.declared.Answer.TheVariants.{Unsettled}
use Rattle.answers.specs.declared.Settings.{Settings}
use Rattle.answers.specs.declared.Rounds.{Rounds}
use Rattle.graph.specs.declared.Fronts.{Fronts}
use Rattle.answers.specs.Answers.{Said, done, refused_with}
use Rattle.graph.specs.Pres.{Roomy}
use Rattle.graph.specs.Given.{Given}
use Rattle.graph.specs.Left.{Left, left, wiped, late_refusal}
use Rattle.rounds.specs.Rounds.{Out}

-- the settings, the rounds done, and whether a stop rule was met
abbrev pub reported : Settings → Out (List Float) → Rounds
reported s o = record { settings = s; rounds = o.rounds; settled = o.settled }

-- DONE with the last vector as scores, settled or not
abbrev pub scored : Given (List Float) → Settings → Out (List Float) → Left (Said Rounds) (List Float)
scored g s o = wiped g (done (reported s o)) (over o.last g.results)

-- DONE if a stop rule was met, and UNSETTLED if all rounds were used and none was
abbrev pub settled_only : Given (List Float) → Settings → Out (List Float) → Left (Said Rounds) (List Float)
settled_only g s o = cond o.settled (scored g s o) (late_refusal g Unsettled)

-- the same for a call that did its rounds: x is their last vector, and these fronts of the workspace are cleared either way
unfoldable pub settled_by : Fronts → Rounds → List Float → List Float → List ℕ → List ℕ → List Float → Left (Said Rounds) (List Float)
settled_by f r x scores w32 w64 wf =
    cond r.settled
    (left (done r) (over x scores) (cleared 0 f.narrow w32) (cleared 0 f.wide w64) (cleared zero_f f.floats wf))
    (left (refused_with Unsettled) scores (cleared 0 f.narrow w32) (cleared 0 f.wide w64) (cleared zero_f f.floats wf))

-- room in the workspace, for the vector there, and for the scores
pub record WritePre (n : ℕ) (f : Fronts) (scores : List Float) (w32 w64 : List ℕ) (wf : List Float) : Type 0 where
  pub roomy : Roomy f (length w32) (length w64) (length wf)
  pub vector : n ≤ length wf
  pub fits : n ≤ length scores
