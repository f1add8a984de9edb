-- What passes between C and the calls: flags as numbers, what a call said as a struct of numbers. Definitions only.
use Rattle.std.specs.Prelude.{Bool, not, ℕ, eqb}
use Rattle.regions.specs.Region.{zero_f}
use Rattle.answers.specs.declared.Rounds.{Rounds}
use Rattle.answers.specs.Answers.{Said, done, refusal}
use Rattle.graph.specs.Edges.{one_if}
use Rattle.graph.specs.Left.{Left, left}
use Rattle.boundary.specs.declared.Settings.{Settings}
use Rattle.boundary.specs.declared.Report.{Report}
use Rattle.boundary.specs.declared.Election.{Election}
use Rattle.boundary.specs.declared.Text.{Text}
use Rattle.answers.specs.declared.Settings.{Settings as Asked}

-- a flag is raised unless it is 0
abbrev pub raised : ℕ → Bool
raised k = not (eqb k 0)

-- the settings of C as the calls take them
abbrev pub asked : Settings → Asked
asked s = record { damping = s.damping; tolerance = s.tolerance; limit = s.limit }

-- the settings of a call as C has them
abbrev pub returned : Asked → Settings
returned s = record { damping = s.damping; tolerance = s.tolerance; limit = s.limit }

-- the settings in a refusal's struct: every number of it but its answer is 0
abbrev pub no_settings : Settings
no_settings = record { damping = zero_f; tolerance = zero_f; limit = 0 }

-- what an iterative call said, as its struct
abbrev pub reported : Said Rounds → Report
reported (done r) = record { answer = 0; settled = one_if r.settled; rounds = r.rounds; settings = returned r.settings }
reported (refusal k) = record { answer = k; settled = 0; rounds = 0; settings = no_settings }

-- what an election said, as its struct
abbrev pub counted : Said ℕ → Election
counted (done k) = record { answer = 0; elected = k }
counted (refusal k) = record { answer = k; elected = 0 }

-- what `run` said, as its struct: the bytes of text written
abbrev pub written : Said ℕ → Text
written (done k) = record { answer = 0; length = k }
written (refusal k) = record { answer = k; length = 0 }

-- what a call leaves, with what it says put another way
abbrev pub voiced : {A B R : Type 0} → (A → B) → Left A R → Left B R
voiced f o = left (f o.says) o.results o.w32 o.w64 o.wf
