-- What a call leaves: what it says, its results and the workspace it was lent. Definitions only.
use Rattle.std.specs.Prelude.{◌≡◌, cond, List, ℕ, length, Float}
use Rattle.regions.specs.Region.{cleared, zero_f}
use Rattle.answers.specs.declared.Answer.{Answer}
use Rattle.graph.specs.declared.Fronts.{Fronts}
use Rattle.answers.specs.Answers.{Said, number_said, refuses, refused_with}
use Rattle.graph.specs.Given.{Given}
use Rattle.graph.specs.Fronts.{usual_fronts}

-- what a call leaves: A is what the call says, R what its result slices hold
pub record Left (A R : Type 0) : Type 0 where
  pub says : A
  pub results : R
  pub w32 : List ℕ
  pub w64 : List ℕ
  pub wf : List Float

-- what a call leaves, from its parts
abbrev pub left : {A R : Type 0} → A → R → List ℕ → List ℕ → List Float → Left A R
left a r w32 w64 wf = record { says = a; results = r; w32 = w32; w64 = w64; wf = wf }

-- every slice as it was
abbrev pub untouched : {A R : Type 0} → Given R → A → Left A R
untouched g a = left a g.results g.w32 g.w64 g.wf

-- the results r, and these fronts of the workspace at zero
abbrev pub wiped_by : {A R : Type 0} → Fronts → Given R → A → R → Left A R
wiped_by f g a r = left a r (cleared 0 f.narrow g.w32) (cleared 0 f.wide g.w64) (cleared zero_f f.floats g.wf)

-- the results r, and the used front of the workspace at zero
abbrev pub wiped : {A R : Type 0} → Given R → A → R → Left A R
wiped g a r = wiped_by (usual_fronts g.nodes (length g.from)) g a r

-- a refusal before any work is its number, with every slice as it was; else the call did its work
abbrev pub unless_refused : {Values R : Type 0} → Given R → Answer → Left (Said Values) R → Left (Said Values) R
unless_refused g a did = cond (refuses a) (untouched g (refused_with a)) did

-- a refusal after work (PATHS, UNSETTLED): its number, the results as they were, the used front at zero
abbrev pub late_refusal : {Values R : Type 0} → Given R → Answer → Left (Said Values) R
late_refusal g a = wiped g (refused_with a) g.results

-- the same with the answer's number alone, for callers from C
abbrev pub in_numbers : {Values R : Type 0} → Left (Said Values) R → Left ℕ R
in_numbers o = left (number_said o.says) o.results o.w32 o.w64 o.wf

-- the three parts of a workspace after these fronts of them were cleared
pub record Wiped (f : Fronts) (w32 w64 : List ℕ) (wf : List Float) (w32' w64' : List ℕ) (wf' : List Float) : Type 0 where
  pub p32 : w32' ≡ cleared 0 f.narrow w32
  pub p64 : w64' ≡ cleared 0 f.wide w64
  pub pf : wf' ≡ cleared zero_f f.floats wf
