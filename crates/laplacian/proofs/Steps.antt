-- What the first and the last steps of a call over rows need and leave: nothing refused, the rows built, the workspace wiped.
-- `reaching` and `voterank` begin and end so too. Assumes nothing.
use Rattle.std.proofs.Common.{◌≡◌, ℕ, ◌<◌, ◌≤◌, Bool, true, false, cond, ltb, List, length, get_or, sym, refl, ap, ◌∙◌, arith, ltb-false}
use Rattle.std.specs.Prelude.{Result, Ok, Err}
use lib.Ieee.{Float, nan}
use Rattle.regions.specs.Region.{Front, over, list_of}
use Rattle.regions.proofs.Fronts.{list_long, cleared_after_d}
use Rattle.regions.proofs.Parts.{list_at_lem, over_at}
use Rattle.graph.specs.declared.Fronts.{Fronts}
use Rattle.answers.specs.declared.Refusal.{Refusal}
use Rattle.answers.specs.Answers.{Said, done, refusal, refuses, refused_with, said_by, refused_if}
use Rattle.graph.specs.Fronts.{usual_fronts}
use Rattle.graph.specs.Given.{Given}
use Rattle.graph.specs.Left.{Left, left, untouched, wiped, Wiped, unless_refused}
use Rattle.graph.specs.Pres.{Passed, Ready, Roomy}
use Rattle.graph.specs.Refusals.{Tests, first_refusal, plain_refusal}
use Rattle.graph.proofs.Left.{refused, went_on}
use Rattle.graph.proofs.Refusals.{passed, plain_tests, plain_ready, plain_fits}
use Rattle.rows.specs.Rows.{BuildPre}

-- these are the lengths of the workspace that a call was given
abbrev pub Lengths : {R : Type 0} → Given R → Fronts → Type 0
Lengths g l = (l.narrow ≡ length g.w32) × (l.wide ≡ length g.w64) × (l.floats ≡ length g.wf)

-- the rows of the table that can hold of a call with n scores
abbrev pub score_tests : Given (List Float) → Tests
score_tests g = plain_tests g false false (ltb (length g.results) g.nodes)

-- what the check of such a call returns
abbrev pub checked : Given (List Float) → Fronts → Result (Unit {0}) Refusal
checked g l = refused_if (plain_refusal g.nodes g.from g.to g.weight false false (ltb (length g.results) g.nodes) l.narrow l.wide l.floats)

-- it let the call pass
pub score_passed : (g : Given (List Float)) {l : Fronts} {v : Unit {0}} → Lengths g l → Ok v ≡ checked g l → Passed (score_tests g)
score_passed g h e = passed (score_tests g) (rw (h.0, h.1, h.2) at e)

-- it found the refusal r, and the call returned it as x
pub score_refused : (g : Given (List Float)) (did : Left (Said (Unit {0})) (List Float)) {l : Fronts} {x : Result (Unit {0}) Refusal} {r : Refusal}
    → Lengths g l → x ≡ Err r → Err r ≡ checked g l → untouched g (said_by x) ≡ unless_refused g (first_refusal (score_tests g)) did
score_refused g did h ex e = refused g (score_tests g) did ex (rw (h.0, h.1, h.2) at e)

module _ (g : Given (List Float)) (p : Passed (score_tests g)) where
  pub ready : Ready g
  ready = plain_ready g false false (ltb (length g.results) g.nodes) p

  pub fits : g.nodes ≤ length g.results
  fits = ltb-false _ _ (plain_fits g false false (ltb (length g.results) g.nodes) p)

module _ {R : Type 0} (g : Given R) (ok : Ready g) where
  abbrev pub fronts : Fronts
  fronts = usual_fronts g.nodes (length g.from)

  pub build_pre : BuildPre g.nodes g.from g.to g.weight g.w32
  build_pre = record { sound = ok.sound; room = omega (arith, ok.roomy.r32) }

  -- a workspace that differs from the given one in its used fronts only
  pub record Used (w32 w64 : List ℕ) (wf : List Float) : Type 0 where
    pub u32 : Front g.w32 fronts.narrow w32
    pub u64 : Front g.w64 fronts.wide w64
    pub uf : Front g.wf fronts.floats wf

  module _ {w32 w64 : List ℕ} {wf : List Float} (u : Used w32 w64 wf) where
    pub wipe_pre : {f : Fronts} → f ≡ fronts → Roomy f (length w32) (length w64) (length wf)
    wipe_pre e =
        rw e
        (record { r32 = omega (arith, ok.roomy.r32, u.u32.long); r64 = omega (arith, ok.roomy.r64, u.u64.long); rf = omega (arith, ok.roomy.rf, u.uf.long) })

    -- what a call leaves that wrote the results r and wiped its workspace
    pub wiped_is : {Values : Type 0} {f : Fronts} {w32' w64' : List ℕ} {wf' : List Float} (said : Said Values) (r : R)
        → f ≡ fronts → Wiped f w32 w64 wf w32' w64' wf' → left said r w32' w64' wf' ≡ wiped g said r
    wiped_is {Values} {f} {w32'} {w64'} {wf'} said r e z =
        let z' : Wiped fronts w32 w64 wf w32' w64' wf' = rw e at z in
        cc (z'.p32 ∙ cleared_after_d _ u.u32, z'.p64 ∙ cleared_after_d _ u.u64, z'.pf ∙ cleared_after_d _ u.uf)

-- ---- DONE, from what was left
no_values : {k : ℕ} → refusal k ≡ done (tt {0}) → ⊥
no_values e = let z : ◌≡◌ {A = ℕ} 0 1 = cc in omega arith

module _ (g : Given (List Float)) (score : ℕ → Float) where
  -- the work of such a call, and what it leaves
  abbrev works : Left (Said (Unit {0})) (List Float)
  works = wiped g (done tt) (over (list_of score g.nodes) g.results)

  abbrev pub leaves : Left (Said (Unit {0})) (List Float)
  leaves = unless_refused g (first_refusal (score_tests g)) works

  -- nothing refused
  pub done_passed : leaves.says ≡ done tt → Passed (score_tests g)
  done_passed = by (refuses (first_refusal (score_tests g))) refl
    where
      by : (b : Bool) → refuses (first_refusal (score_tests g)) ≡ b → (cond b (untouched g (refused_with (first_refusal (score_tests g)))) works).says ≡ done tt → Passed (score_tests g)
      by true q e = absurd (no_values e)
      by false q e = passed (score_tests g) {v = tt} (rw q)

  -- each node's score stands in its place
  pub done_at : Passed (score_tests g) → (v : ℕ) → v < g.nodes → get_or leaves.results v nan ≡ score v
  done_at p v l =
      ap (λ (o : Left (Said (Unit {0})) (List Float)). get_or o.results v nan) (sym (went_on g (score_tests g) works p))
      ∙ over_at (list_of score g.nodes) g.results nan v (omega (arith, list_long score g.nodes))
      ∙ list_at_lem score g.nodes nan v l
