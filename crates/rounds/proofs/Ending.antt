-- How a call whose rounds ended leaves its slices. Assumes nothing.
use mathlib.Core.Path.{◌≡◌, ap, ◌∙◌}
use mathlib.Core.Bool.{true, false, cond}
use mathlib.Core.List.{List}
use Prim.Native.Nat.{ℕ, ◌+◌, ◌≤◌}
use native.Mathlib.Omega.{arith}
use lib.ListN.{length}
use lib.Ieee.{Float}
use Rattle.regions.specs.Region.{over, cleared, zero_f, Front}
use Rattle.regions.proofs.Fronts.{cleared_after_d, front_wide}
use Rattle.answers.specs.declared.Answer.TheVariants.{Unsettled}
use Rattle.answers.specs.declared.Settings.{Settings}
use Rattle.answers.specs.declared.Rounds.{Rounds}
use Rattle.graph.specs.declared.Fronts.{Fronts}
use Rattle.answers.specs.Answers.{done, refused_with}
use Rattle.graph.specs.Fronts.{usual_fronts}
use Rattle.graph.specs.Given.{Given}
use Rattle.graph.specs.Left.{left, Wiped}
use Rattle.graph.specs.Pres.{Ready}
use Rattle.rounds.specs.Rounds.{Out, out}
use Rattle.rounds.specs.Ending.{reported, settled_only, settled_by, WritePre}

module _ (g : Given (List Float)) (ok : Ready g) (fits : g.nodes ≤ length g.results) where
  -- the two vectors lie within the used front
  pub vectors_room : g.nodes + g.nodes ≤ length g.wf
  vectors_room = omega (arith, ok.roomy.rf)

  -- wf1 is what the rounds left, x their last vector, r what they reported
  module _ (wf1 : List Float) (front : Front g.wf (g.nodes + g.nodes) wf1) where
    pub write_pre : WritePre g.nodes (usual_fronts g.nodes (length g.from)) g.results g.w32 g.w64 wf1
    write_pre =
        record {
          roomy = record { r32 = ok.roomy.r32; r64 = ok.roomy.r64; rf = omega (arith, ok.roomy.rf, front.long) };
          vector = omega (arith, vectors_room, front.long);
          fits = fits;
        }

    pub settled_ends : (settings : Settings) (o : Out (List Float)) (r : Rounds) (x : List Float) → r.settings ≡ settings → out x r.rounds r.settled ≡ o
        → settled_by (usual_fronts g.nodes (length g.from)) r x g.results g.w32 g.w64 wf1 ≡ settled_only g settings o
    unfolding settled_by
    settled_ends settings o r x es eo =
        let f = usual_fronts g.nodes (length g.from) in
        ap
        (λ (z : List Float).
        cond r.settled
        (left (done r) (over x g.results) (cleared 0 f.narrow g.w32) (cleared 0 f.wide g.w64) z)
        (left (refused_with Unsettled) g.results (cleared 0 f.narrow g.w32) (cleared 0 f.wide g.w64) z))
        (cleared_after_d zero_f (front_wide f.floats (omega arith) front))
        ∙ ap (λ (s : Settings). settled_by f (record { settings = s; rounds = r.rounds; settled = r.settled }) x g.results g.w32 g.w64 g.wf) es
        ∙ ap (λ (p : Out (List Float)). settled_by f (reported settings p) p.last g.results g.w32 g.w64 g.wf) eo

-- ---- the two ends of `write_settled`
module _ (f : Fronts) (r : Rounds) (x scores : List Float) (w32 w64 : List ℕ) (wf : List Float) {w32' w64' : List ℕ} {wf' : List Float} where
  pub wrote : {scores' : List Float} → r.settled ≡ true → scores' ≡ over x scores → Wiped f w32 w64 wf w32' w64' wf' → left (done r) scores' w32' w64' wf' ≡ settled_by f r x scores w32 w64 wf
  unfolding settled_by
  wrote t e z = rw t (cc (e, z.p32, z.p64, z.pf))

  pub wrote_not : r.settled ≡ false → Wiped f w32 w64 wf w32' w64' wf' → left (refused_with Unsettled) scores w32' w64' wf' ≡ settled_by f r x scores w32 w64 wf
  unfolding settled_by
  wrote_not t z = rw t (cc (z.p32, z.p64, z.pf))
