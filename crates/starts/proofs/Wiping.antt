-- How a call over all starts ends, whatever its results are: the fronts are wiped, and PATHS or the results are the outcome. Assumes nothing.
use mathlib.Core.Path.{◌≡◌, sym, ap, ◌∙◌, subst}
use mathlib.Core.Bool.{Bool, true, false, cond}
use mathlib.Core.List.{List}
use Prim.Native.Nat.{ℕ}
use native.Mathlib.Omega.{arith}
use lib.ListN.{length}
use lib.Ieee.{Float}
use Rattle.regions.specs.Region.{cleared, zero_f}
use Rattle.regions.proofs.Fronts.{cleared_after_d}
use Rattle.answers.specs.declared.Answer.TheVariants.{Paths}
use Rattle.graph.specs.declared.Fronts.{Fronts}
use Rattle.answers.specs.Answers.{Said, done, refused_with}
use Rattle.graph.specs.Fronts.{usual_fronts}
use Rattle.graph.specs.Given.{Given, graph_in}
use Rattle.graph.specs.Pres.{Passed, Ready, Roomy}
use Rattle.graph.specs.Refusals.{Tests, first_refusal}
use Rattle.graph.specs.Left.{Left, left, wiped, unless_refused, late_refusal, Wiped}
use Rattle.graph.proofs.Left.{went_on}
use Rattle.hops.specs.Hops.{path_limit}
use Rattle.brandes.specs.Shares.{some_exceeds}
use Rattle.starts.specs.Starts.{Within}

module _ {R : Type 0} (g : Given R) {w c : List ℕ} {f : List Float} (I : Within g.nodes (length g.from) g.w32 g.w64 g.wf w c f)
    {fr : Fronts} (ef : fr ≡ usual_fronts g.nodes (length g.from)) where
  pub wipe_asks : Ready g → Roomy fr (length w) (length c) (length f)
  wipe_asks ready =
      subst (λ (x : Fronts). Roomy x (length w) (length c) (length f)) (sym ef)
      (record {
        r32 = omega (arith, ready.roomy.r32, I.narrow.long);
        r64 = omega (arith, ready.roomy.r64, I.wide.long);
        rf = omega (arith, ready.roomy.rf, I.floats.long);
      })

  module _ {w' c' : List ℕ} {f' : List Float} (W : Wiped fr w c f w' c' f') where
    p32 : w' ≡ cleared 0 (usual_fronts g.nodes (length g.from)).narrow g.w32
    p32 = W.p32 ∙ ap (λ (x : Fronts). cleared 0 x.narrow w) ef ∙ cleared_after_d 0 I.narrow

    p64 : c' ≡ cleared 0 (usual_fronts g.nodes (length g.from)).wide g.w64
    p64 = W.p64 ∙ ap (λ (x : Fronts). cleared 0 x.wide c) ef ∙ cleared_after_d 0 I.wide

    pf : f' ≡ cleared zero_f (usual_fronts g.nodes (length g.from)).floats g.wf
    pf = W.pf ∙ ap (λ (x : Fronts). cleared zero_f x.floats f) ef ∙ cleared_after_d zero_f I.floats

    module _ (t : Tests) (p : Passed t) (results : R) where
      -- what was done, by whether a count was above the limit
      did : Bool → Left (Said (Unit {0})) R
      did b = cond b (late_refusal g Paths) (wiped g (done (tt {0})) results)

      abbrev Outcome : Left (Said (Unit {0})) R
      Outcome = unless_refused g (first_refusal t) (cond (some_exceeds path_limit (graph_in g) g.nodes) (late_refusal g Paths) (wiped g (done (tt {0})) results))

      pub ends_paths : some_exceeds path_limit (graph_in g) g.nodes ≡ true → left {A = Said (Unit {0})} (refused_with Paths) g.results w' c' f' ≡ Outcome
      unfolding did
      ends_paths e =
          let q : left {A = Said (Unit {0})} (refused_with Paths) g.results w' c' f' ≡ late_refusal g Paths = cc (p32, p64, pf) in
          q ∙ ap did (sym e) ∙ went_on g t (did (some_exceeds path_limit (graph_in g) g.nodes)) p

      pub ends_done : some_exceeds path_limit (graph_in g) g.nodes ≡ false → {r : R} → r ≡ results → left {A = Said (Unit {0})} (done (tt {0})) r w' c' f' ≡ Outcome
      unfolding did
      ends_done e {r} s =
          let q : left {A = Said (Unit {0})} (done (tt {0})) r w' c' f' ≡ wiped g (done (tt {0})) results = cc (p32, p64, pf, s) in
          q ∙ ap did (sym e) ∙ went_on g t (did (some_exceeds path_limit (graph_in g) g.nodes)) p
