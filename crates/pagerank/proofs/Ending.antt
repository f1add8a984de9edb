-- How `pagerank` begins and ends: the start divided by its sum, and what is left is the outcome. Assumes nothing.
use Rattle.std.proofs.Common.{◌≡◌, ℕ, ◌*◌, ◌≤◌, Bool, false, eqb, ltb, List, length, ap, ◌∙◌, arith}
use lib.Ieee.{Float, nan}
use Rattle.regions.specs.Region.{list_of, Front}
use Rattle.regions.proofs.Fronts.{front_wide, front_then}
use Rattle.regions.proofs.Frames.{frame_front, frame_part}
use Rattle.std.specs.Prelude.{Result}
use Rattle.answers.specs.declared.Refusal.{Refusal}
use Rattle.answers.specs.declared.Settings.{Settings}
use Rattle.answers.specs.declared.Rounds.{Rounds}
use Rattle.answers.specs.Answers.{Said, refused_if}
use Rattle.graph.specs.declared.Fronts.{Fronts}
use Rattle.graph.specs.Fronts.{usual_fronts}
use Rattle.graph.specs.Given.{Given, graph_in}
use Rattle.graph.specs.Left.{Left}
use Rattle.graph.specs.Pres.{Ready, Passed}
use Rattle.graph.specs.Refusals.{first_refusal}
use Rattle.graph.proofs.Left.{went_on}
use Rattle.lists.specs.Lists.{Share}
use Rattle.rounds.specs.declared.Own.{Own}
use Rattle.rounds.specs.Rounds.{outcome}
use Rattle.rounds.specs.Tests.{reads_wrong, length_wrong, own_tests}
use Rattle.rounds.specs.Ending.{scored}
use Rattle.rounds.specs.Steps.{RoundsDone}
use Rattle.rounds.specs.Vectors.{current_in}
use Rattle.rounds.proofs.Tests.{checked, iterative_ready, iterative_fits, length_right}
use Rattle.links.specs.Links.{Links, links_of, links_in, shares_in, outs_in, divisor_of, divided_at, divided}
use Rattle.links.specs.Steps.{LinksPre, Prepared, written_by, DividePre, Divided}
use Rattle.links.proofs.Turns.{shares_kept}
use Rattle.links.proofs.Rounds.{links_pre_long}
use Rattle.links.proofs.Ending.{written}
use Rattle.pagerank.specs.PageRank.{pagerank_step, pagerank_rounds, start_wrong, pagerank_own, pagerank_tests, pagerank_outcome}

-- ---- `pagerank`
module _ (settings : Settings) (flag : Bool) (start : List Float) (g : Given (List Float)) where
  -- the tests as the code found them
  pub answered : {x : Result (Unit {0}) Refusal} {l : Fronts} {b c d : Bool} {sum : Float} → (l.narrow ≡ length g.w32) × (l.wide ≡ length g.w64) × (l.floats ≡ length g.wf)
      → b ≡ reads_wrong g.weight settings.damping settings.tolerance flag start → c ≡ length_wrong flag (length start) g.nodes → d ≡ start_wrong flag g.nodes sum → sum ≡ divisor_of flag start g.nodes
      → let own : Own = record { number = b; damping = false; rounds = false; lengths = c; start = d } in
      x ≡ refused_if (first_refusal (own_tests g.nodes g.from g.to g.weight false own (ltb (length g.results) g.nodes) l.narrow l.wide l.floats))
      → x ≡ refused_if (first_refusal (pagerank_tests settings flag start g))
  answered z eb ec ed es e = rw (eb, ec, ed, es) at (checked g false _ z e)

  module _ (p : Passed (pagerank_tests settings flag start g)) where
    pub ready : Ready g
    ready = iterative_ready g false (pagerank_own settings flag start g) p

    pub fits : g.nodes ≤ length g.results
    fits = iterative_fits g false (pagerank_own settings flag start g) p

    module _ {w1 : List ℕ} {wf1 : List Float} (s1 : Prepared g.nodes g.directed g.from g.to g.weight g.w32 w1 g.wf wf1) where
      pub divide_pre : DividePre g.nodes flag start 0 wf1
      divide_pre = record { long = length_right flag (length start) g.nodes p.lengths; room = omega (arith, s1.pre.room) }

      module _ {wf2 : List Float} {sum : Float} (es : sum ≡ divisor_of flag start g.nodes) (s2 : Divided g.nodes (list_of (divided_at flag start sum) g.nodes) 0 wf1 wf2) where
        pub run_pre : LinksPre g.nodes w1 wf2
        run_pre = links_pre_long s1.pre s2.frame.long

        links : links_in g.nodes w1 wf2 ≡ links_of (graph_in g)
        links =
            ap (λ (o : List Float). record { nodes = g.nodes; outs = o; shares = list_of (shares_in g.nodes w1 wf2) g.nodes })
            (frame_part nan (2 * g.nodes) g.nodes s2.frame (omega (arith, s1.pre.room)) (λ i l a b. omega arith))
            ∙ ap (λ (x : List (List Share)). record { nodes = g.nodes; outs = outs_in g.nodes wf1; shares = x }) (shares_kept g.nodes w1 (frame_front (4 * g.nodes) (omega arith) s2.frame))
            ∙ s1.links

        begins : current_in g.nodes wf2 ≡ divided flag start g.nodes
        unfolding divided
        begins = s2.there ∙ ap (λ (z : Float). list_of (divided_at flag start z) g.nodes) es

        rounds_are : outcome (eqb g.nodes 0) (pagerank_step (links_in g.nodes w1 wf2) settings.damping settings.tolerance) settings.limit (current_in g.nodes wf2)
            ≡ pagerank_rounds (links_of (graph_in g)) settings flag start
        unfolding pagerank_rounds
        rounds_are =
            ap (λ (l : Links). outcome (eqb g.nodes 0) (pagerank_step l settings.damping settings.tolerance) settings.limit (current_in g.nodes wf2)) links
            ∙ ap (outcome (eqb g.nodes 0) (pagerank_step (links_of (graph_in g)) settings.damping settings.tolerance) settings.limit) begins

        module _ {wf3 : List Float} {r : Rounds} (s3 : RoundsDone g.nodes settings (outcome (eqb g.nodes 0) (pagerank_step (links_in g.nodes w1 wf2) settings.damping settings.tolerance) settings.limit (current_in g.nodes wf2)) wf2 r wf3) where
          pub moved : Front wf1 (4 * g.nodes) wf3
          moved = front_then (frame_front (4 * g.nodes) (omega arith) s2.frame) (front_wide (4 * g.nodes) (omega arith) s3.front)

          pub ended : {o : Left (Said Rounds) (List Float)} → o ≡ written_by (usual_fronts g.nodes (length g.from)) r (current_in g.nodes wf3) g.results w1 g.w64 wf3 → o ≡ pagerank_outcome settings flag start g
          unfolding pagerank_outcome
          ended e =
              e
              ∙ written g ready fits s1 settings (pagerank_rounds (links_of (graph_in g)) settings flag start) r moved s3.settings_kept (s3.ended ∙ rounds_are)
              ∙ went_on g (pagerank_tests settings flag start g) (scored g settings (pagerank_rounds (links_of (graph_in g)) settings flag start)) p
