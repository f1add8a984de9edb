-- How `survey` ends: what its steps leave is the outcome. Assumes nothing.
use mathlib.Core.Path.{◌≡◌, sym, ap, ap₂, ◌∙◌, subst}
use mathlib.Core.Bool.{Bool, true, cond}
use mathlib.Core.List.{List}
use Prim.Native.Nat.{ℕ, ◌≤◌, ◌<◌}
use native.Mathlib.Nat.{zero-add}
use native.Mathlib.Omega.{arith}
use borrow.Author.Tests.{ltb-false, leb-false}
use lib.Dec.{ltb, leb}
use lib.ListN.{length, get_or}
use lib.Ieee.{Float}
use Rattle.regions.specs.Region.{Front, over, list_of, part, cleared}
use Rattle.regions.proofs.Fronts.{cleared_after, front_then, front_wide}
use Rattle.regions.proofs.Parts.{part_is}
use Rattle.graph.specs.declared.Fronts.{Fronts}
use Rattle.std.specs.Prelude.{Result, Ok, Err}
use Rattle.answers.specs.declared.Answer.{Answer}
use Rattle.answers.specs.declared.Answer.TheVariants.{Paths}
use Rattle.answers.specs.declared.Refusal.{Refusal}
use Rattle.answers.specs.Answers.{Said, done, said_by, refused_if, refused_with}
use Rattle.graph.specs.Fronts.{usual_fronts}
use Rattle.graph.specs.Given.{Given, edges_in, graph_in}
use Rattle.graph.specs.Layout.{distances_at, queue_at}
use Rattle.graph.specs.Left.{Left, left, untouched, wiped, late_refusal, Wiped}
use Rattle.graph.specs.Refusals.{first_refusal, plain_refusal}
use Rattle.graph.specs.Pres.{Passed, Ready, Roomy, Limits}
use Rattle.graph.proofs.Checks.{or_left, or_right}
use Rattle.graph.proofs.Refusals.{passed, plain_tests, plain_ready, plain_fits, plain_start}
use Rattle.graph.proofs.Left.{refused, went_on}
use Rattle.rows.specs.Rows.{BuildPre, Built}
use Rattle.hops.specs.declared.TooManyPaths.{TooManyPaths}
use Rattle.hops.specs.Hops.{Valid, dist, count, exceeds, path_limit}
use Rattle.hops.specs.Search.{RowsOf, Found, TooMany, Ended}
use Rattle.hops.proofs.Limits.{within_limit, exceeds_exactly}
use Rattle.hops.proofs.Workspace.{valid, rows_of}
use Rattle.survey.specs.Survey.{Results, results, too_short, surveyed, survey_outcome}
use Rattle.survey.specs.Steps.{HeldRows, Surveyed, WritePre, Written}

module _ (s : ℕ) (g : Given Results) where
  abbrev n : ℕ
  n = g.nodes

  abbrev m : ℕ
  m = length g.from

  abbrev short : Bool
  short = too_short n (length g.results.distances) (length g.results.counts)

  -- what either end of the work leaves
  abbrev did : Left (Said (Unit {0})) Results
  did = cond (exceeds path_limit (graph_in g) s) (late_refusal g Paths) (wiped g (done tt) (surveyed (graph_in g) s g.results))

  -- t is whether a result slice is too short, and f the lengths of the workspace
  module _ {t : Bool} {f : Fronts} (et : t ≡ short) (ef : (f.narrow ≡ length g.w32) × (f.wide ≡ length g.w64) × (f.floats ≡ length g.wf)) where
    abbrev found_first : Answer
    found_first = plain_refusal n g.from g.to g.weight true (leb n s) t f.narrow f.wide f.floats

    checked : found_first ≡ first_refusal (plain_tests g true (leb n s) short)
    checked = rw (et, ef.0, ef.1, ef.2)

    pub refused_survey : {x : Result (Unit {0}) Refusal} {r : Refusal} → x ≡ Err r → Err r ≡ refused_if found_first → untouched g (said_by x) ≡ survey_outcome s g
    unfolding survey_outcome
    refused_survey ex e = refused g (plain_tests g true (leb n s) short) did ex (e ∙ ap refused_if checked)

    pub passed_survey : {v : Unit {0}} → Ok v ≡ refused_if found_first → Passed (plain_tests g true (leb n s) short)
    passed_survey e = passed (plain_tests g true (leb n s) short) (e ∙ ap refused_if checked)

  module _ (p : Passed (plain_tests g true (leb n s) short)) where
    pub ready_survey : Ready g
    ready_survey = plain_ready g true (leb n s) short p

    pub start_survey : s < n
    start_survey = leb-false n s (plain_start g true (leb n s) short p)

    ok : Valid (graph_in g)
    ok = valid g.directed ready_survey.sound

    fits : n ≤ length g.results.distances
    fits = ltb-false _ _ (or_left (ltb (length g.results.distances) n) (ltb (length g.results.counts) n) (plain_fits g true (leb n s) short p))

    fits_counts : n ≤ length g.results.counts
    fits_counts = ltb-false _ _ (or_right (ltb (length g.results.distances) n) (ltb (length g.results.counts) n) (plain_fits g true (leb n s) short p))

    pub limits : Limits n m
    limits = ready_survey.sound.limits

    pub build_pre : BuildPre n g.from g.to g.weight g.w32
    build_pre = record { sound = ready_survey.sound; room = omega (arith, ready_survey.roomy.r32) }

    -- from the rows in w1
    module _ (w1 : List ℕ) (B : Built n g.directed g.from g.to g.weight g.w32 w1) where
      rows : RowsOf (graph_in g) w1 (distances_at n m)
      rows = rows_of g.directed B (omega arith)

      pub held : HeldRows n m s w1 g.w64
      held =
          record {
            directed = g.directed;
            edges = edges_in g;
            valid = ok;
            rows = rows;
            start = start_survey;
            limits = ready_survey.sound.limits;
            room = omega (arith, ready_survey.roomy.r32, B.front.long);
            counts = ready_survey.roomy.r64;
          }

      -- and what the search left
      module _ (w2 c2 : List ℕ) (r : Result ℕ TooManyPaths) (S : Surveyed n m s w1 g.w64 w2 c2 r) where
        pub write_pre : WritePre n m w2 c2 g.results.distances g.results.counts
        write_pre =
            record {
              limits = ready_survey.sound.limits;
              distances = omega (arith, ready_survey.roomy.r32, B.front.long, S.narrow.long);
              counts = omega (arith, ready_survey.roomy.r64, S.wide.long);
              fits = fits;
              fits_counts = fits_counts;
            }

        front32 : Front g.w32 (usual_fronts n m).narrow w2
        front32 = front_then (front_wide (usual_fronts n m).narrow (omega arith) B.front) S.narrow

        pub wipe_pre : (f : Fronts) → f ≡ usual_fronts n m → Roomy f (length w2) (length c2) (length g.wf)
        wipe_pre f e = rw e record { r32 = omega (arith, ready_survey.roomy.r32, front32.long); r64 = omega (arith, ready_survey.roomy.r64, S.wide.long); rf = ready_survey.roomy.rf }

        module _ (said : Result (Unit {0}) Refusal) (d' k' : List ℕ) (w3 c3 : List ℕ) (f3 : List Float) {f : Fronts} (ef : f ≡ usual_fronts n m) (zf : Wiped f w2 c2 g.wf w3 c3 f3) where
          z : Wiped (usual_fronts n m) w2 c2 g.wf w3 c3 f3
          z = subst (λ (x : Fronts). Wiped x w2 c2 g.wf w3 c3 f3) ef zf

          e32 : w3 ≡ cleared 0 (usual_fronts n m).narrow g.w32
          e32 = z.p32 ∙ cleared_after front32

          e64 : c3 ≡ cleared 0 (usual_fronts n m).wide g.w64
          e64 = z.p64 ∙ cleared_after S.wide

          -- the results of a search that is over
          found : (t : ℕ) → Found (graph_in g) path_limit s w2 c2 (distances_at n m) (queue_at n m) t → said ≡ Ok tt
              → d' ≡ over (part w2 (distances_at n m) n) g.results.distances → k' ≡ over (part c2 0 n) g.results.counts
              → left (said_by said) (results d' k') w3 c3 f3 ≡ did
          unfolding surveyed
          found t F es ed ek =
              let pd : part w2 (distances_at n m) n ≡ list_of (dist (graph_in g) s) n = part_is 0 w2 (distances_at n m) n (dist (graph_in g) s) write_pre.distances F.dists in
              let pk : part c2 0 n ≡ list_of (count (graph_in g) s) n = part_is 0 c2 0 n (count (graph_in g) s) (omega (arith, write_pre.counts)) (λ i l. ap (λ (x : ℕ). get_or c2 x 0) (zero-add i) ∙ F.ways i l) in
              let qd : d' ≡ over (list_of (dist (graph_in g) s) n) g.results.distances = ed ∙ ap (λ (l : List ℕ). over l g.results.distances) pd in
              let qk : k' ≡ over (list_of (count (graph_in g) s) n) g.results.counts = ek ∙ ap (λ (l : List ℕ). over l g.results.counts) pk in
              let l : left (said_by said) (results d' k') w3 c3 f3 ≡ wiped g (done tt) (surveyed (graph_in g) s g.results) = cc (es, qd, qk, e32, e64, z.pf) in
              l ∙ sym (ap (λ (b : Bool). cond b (late_refusal g Paths) (wiped g (done tt) (surveyed (graph_in g) s g.results))) (within_limit path_limit (graph_in g) s F.small))

          -- a count that exceeds the limit
          paths : TooMany (graph_in g) path_limit s → said ≡ Err (record { answer = Paths }) → d' ≡ g.results.distances → k' ≡ g.results.counts → left (said_by said) (results d' k') w3 c3 f3 ≡ did
          paths T es ed ek =
              let er : results d' k' ≡ g.results = ap₂ results ed ek in
              let l : left (refused_with {Values = Unit {0}} Paths) (results d' k') w3 c3 f3 ≡ late_refusal g Paths = cc (er, e32, e64, z.pf) in
              ap (λ (q : Result (Unit {0}) Refusal). left (said_by q) (results d' k') w3 c3 f3) es ∙ l ∙ sym (ap (λ (b : Bool). cond b (late_refusal g Paths) (wiped g (done tt) (surveyed (graph_in g) s g.results))) ((exceeds_exactly path_limit (graph_in g) s).1 T))

          either : (r : Result ℕ TooManyPaths) → Ended (graph_in g) path_limit s (distances_at n m) (queue_at n m) w2 c2 r → Written n m w2 c2 g.results.distances g.results.counts d' k' r said
              → left (said_by said) (results d' k') w3 c3 f3 ≡ did
          either (Ok t) F W = found t F W.0 W.1 W.2
          either (Err e) T W = paths T W.0 W.1 W.2

          pub ended : Written n m w2 c2 g.results.distances g.results.counts d' k' r said → left (said_by said) (results d' k') w3 c3 f3 ≡ survey_outcome s g
          unfolding survey_outcome
          ended W = either r (S.ended g.directed (edges_in g) ok rows) W ∙ went_on g (plain_tests g true (leb n s) short) did p
