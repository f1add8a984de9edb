-- The text of a measure's answer is the same on all result slots and workspaces that have room. Assumes nothing.
use mathlib.Core.Path.{◌≡◌, refl, sym, ap, ◌∙◌}
use mathlib.Core.Bool.{Bool, true, false, cond, ◌||◌}
use mathlib.Core.List.{List, []}
use Rattle.std.specs.Prelude.{None, Some}
use Prim.Native.Nat.{ℕ, ◌≤◌}
use native.Mathlib.Omega.{arith}
use borrow.Author.Tests.{le-ltb}
use lib.Dec.{eqb, ltb}
use lib.ListN.{length, take, drop, replicate, length-replicate}
use lib.Seq.{take_at}
use lib.Ieee.{Float}
use Rattle.regions.specs.Region.{zero_f, over, list_of}
use Rattle.regions.proofs.Fronts.{list_long}
use Rattle.answers.specs.declared.Answer.{Answer}
use Rattle.answers.specs.declared.Answer.TheVariants.{Paths, Unsettled}
use Rattle.answers.specs.declared.Rounds.{Rounds}
use Rattle.answers.specs.Answers.{Said, done, refuses, refused_with}
use Rattle.answers.specs.Settings.{job_node_limit, job_edge_limit}
use Rattle.graph.specs.declared.Fronts.{Fronts}
use Rattle.graph.specs.Fronts.{usual_fronts, no_fronts}
use Rattle.graph.specs.Edges.{neighbours}
use Rattle.graph.specs.Given.{Given, graph_in, edges_in}
use Rattle.graph.specs.Checks.{work_wrong}
use Rattle.graph.specs.Pres.{Roomy}
use Rattle.graph.specs.Refusals.{Tests, first_refusal, ends_tests, room_wrong, plainly}
use Rattle.graph.specs.Left.{Left, untouched, wiped_by, wiped, unless_refused, late_refusal}
use Rattle.hops.specs.Hops.{path_limit}
use Rattle.brandes.specs.Shares.{some_exceeds}
use Rattle.rounds.specs.declared.Own.{Own}
use Rattle.rounds.specs.Rounds.{Out}
use Rattle.rounds.specs.Tests.{iterative_tests}
use Rattle.rounds.specs.Ending.{reported, scored}
use Rattle.links.specs.Links.{links_of}
use Rattle.lines.specs.declared.Measure.{Measure}
use Rattle.lines.specs.declared.Measure.TheVariants.{Betweenness, Pagerank, Personalized, Eigenvector, Katz, Reaching, Voterank, Laplacian, Degree}
use Rattle.lines.specs.declared.Top.{Top}
use Rattle.reply.specs.Reply.{answer_text, election_text}
use Rattle.outcomes.specs.Lent.{Lent, lent, given_scores, given_elected, given_places}
use Rattle.outcomes.specs.Texts.{said_text, settings_of, plain_of, ended_of}
use Rattle.degree.specs.Degree.{end_score, end_scores, ends_outcome}
use Rattle.betweenness.specs.Betweenness.{betweenness_scores, betweenness_outcome}
use Rattle.reaching.specs.Reaching.{reach_score, reaching_outcome}
use Rattle.voterank.specs.VoteRank.{seats_of, closing, voterank_outcome}
use Rattle.laplacian.specs.Laplacian.{laplacian_score, laplacian_scores, laplacian_outcome}
use Rattle.pagerank.specs.PageRank.{pagerank_rounds, pagerank_own, pagerank_outcome}
use Rattle.personalized_pagerank.specs.Personalized.{personal_rounds, personal_own, personalized_outcome}
use Rattle.eigenvector.specs.Eigenvector.{eigen_rounds, eigen_own, eigen_outcome}
use Rattle.katz.specs.Katz.{katz_rounds, katz_own, katz_outcome}
use Rattle.iterative.specs.Scored.{pagerank_text, personalized_text, eigenvector_text, katz_text}
use Rattle.measures.specs.Scored.{betweenness_text, reaching_text, voterank_text, laplacian_text, degree_text}
use Rattle.scoring.specs.Scored.{scored_text, job_fronts, on_zeros}
use Rattle.scoring.proofs.Lengths.{betweenness_long, pagerank_long, personalized_long, eigenvector_long, katz_long}

-- ---- what is printed of what a call leaves

-- of DONE with v, the first `many v` of the results
abbrev printed : {Values A : Type 0} → (Values → ℕ) → (Values → List A → List ℕ) → Left (Said Values) (List A) → List ℕ
printed many text o = said_text o.says (λ v. text v (take (many v) o.results))

module _ {Values A : Type 0} (many : Values → ℕ) (text : Values → List A → List ℕ) (g g' : Given (List A)) where
  -- of results that were written over the slots, nothing else is
  done_same : (f : Fronts) (v : Values) (xs : List A) → length xs ≡ many v
      → printed many text (wiped_by f g (done v) (over xs g.results)) ≡ printed many text (wiped_by f g' (done v) (over xs g'.results))
  unfolding over
  done_same f v xs e = ap (text v) (take_at xs (drop (length xs) g.results) (many v) e ∙ sym (take_at xs (drop (length xs) g'.results) (many v) e))

  -- of a refusal, its number
  late_same : (b : Bool) (a : Answer) (did did' : Left (Said Values) (List A)) → printed many text did ≡ printed many text did'
      → printed many text (cond b (late_refusal g a) did) ≡ printed many text (cond b (late_refusal g' a) did')
  late_same true a did did' h = refl
  late_same false a did did' h = h

  settled_same : (b : Bool) (a : Answer) (did did' : Left (Said Values) (List A)) → printed many text did ≡ printed many text did'
      → printed many text (cond b did (late_refusal g a)) ≡ printed many text (cond b did' (late_refusal g' a))
  settled_same true a did did' h = h
  settled_same false a did did' h = refl

  unless_same : (a a' : Answer) → a ≡ a' → (did did' : Left (Said Values) (List A)) → printed many text did ≡ printed many text did'
      → printed many text (unless_refused g a did) ≡ printed many text (unless_refused g' a' did')
  unless_same a a' e did did' h = ap (λ (x : Answer). printed many text (unless_refused g x did)) e ∙ by (refuses a')
    where
      by : (b : Bool) → printed many text (cond b (untouched g (refused_with a')) did) ≡ printed many text (cond b (untouched g' (refused_with a')) did')
      by true = refl
      by false = h

-- ---- room

-- slots and a workspace with room for a graph of n nodes and m edges
pub record Ample (n m : ℕ) (l : Lent) : Type 0 where
  pub slots : n ≤ length l.scores
  pub seats : n ≤ length l.elected
  pub work : Roomy (usual_fronts n m) (length l.w32) (length l.w64) (length l.wf)

-- a graph, beside the slots and the workspace of l
abbrev pub beside : List ℕ → List ℕ → List Float → Lent → Lent
beside from to weight l = lent from to weight l.scores l.elected l.w32 l.w64 l.wf

-- the same tests but for ROOM
abbrev roomed : Tests → Bool → Tests
roomed t b =
    record {
      size = t.size;
      empty = t.empty;
      node = t.node;
      number = t.number;
      damping = t.damping;
      rounds = t.rounds;
      lengths = t.lengths;
      start = t.start;
      room = b;
    }

roomy_enough : (f : Fronts) (slots k a b c : ℕ) → k ≤ slots → Roomy f a b c → (ltb slots k || work_wrong f a b c) ≡ false
unfolding work_wrong
roomy_enough f slots k a b c h r = rw (le-ltb slots k h, le-ltb a f.narrow r.r32, le-ltb b f.wide r.r64, le-ltb c f.floats r.rf)

-- ---- each measure
module _ (top : Top) (from to : List ℕ) (weight : List Float) (l l' : Lent) (A : Ample top.nodes (length from) l) (B : Ample top.nodes (length from) l') where
  abbrev n : ℕ
  n = top.nodes

  abbrev here : Given (List Float)
  here = given_scores top (beside from to weight l)

  abbrev there : Given (List Float)
  there = given_scores top (beside from to weight l')

  -- ROOM holds on neither, whatever the results need
  rooms : (need slots slots' : ℕ) → need ≤ slots → need ≤ slots'
      → room_wrong n (length from) (ltb slots need) (length l.w32) (length l.w64) (length l.wf) ≡ room_wrong n (length from) (ltb slots' need) (length l'.w32) (length l'.w64) (length l'.wf)
  rooms need slots slots' h h' =
      roomy_enough (usual_fronts n (length from)) slots need (length l.w32) (length l.w64) (length l.wf) h A.work
      ∙ sym (roomy_enough (usual_fronts n (length from)) slots' need (length l'.w32) (length l'.w64) (length l'.wf) h' B.work)

  -- a measure without rounds that gives the scores xs, or PATHS if `late`
  plain_same : (measure : Measure) (empties late : Bool) (xs : List Float) → length xs ≡ n
      → plain_of measure n (unless_refused here (plainly here empties false (ltb (length l.scores) n)) (cond late (late_refusal here Paths) (wiped here (done tt) (over xs l.scores))))
      ≡ plain_of measure n (unless_refused there (plainly there empties false (ltb (length l'.scores) n)) (cond late (late_refusal there Paths) (wiped there (done tt) (over xs l'.scores))))
  plain_same measure empties late xs e =
      unless_same many text here there (plainly here empties false (ltb (length l.scores) n)) (plainly there empties false (ltb (length l'.scores) n))
      (ap (λ (b : Bool). first_refusal (ends_tests n from to weight empties false b)) (rooms n (length l.scores) (length l'.scores) A.slots B.slots))
      (cond late (late_refusal here Paths) (wiped here (done tt) (over xs l.scores))) (cond late (late_refusal there Paths) (wiped there (done tt) (over xs l'.scores)))
      (late_same many text here there late Paths (wiped here (done tt) (over xs l.scores)) (wiped there (done tt) (over xs l'.scores))
      (done_same many text here there (usual_fronts n (length from)) tt xs e))
    where
      many : Unit {0} → ℕ
      many _ = n

      text : Unit {0} → List Float → List ℕ
      text _ ys = answer_text measure n 0 None ys

  -- an iterative measure whose rounds end with o, or UNSETTLED if not `fine`
  ended_same : (measure : Measure) (empties fine : Bool) (own : Own) (o : Out (List Float)) → length o.last ≡ n
      → ended_of measure n (unless_refused here (first_refusal (iterative_tests here empties own)) (cond fine (scored here (settings_of top) o) (late_refusal here Unsettled)))
      ≡ ended_of measure n (unless_refused there (first_refusal (iterative_tests there empties own)) (cond fine (scored there (settings_of top) o) (late_refusal there Unsettled)))
  ended_same measure empties fine own o e =
      unless_same many text here there (first_refusal (iterative_tests here empties own)) (first_refusal (iterative_tests there empties own))
      (ap (λ (b : Bool). first_refusal (roomed (iterative_tests here empties own) b)) (rooms n (length l.scores) (length l'.scores) A.slots B.slots))
      (cond fine (scored here (settings_of top) o) (late_refusal here Unsettled)) (cond fine (scored there (settings_of top) o) (late_refusal there Unsettled))
      (settled_same many text here there fine Unsettled (scored here (settings_of top) o) (scored there (settings_of top) o)
      (done_same many text here there (usual_fronts n (length from)) (reported (settings_of top) o) o.last e))
    where
      many : Rounds → ℕ
      many _ = n

      text : Rounds → List Float → List ℕ
      text r ys = answer_text measure n r.rounds (Some r.settled) ys

  betweenness_same : betweenness_text top (beside from to weight l) ≡ betweenness_text top (beside from to weight l')
  unfolding betweenness_outcome
  betweenness_same =
      plain_same Betweenness true (some_exceeds path_limit (graph_in here) n) (betweenness_scores (eqb top.option 1) (graph_in here)) (betweenness_long (eqb top.option 1) (graph_in here))

  reaching_same : reaching_text top (beside from to weight l) ≡ reaching_text top (beside from to weight l')
  unfolding reaching_outcome
  reaching_same = plain_same Reaching false false (list_of (reach_score (graph_in here) top.option) n) (list_long (reach_score (graph_in here) top.option) n)

  laplacian_same : laplacian_text top (beside from to weight l) ≡ laplacian_text top (beside from to weight l')
  unfolding laplacian_outcome laplacian_scores
  laplacian_same = plain_same Laplacian false false (list_of (laplacian_score (neighbours top.directed (edges_in here))) n) (list_long (laplacian_score (neighbours top.directed (edges_in here))) n)

  pagerank_same : pagerank_text top (beside from to weight l) ≡ pagerank_text top (beside from to weight l')
  unfolding pagerank_outcome
  pagerank_same =
      ended_same Pagerank false true (pagerank_own (settings_of top) false [] here) (pagerank_rounds (links_of (graph_in here)) (settings_of top) false [])
      (pagerank_long (links_of (graph_in here)) (settings_of top) false [])

  personalized_same : personalized_text top (beside from to weight l) ≡ personalized_text top (beside from to weight l')
  unfolding personalized_outcome
  personalized_same =
      ended_same Personalized true true (personal_own (settings_of top) false [] here) (personal_rounds (links_of (graph_in here)) (settings_of top) false [])
      (personalized_long (links_of (graph_in here)) (settings_of top) false [])

  eigenvector_same : eigenvector_text top (beside from to weight l) ≡ eigenvector_text top (beside from to weight l')
  unfolding eigen_outcome
  eigenvector_same =
      ended_same Eigenvector false (eigen_rounds (graph_in here) (settings_of top)).settled (eigen_own (settings_of top) here) (eigen_rounds (graph_in here) (settings_of top))
      (eigenvector_long (graph_in here) (settings_of top))

  katz_same : katz_text top (beside from to weight l) ≡ katz_text top (beside from to weight l')
  unfolding katz_outcome
  katz_same =
      ended_same Katz false (katz_rounds (graph_in here) (settings_of top) false []).settled (katz_own (settings_of top) false [] here) (katz_rounds (graph_in here) (settings_of top) false [])
      (katz_long (graph_in here) (settings_of top) false [])

  -- as many are printed as were elected
  voterank_same : voterank_text top (beside from to weight l) ≡ voterank_text top (beside from to weight l')
  unfolding voterank_outcome closing
  voterank_same =
      unless_same (λ (v : ℕ). v) (λ _ ys. election_text n ys) seen seen' _ _
      (ap (λ (b : Bool). first_refusal (ends_tests n from to weight false false b))
      (rooms (seats_of n top.option) (length l.elected) (length l'.elected) (omega (arith, A.seats)) (omega (arith, B.seats))))
      _ _
      (done_same (λ (v : ℕ). v) (λ _ ys. election_text n ys) seen seen' (usual_fronts n (length from)) (length (closing top.option seen).elected) (closing top.option seen).elected refl)
    where
      seen : Given (List ℕ)
      seen = given_elected top (beside from to weight l)

      seen' : Given (List ℕ)
      seen' = given_elected top (beside from to weight l')

  -- degree takes no workspace
  degree_same : degree_text top (beside from to weight l) ≡ degree_text top (beside from to weight l')
  unfolding ends_outcome end_scores
  degree_same =
      unless_same (λ (_ : Unit {0}). n) (λ _ ys. answer_text Degree n 0 None ys) (given_places top (beside from to weight l)) (given_places top (beside from to weight l')) _ _
      (ap (λ (b : Bool). first_refusal (ends_tests n from to weight false false b)) (le-ltb (length l.scores) n A.slots ∙ sym (le-ltb (length l'.scores) n B.slots)))
      _ _
      (done_same (λ (_ : Unit {0}). n) (λ _ ys. answer_text Degree n 0 None ys) (given_places top (beside from to weight l)) (given_places top (beside from to weight l')) no_fronts tt (list_of (end_score true true (edges_in here)) n) (list_long (end_score true true (edges_in here)) n))

-- ---- the law

-- the text of a measure's answer on a graph is the same beside all slots and workspaces that have room for that graph
pub any_workspace : (measure : Measure) (top : Top) (from to : List ℕ) (weight : List Float) (l l' : Lent) → Ample top.nodes (length from) l → Ample top.nodes (length from) l'
    → scored_text measure top (beside from to weight l) ≡ scored_text measure top (beside from to weight l')
unfolding scored_text
any_workspace Betweenness top from to weight l l' A B = betweenness_same top from to weight l l' A B
any_workspace Pagerank top from to weight l l' A B = pagerank_same top from to weight l l' A B
any_workspace Personalized top from to weight l l' A B = personalized_same top from to weight l l' A B
any_workspace Eigenvector top from to weight l l' A B = eigenvector_same top from to weight l l' A B
any_workspace Katz top from to weight l l' A B = katz_same top from to weight l l' A B
any_workspace Reaching top from to weight l l' A B = reaching_same top from to weight l l' A B
any_workspace Voterank top from to weight l l' A B = voterank_same top from to weight l l' A B
any_workspace Laplacian top from to weight l l' A B = laplacian_same top from to weight l l' A B
any_workspace Degree top from to weight l l' A B = degree_same top from to weight l l' A B

-- ---- the zeros of a job

long_enough : {A : Type 0} (j k : ℕ) (z : A) → j ≤ k → j ≤ length (replicate k z)
long_enough j k z h = omega (arith, h, length-replicate k z)

zeros_ample : (nodes : ℕ) (from to : List ℕ) (weight : List Float) → nodes ≤ job_node_limit → length from ≤ job_edge_limit → Ample nodes (length from) (on_zeros from to weight)
unfolding on_zeros
zeros_ample nodes from to weight h e =
    let fronts = usual_fronts nodes (length from) in
    record {
      slots = long_enough nodes job_node_limit zero_f h;
      seats = long_enough {A = ℕ} nodes job_node_limit 0 h;
      work = record { r32 = long_enough {A = ℕ} fronts.narrow job_fronts.narrow 0 (omega arith); r64 = long_enough {A = ℕ} fronts.wide job_fronts.wide 0 (omega arith); rf = long_enough fronts.floats job_fronts.floats zero_f (omega arith) };
    }

-- a job within the limits has room in its zeros: its text is that beside all slots and workspaces with room
pub any_room : (measure : Measure) (top : Top) (from to : List ℕ) (weight : List Float) (l : Lent) → top.nodes ≤ job_node_limit → length from ≤ job_edge_limit → Ample top.nodes (length from) l
    → scored_text measure top (on_zeros from to weight) ≡ scored_text measure top (beside from to weight l)
unfolding on_zeros
any_room measure top from to weight l h e A = any_workspace measure top from to weight (on_zeros from to weight) l (zeros_ample top.nodes from to weight h e) A
