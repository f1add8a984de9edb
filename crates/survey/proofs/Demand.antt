-- What surveys say to each other: the counts by way of the nodes k hops out add up, and the survey against the edges agrees. Stated of the lists that
-- calls left in their result slices. Assumes nothing.
use mathlib.Core.Path.{◌≡◌, refl, sym, ap, ap₂, ◌∙◌}
use mathlib.Core.Logic.{◌≢◌, ◌↔◌, ◌⊎◌, inl, inr}
use mathlib.Core.Bool.{Bool, true, false, ◌&&◌, cond, true≢false}
use mathlib.Core.List.{List, [], ◌∷◌, map}
use Prim.Native.Nat.{ℕ, suc, ◌-◌, ◌*◌, ◌≤◌, ◌<◌}
use native.Mathlib.Omega.{arith}
use borrow.Author.Tests.{eqb-true}
use lib.Dec.{eqb, leb}
use lib.ListN.{length, get_or}
use lib.Ieee.{Float}
use Rattle.regions.specs.Region.{list_of}
use Rattle.regions.proofs.Fronts.{list_long}
use Rattle.regions.proofs.Parts.{list_at_lem, over_at}
use Rattle.answers.specs.declared.Answer.TheVariants.{Paths}
use Rattle.answers.specs.declared.Answer.{Answer}
use Rattle.answers.specs.Answers.{Said, done, refusal, said_by, refuses, refused_with}
use Rattle.graph.specs.Edges.{Edge, edge, edges_from, edges_of, Graph}
use Rattle.graph.specs.Given.{Given, given}
use Rattle.graph.specs.Left.{Left, left, wiped, late_refusal, untouched, unless_refused}
use Rattle.graph.specs.Pres.{Passed}
use Rattle.graph.specs.Refusals.{first_refusal}
use Rattle.graph.proofs.Refusals.{passed, plain_tests}
use Rattle.hops.specs.Sum.{sum_over, below, only_if}
use Rattle.hops.specs.Hops.{Valid, unreached, dist, count, exceeds, path_limit, turn, turned}
use Rattle.hops.specs.Search.{graph_of}
use Rattle.hops.proofs.Sums.{below_cong, eq_or_ne, eqb_no}
use Rattle.hops.proofs.Demand.{on_the_way, turned_round}
use Rattle.hops.proofs.Workspace.{valid}
use Rattle.survey.specs.Survey.{Results, results, too_short, surveyed, survey_outcome}
use Rattle.survey.specs.Calls.{Slices, exchanged, Survey}
use Rattle.survey.proofs.Ending.{ready_survey, start_survey}

-- the graph of the slices
abbrev graph_of_slices : Slices → Graph
graph_of_slices e = graph_of e.nodes e.directed (edges_of e.from e.to e.weight)

-- ---- a call that answered DONE

abbrev is_done : Said (Unit {0}) → Bool
is_done (done v) = true
is_done (refusal k) = false

not_done : {k : ℕ} → ◌≡◌ {A = Said (Unit {0})} (done tt) (refusal k) → ⊥
not_done h = true≢false (ap is_done h)

-- DONE is said only where nothing refused and no count exceeds the limit
done_only : {R : Type 0} (g : Given R) (a : Answer) (b : Bool) (r : R) (o : Left (Said (Unit {0})) R)
    → o ≡ unless_refused g a (cond b (late_refusal g Paths) (wiped g (done tt) r)) → o.says ≡ done tt → (refuses a ≡ false) × (o.results ≡ r)
done_only {R} g a b r o e s = go (refuses a) refl b e
  where
    go : (t : Bool) → refuses a ≡ t → (b : Bool) → o ≡ cond t (untouched g (refused_with a)) (cond b (late_refusal g Paths) (wiped g (done tt) r)) → (refuses a ≡ false) × (o.results ≡ r)
    go true q b p = absurd (not_done (sym s ∙ ap (λ (x : Left (Said (Unit {0})) R). x.says) p))
    go false q true p = absurd (not_done (sym s ∙ ap (λ (x : Left (Said (Unit {0})) R). x.says) p))
    go false q false p = (q, ap (λ (x : Left (Said (Unit {0})) R). x.results) p)

module _ {e : Slices} {a : ℕ} (S : Survey e a) where
  lent_to : Given Results
  lent_to = given e.nodes e.directed e.from e.to e.weight S.lent S.w32 S.w64 S.wf

  short : Bool
  short = too_short e.nodes (length S.lent.distances) (length S.lent.counts)

  told : (refuses (first_refusal (plain_tests lent_to true (leb e.nodes a) short)) ≡ false) × (results S.distances S.counts ≡ surveyed (graph_of_slices e) a S.lent)
  unfolding survey_outcome lent_to short
  told =
      done_only lent_to (first_refusal (plain_tests lent_to true (leb e.nodes a) short)) (exceeds path_limit (graph_of_slices e) a) (surveyed (graph_of_slices e) a S.lent)
      (left (said_by S.returned) (results S.distances S.counts) S.w32_left S.w64_left S.wf_left) S.call (ap said_by S.done)

  nothing : Passed (plain_tests lent_to true (leb e.nodes a) short)
  nothing = passed (plain_tests lent_to true (leb e.nodes a) short) {v = tt} (rw told.0)

  -- the start is a node of a valid graph
  pub start_node : a < e.nodes
  unfolding lent_to short
  start_node = start_survey a lent_to nothing

  pub survey_valid : Valid (graph_of_slices e)
  unfolding lent_to short
  survey_valid = valid e.directed (ready_survey a lent_to nothing).sound

  -- the result slices hold the fewest hops, and the number of hop sequences of that length
  pub distance_left : (v : ℕ) → v < e.nodes → get_or S.distances v 0 ≡ dist (graph_of_slices e) a v
  unfolding surveyed
  distance_left v h =
      ap (λ (r : Results). get_or r.distances v 0) told.1
      ∙ over_at (list_of (dist (graph_of_slices e) a) e.nodes) S.lent.distances 0 v (omega (arith, list_long (dist (graph_of_slices e) a) e.nodes))
      ∙ list_at_lem (dist (graph_of_slices e) a) e.nodes 0 v h

  pub count_left : (v : ℕ) → v < e.nodes → get_or S.counts v 0 ≡ count (graph_of_slices e) a v
  unfolding surveyed
  count_left v h =
      ap (λ (r : Results). get_or r.counts v 0) told.1
      ∙ over_at (list_of (count (graph_of_slices e) a) e.nodes) S.lent.counts 0 v (omega (arith, list_long (count (graph_of_slices e) a) e.nodes))
      ∙ list_at_lem (count (graph_of_slices e) a) e.nodes 0 v h

-- ---- the counts by way of the nodes k hops out

module _ {e : Slices} {a : ℕ} (A : Survey e a) (b : ℕ) (hb : b < e.nodes) where
  -- the distance that the survey from a left at b
  abbrev d : ℕ
  d = get_or A.distances b 0

  -- v is in the sum for k: the survey from a left k at v, and b is the other d - k hops from v
  abbrev in_sum : ℕ → ℕ → Bool
  in_sum k v = eqb (get_or A.distances v 0) k && eqb (dist (graph_of_slices e) v b) (d - k)

  -- For each k ≤ d: over the nodes in the sum, the count left at v by the survey from a, times the count left at b by a survey from v, adds up to the
  -- count left at b by the survey from a. Only those surveys are taken to have answered DONE; `ways v` is what the one from v left at b.
  pub products_add_up : (k : ℕ) → d ≢ unreached → k ≤ d → (ways : ℕ → ℕ) → ((v : ℕ) → v < e.nodes → in_sum k v ≡ true → (from-v : Survey e v) × (get_or from-v.counts b 0 ≡ ways v))
      → sum_over (below e.nodes) (λ v. only_if (in_sum k v) (get_or A.counts v 0 * ways v)) ≡ get_or A.counts b 0
  products_add_up k u h ways surveys =
      below_cong e.nodes (λ v hv. each v hv (in_sum k v) refl)
      ∙ below_cong e.nodes (λ v hv. cc (distance_left A v hv, distance_left A b hb))
      ∙ on_the_way (graph_of_slices e) (survey_valid A) a b (start_node A) k (λ z. u (distance_left A b hb ∙ z)) (omega (arith, distance_left A b hb))
      ∙ sym (count_left A b hb)
    where
      each : (v : ℕ) → v < e.nodes → (t : Bool) → in_sum k v ≡ t → only_if (in_sum k v) (get_or A.counts v 0 * ways v) ≡ only_if (in_sum k v) (count (graph_of_slices e) a v * count (graph_of_slices e) v b)
      each v hv true q =
          let r = surveys v hv q in
          let p : get_or A.counts v 0 * ways v ≡ count (graph_of_slices e) a v * count (graph_of_slices e) v b = ap₂ ◌*◌ (count_left A v hv) (sym r.1 ∙ count_left r.0 b hb) in
          ap (only_if (in_sum k v)) p
      each v hv false q = ap (λ (t : Bool). only_if t (get_or A.counts v 0 * ways v)) q ∙ sym (ap (λ (t : Bool). only_if t (count (graph_of_slices e) a v * count (graph_of_slices e) v b)) q)

  -- the same where every node that the survey from a left k hops out was surveyed: then b's place in the sum is read off their results too
  pub products_read_off : (k : ℕ) → d ≢ unreached → k ≤ d → (far ways : ℕ → ℕ)
      → ((v : ℕ) → v < e.nodes → get_or A.distances v 0 ≡ k → (from-v : Survey e v) × (get_or from-v.distances b 0 ≡ far v) × (get_or from-v.counts b 0 ≡ ways v))
      → sum_over (below e.nodes) (λ v. only_if (eqb (get_or A.distances v 0) k && eqb (far v) (d - k)) (get_or A.counts v 0 * ways v)) ≡ get_or A.counts b 0
  products_read_off k u h far ways surveys =
      below_cong e.nodes (λ v hv. place v hv (eq_or_ne (get_or A.distances v 0) k))
      ∙ products_add_up k u h ways (λ v hv q. let r = surveys v hv (both v q) in (r.0, r.2))
    where
      term : ℕ → Bool → Bool → ℕ
      term v s t = only_if (s && t) (get_or A.counts v 0 * ways v)

      place : (v : ℕ) → v < e.nodes → (get_or A.distances v 0 ≡ k) ⊎ (get_or A.distances v 0 ≢ k)
          → only_if (eqb (get_or A.distances v 0) k && eqb (far v) (d - k)) (get_or A.counts v 0 * ways v) ≡ only_if (in_sum k v) (get_or A.counts v 0 * ways v)
      place v hv (inl q) =
          let r = surveys v hv q in
          ap (λ (x : ℕ). term v (eqb (get_or A.distances v 0) k) (eqb x (d - k))) (sym r.1 ∙ distance_left r.0 b hb)
      place v hv (inr q) =
          ap (λ (t : Bool). term v t (eqb (far v) (d - k))) (eqb_no q)
          ∙ sym (ap (λ (t : Bool). term v t (eqb (dist (graph_of_slices e) v b) (d - k))) (eqb_no q))

      and_left : (s t : Bool) → (s && t) ≡ true → s ≡ true
      and_left true t q = refl
      and_left false t q = q

      both : (v : ℕ) → in_sum k v ≡ true → get_or A.distances v 0 ≡ k
      both v q = eqb-true (get_or A.distances v 0) k (and_left (eqb (get_or A.distances v 0) k) (eqb (dist (graph_of_slices e) v b) (d - k)) q)

-- ---- every edge turned round

turn_from : (k : ℕ) (fs ts : List ℕ) (xs : List Float) → edges_from k ts fs xs ≡ map turn (edges_from k fs ts xs)
unfolding edges_from
turn_from k [] [] xs = refl
turn_from k [] (t ∷ ts) xs = refl
turn_from k (f ∷ fs) [] xs = refl
turn_from k (f ∷ fs) (t ∷ ts) [] = refl
turn_from k (f ∷ fs) (t ∷ ts) (x ∷ xs) = ap (λ (l : List Edge). edge k t f x ∷ l) (turn_from (suc k) fs ts xs)

turn_slices : (e : Slices) → graph_of_slices (exchanged e) ≡ turned (graph_of_slices e)
unfolding turned
turn_slices e = ap (λ (l : List Edge). graph_of e.nodes e.directed l) (turn_from 0 e.from e.to e.weight)

-- the survey from b over the exchanged slices leaves at a what the survey from a left at b, directed or not; so unreached stays unreached
pub turned_agrees : {e : Slices} {a b : ℕ} (A : Survey e a) (B : Survey (exchanged e) b)
    → (get_or B.distances a 0 ≡ get_or A.distances b 0) × (get_or B.counts a 0 ≡ get_or A.counts b 0)
turned_agrees {e} {a} {b} A B =
    let hb : b < e.nodes = start_node B in
    let r = turned_round (graph_of_slices e) (survey_valid A) a b (start_node A) hb in (
      distance_left B a (start_node A) ∙ ap (λ (g : Graph). dist g b a) (turn_slices e) ∙ r.0 ∙ sym (distance_left A b hb),
      count_left B a (start_node A) ∙ ap (λ (g : Graph). count g b a) (turn_slices e) ∙ r.1 ∙ sym (count_left A b hb),
    )

pub unreached_stays : {e : Slices} {a b : ℕ} (A : Survey e a) (B : Survey (exchanged e) b) → (get_or A.distances b 0 ≡ unreached) ↔ (get_or B.distances a 0 ≡ unreached)
unreached_stays A B = let r = (turned_agrees A B).0 in (λ q. r ∙ q, λ q. sym r ∙ q)
