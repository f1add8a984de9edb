-- What a reader of `personalized_pagerank` may rely on: no second outcome meets its contract; scores are the start stepped exactly the reported rounds;
-- settled "yes" implies that every score is finite. Assumes nothing.
use Rattle.std.proofs.Common.{◌≡◌, ℕ, ◌<◌, Bool, true, false, cond, eqb, List, length, get_or, refl, ◌∙◌, length-set}
use lib.Ieee.{Float, nan, binary64, add, mul, lt}
use lib.Ieee.Scale.{finite}
use Rattle.regions.specs.Region.{zero_f, list_of}
use Rattle.regions.proofs.Fronts.{list_long}
use Rattle.answers.specs.declared.Settings.{Settings}
use Rattle.answers.specs.declared.Rounds.{Rounds}
use Rattle.answers.specs.Answers.{done, said_by}
use Rattle.std.specs.Prelude.{Result}
use Rattle.answers.specs.declared.Refusal.{Refusal}
use Rattle.answers.proofs.Said.{returned}
use Rattle.graph.specs.Given.{Given, graph_in}
use Rattle.graph.specs.Refusals.{first_refusal}
use Rattle.graph.specs.Left.{left}
use Rattle.graph.proofs.Left.{no_second}
use Rattle.rounds.specs.Says.{Says}
use Rattle.rounds.specs.Vectors.{entry}
use Rattle.rounds.proofs.Says.{says}
use Rattle.rounds.proofs.Reader.{AllFinite}
use Rattle.links.specs.Links.{Links, links_of, distributes, sum_of}
use Rattle.links.proofs.Settled.{distributes_long, after_long, divided_long, rounds_finite, scores_finite}
use Rattle.personalized_pagerank.specs.Personalized.{personal_base, gains_part, spreads_personal, personal_node, personal_next, personal_step, counts_of, personal_of, personal_rounds, personal_tests, personalized_outcome}

pub personalized_unique : (settings : Settings) (flag : Bool) (vector : List Float) (g : Given (List Float)) {r r' : Result Rounds Refusal} {s s' : List Float} {x x' y y' : List ℕ} {z z' : List Float}
    → left (said_by r) s x y z ≡ personalized_outcome settings flag vector g → left (said_by r') s' x' y' z' ≡ personalized_outcome settings flag vector g → (r ≡ r') × (s ≡ s') × (x ≡ x') × (y ≡ y') × (z ≡ z')
personalized_unique settings flag vector g {r} {r'} p q =
    let same = no_second p q in
    (returned r r' same.0, same.1, same.2, same.3, same.4)

module _ (l : Links) (settings : Settings) (flag : Bool) (vector : List Float) where
  abbrev personal : List Float
  personal = personal_of flag vector l.nodes

  pub personalized_says : Says (eqb l.nodes 0) (personal_step l settings.damping settings.tolerance personal) settings.limit personal (personal_rounds l settings flag vector)
  unfolding personal_rounds
  personalized_says = says (personal_step l settings.damping settings.tolerance personal) personal (eqb l.nodes 0) settings.limit

  dangling_long : (x : List Float) (i : ℕ) (y : List Float) → length (spreads_personal l.nodes settings.damping personal x i y) ≡ length y
  unfolding spreads_personal
  dangling_long x i y =
      after_long (gains_part (mul binary64 settings.damping (entry x i)) personal)
      (λ j z. length-set z j (add binary64 (entry z j) (mul binary64 (mul binary64 settings.damping (entry x i)) (entry personal j))))
      l.nodes y

  personal_node_long : (x : List Float) (i : ℕ) (y : List Float) → length (personal_node l settings.damping personal x i y) ≡ length y
  unfolding personal_node
  personal_node_long x i y = by (lt zero_f (entry l.outs i))
    where
      by : (b : Bool) → length (cond b (distributes l settings.damping x i y) (spreads_personal l.nodes settings.damping personal x i y)) ≡ length y
      by true = distributes_long l settings.damping x i y
      by false = dangling_long x i y

  -- a vector that a round made has an entry for each node
  pub personal_next_long : (x : List Float) → length (personal_next l settings.damping personal x) ≡ l.nodes
  unfolding personal_next
  personal_next_long x =
      after_long (personal_node l settings.damping personal x) (personal_node_long x) l.nodes (list_of (personal_base settings.damping personal) l.nodes)
      ∙ list_long (personal_base settings.damping personal) l.nodes

  personal_settled_finite : (personal_rounds l settings flag vector).settled ≡ true → AllFinite l.nodes (personal_rounds l settings flag vector).last
  unfolding personal_rounds personal_step
  personal_settled_finite =
      rounds_finite l.nodes settings.tolerance (personal_next l settings.damping personal) (personal_step l settings.damping settings.tolerance personal) settings.limit personal
      (λ x. refl) (λ x. refl) personal_next_long (divided_long (counts_of flag (sum_of vector)) vector l.nodes)

-- a settled report leaves n finite scores
pub personalized_finite : (settings : Settings) (flag : Bool) (vector : List Float) (g : Given (List Float)) {r : Rounds} → (personalized_outcome settings flag vector g).says ≡ done r → r.settled ≡ true
    → (i : ℕ) → i < g.nodes → finite (get_or (personalized_outcome settings flag vector g).results i nan) ≡ true
unfolding personalized_outcome
personalized_finite settings flag vector g e settled =
    scores_finite g settings (personal_rounds (links_of (graph_in g)) settings flag vector) (personal_settled_finite (links_of (graph_in g)) settings flag vector)
    (first_refusal (personal_tests settings flag vector g)) e settled
