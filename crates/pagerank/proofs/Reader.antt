-- What a reader of `pagerank` may rely on: no second outcome meets its contract; scores are the start stepped exactly the reported rounds;
-- settled "yes" implies that every score is finite. Assumes nothing.
use Rattle.std.proofs.Common.{◌≡◌, ℕ, ◌<◌, Bool, true, false, cond, eqb, List, length, get_or, refl, ◌∙◌}
use lib.Ieee.{Float, nan, binary64, of_bits, round as nearest, lt}
use lib.Ieee.Scale.{finite}
use Rattle.regions.specs.Region.{zero_f, list_of}
use Rattle.regions.proofs.Fronts.{list_long}
use Rattle.std.specs.Prelude.{Result}
use Rattle.answers.specs.declared.Settings.{Settings}
use Rattle.answers.specs.declared.Rounds.{Rounds}
use Rattle.answers.specs.Answers.{done, said_by}
use Rattle.answers.specs.declared.Refusal.{Refusal}
use Rattle.answers.proofs.Said.{returned}
use Rattle.graph.specs.Given.{Given, graph_in}
use Rattle.graph.specs.Refusals.{first_refusal}
use Rattle.graph.specs.Left.{left}
use Rattle.graph.proofs.Left.{no_second}
use Rattle.rounds.specs.Says.{Says}
use Rattle.rounds.specs.Vectors.{entry}
use Rattle.rounds.proofs.Says.{says}
use Rattle.rounds.proofs.Reader.{AllFinite}
use Rattle.links.specs.Links.{Links, links_of, distributes, divided}
use Rattle.links.proofs.Settled.{distributes_long, after_long, divided_long, rounds_finite, scores_finite}
use Rattle.pagerank.specs.PageRank.{dangling_sum, pagerank_base, pagerank_node, pagerank_next, pagerank_step, pagerank_rounds, tiny, pagerank_tests, pagerank_outcome}

pub pagerank_unique : (settings : Settings) (flag : Bool) (start : List Float) (g : Given (List Float)) {r r' : Result Rounds Refusal} {s s' : List Float} {x x' y y' : List ℕ} {z z' : List Float}
    → left (said_by r) s x y z ≡ pagerank_outcome settings flag start g → left (said_by r') s' x' y' z' ≡ pagerank_outcome settings flag start g → (r ≡ r') × (s ≡ s') × (x ≡ x') × (y ≡ y') × (z ≡ z')
pagerank_unique settings flag start g {r} {r'} p q =
    let same = no_second p q in
    (returned r r' same.0, same.1, same.2, same.3, same.4)

-- the sum below which a start is refused is the double nearest to 1e-9
pub tiny_nearest : tiny ≡ nearest binary64 false 1 1000000000
unfolding of_bits nearest
tiny_nearest = refl

module _ (l : Links) (settings : Settings) (flag : Bool) (start : List Float) where
  pub pagerank_says : Says (eqb l.nodes 0) (pagerank_step l settings.damping settings.tolerance) settings.limit (divided flag start l.nodes) (pagerank_rounds l settings flag start)
  unfolding pagerank_rounds
  pagerank_says = says (pagerank_step l settings.damping settings.tolerance) (divided flag start l.nodes) (eqb l.nodes 0) settings.limit

  node_long : (x : List Float) (i : ℕ) (y : List Float) → length (pagerank_node l settings.damping x i y) ≡ length y
  unfolding pagerank_node
  node_long x i y = by (lt zero_f (entry l.outs i))
    where
      by : (b : Bool) → length (cond b (distributes l settings.damping x i y) y) ≡ length y
      by true = distributes_long l settings.damping x i y
      by false = refl

  -- a vector that a round made has an entry for each node
  pub next_long : (x : List Float) → length (pagerank_next l settings.damping x) ≡ l.nodes
  unfolding pagerank_next
  next_long x =
      after_long (pagerank_node l settings.damping x) (node_long x) l.nodes (list_of (λ _. pagerank_base l.nodes settings.damping (dangling_sum l.nodes l.outs x)) l.nodes)
      ∙ list_long (λ _. pagerank_base l.nodes settings.damping (dangling_sum l.nodes l.outs x)) l.nodes

  settled_finite : (pagerank_rounds l settings flag start).settled ≡ true → AllFinite l.nodes (pagerank_rounds l settings flag start).last
  unfolding pagerank_rounds pagerank_step
  settled_finite =
      rounds_finite l.nodes settings.tolerance (pagerank_next l settings.damping) (pagerank_step l settings.damping settings.tolerance) settings.limit (divided flag start l.nodes)
      (λ x. refl) (λ x. refl) next_long (divided_long flag start l.nodes)

-- a settled report leaves n finite scores
pub pagerank_finite : (settings : Settings) (flag : Bool) (start : List Float) (g : Given (List Float)) {r : Rounds} → (pagerank_outcome settings flag start g).says ≡ done r → r.settled ≡ true
    → (i : ℕ) → i < g.nodes → finite (get_or (pagerank_outcome settings flag start g).results i nan) ≡ true
unfolding pagerank_outcome
pagerank_finite settings flag start g e settled =
    scores_finite g settings (pagerank_rounds (links_of (graph_in g)) settings flag start) (settled_finite (links_of (graph_in g)) settings flag start)
    (first_refusal (pagerank_tests settings flag start g)) e settled
