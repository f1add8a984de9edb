-- Betweenness and the iterative measures give as many scores as there are nodes. Assumes nothing.
use mathlib.Core.Path.{◌≡◌, refl, ◌∙◌}
use mathlib.Core.Bool.{Bool, true, false, cond}
use mathlib.Core.List.{List, [], ◌∷◌, foldr}
use Prim.Native.Nat.{ℕ, zero, suc, ◌+◌}
use lib.Dec.{eqb}
use lib.ListN.{length, get_or, replicate, length-set, length-map, length-replicate}
use lib.Ieee.{Float, nan, binary64, add, div, lt}
use Rattle.regions.specs.Region.{zero_f, list_of}
use Rattle.regions.proofs.Fronts.{list_long}
use Rattle.answers.specs.declared.Settings.{Settings}
use Rattle.graph.specs.Edges.{Graph}
use Rattle.predecessors.specs.Order.{order, predecessors}
use Rattle.brandes.specs.Shares.{grow, Sums, sums, leave, ways, from_start, scores_after}
use Rattle.betweenness.specs.Betweenness.{scaled, betweenness_scores}
use Rattle.rounds.specs.Rounds.{Round, round, out, outcome_from, outcome}
use Rattle.rounds.specs.Vectors.{entry, settles}
use Rattle.links.specs.Links.{Links, sum_of, divided}
use Rattle.links.proofs.Settled.{divided_long}
use Rattle.pagerank.specs.PageRank.{pagerank_step, pagerank_rounds}
use Rattle.pagerank.proofs.Reader as pagerank
use Rattle.personalized_pagerank.specs.Personalized.{personal_step, counts_of, personal_of, personal_rounds}
use Rattle.personalized_pagerank.proofs.Reader as personalized
use Rattle.eigenvector.specs.Eigenvector.{tiny, start_of, uniform, grown, norm_of, scaled as normed, eigen_end, eigen_step, eigen_rounds}
use Rattle.katz.specs.Katz.{beta_of, katz_step, katz_rounds}
use Rattle.katz.proofs.Reader as katz

-- ---- betweenness

leave_long : (counts : ℕ → Float) (before : ℕ → List ℕ) (s w : ℕ) (x : Sums) → length (leave counts before s w x).scores ≡ length x.scores
unfolding leave
leave_long counts before s w x = by (eqb w s)
  where
    by : (b : Bool) → length (cond b x.scores (grow x.scores w (get_or x.delta w nan))) ≡ length x.scores
    by true = refl
    by false = length-set x.scores w (add binary64 (get_or x.scores w nan) (get_or x.delta w nan))

all_leave_long : (counts : ℕ → Float) (before : ℕ → List ℕ) (s : ℕ) (x : Sums) (ws : List ℕ) → length (foldr (leave counts before s) x ws).scores ≡ length x.scores
all_leave_long counts before s x [] = refl
all_leave_long counts before s x (w ∷ ws) = leave_long counts before s w (foldr (leave counts before s) x ws) ∙ all_leave_long counts before s x ws

scores_long : (g : Graph) (k : ℕ) → length (scores_after g k) ≡ g.nodes
unfolding scores_after from_start
scores_long g zero = length-replicate g.nodes zero_f
scores_long g (suc k) = all_leave_long (ways g k) (predecessors g k) k (sums (replicate g.nodes zero_f) (scores_after g k)) (order g k) ∙ scores_long g k

pub betweenness_long : (normalized : Bool) (g : Graph) → length (betweenness_scores normalized g) ≡ g.nodes
unfolding betweenness_scores
betweenness_long normalized g = length-map (scores_after g g.nodes) (scaled g.nodes g.directed normalized) ∙ scores_long g g.nodes

-- ---- rounds from a vector of n entries, each of which makes one of n entries
module _ (n : ℕ) (step : List Float → Round (List Float)) (makes : (x : List Float) → length (step x).next ≡ n) where
  from_long : (more k : ℕ) (s : List Float) → length s ≡ n → length (outcome_from step more k s).last ≡ n
  unfolding outcome_from
  from_long zero k s e = e
  from_long (suc more) k s e = by (step s).met (from_long more (k + 1) (step s).next (makes s))
    where
      by : (b : Bool) → length (outcome_from step more (k + 1) (step s).next).last ≡ n → length (cond b (out (step s).next (k + 1) true) (outcome_from step more (k + 1) (step s).next)).last ≡ n
      by true r = makes s
      by false r = r

  last_long : (before : Bool) (limit : ℕ) (s : List Float) → length s ≡ n → length (outcome before step limit s).last ≡ n
  unfolding outcome
  last_long true limit s e = e
  last_long false limit s e = from_long limit 0 s e

pub pagerank_long : (l : Links) (settings : Settings) (flag : Bool) (start : List Float) → length (pagerank_rounds l settings flag start).last ≡ l.nodes
unfolding pagerank_rounds pagerank_step
pagerank_long l settings flag start =
    last_long l.nodes (pagerank_step l settings.damping settings.tolerance) (pagerank.next_long l settings flag start) (eqb l.nodes 0) settings.limit
    (divided flag start l.nodes) (divided_long flag start l.nodes)

pub personalized_long : (l : Links) (settings : Settings) (flag : Bool) (vector : List Float) → length (personal_rounds l settings flag vector).last ≡ l.nodes
unfolding personal_rounds personal_step
personalized_long l settings flag vector =
    last_long l.nodes (personal_step l settings.damping settings.tolerance (personal_of flag vector l.nodes)) (personalized.personal_next_long l settings flag vector) (eqb l.nodes 0)
    settings.limit (personal_of flag vector l.nodes) (divided_long (counts_of flag (sum_of vector)) vector l.nodes)

-- a round of `eigenvector`, by whether the norm is tiny
eigen_next_long : (n : ℕ) (tolerance : Float) (x y : List Float) → length (eigen_end n tolerance x y).next ≡ n
unfolding eigen_end normed
eigen_next_long n tolerance x y = by (lt (norm_of n y) tiny)
  where
    z : List Float
    z = list_of (λ i. div binary64 (entry y i) (norm_of n y)) n

    by : (b : Bool) → length (cond b (round (uniform n) true) (round z (settles tolerance n x z))).next ≡ n
    by true = list_long (λ _. start_of n) n
    by false = list_long (λ i. div binary64 (entry y i) (norm_of n y)) n

pub eigenvector_long : (g : Graph) (settings : Settings) → length (eigen_rounds g settings).last ≡ g.nodes
unfolding eigen_rounds eigen_step
eigenvector_long g settings =
    last_long g.nodes (eigen_step g settings.tolerance) (λ x. eigen_next_long g.nodes settings.tolerance x (grown g x)) _ settings.limit (uniform g.nodes)
    (list_long (λ _. start_of g.nodes) g.nodes)

pub katz_long : (g : Graph) (settings : Settings) (flag : Bool) (beta : List Float) → length (katz_rounds g settings flag beta).last ≡ g.nodes
unfolding katz_rounds katz_step
katz_long g settings flag beta =
    last_long g.nodes (katz_step g settings.damping settings.tolerance (beta_of flag beta g.nodes)) (katz.made_long g settings flag beta) (eqb g.nodes 0) settings.limit
    (list_of (λ _. zero_f) g.nodes) (list_long (λ _. zero_f) g.nodes)
