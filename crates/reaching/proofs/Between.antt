-- Each score that `local_reaching` and, with the limit n, `global_reaching` leave is the double nearest to a share of the other nodes:
-- finite, from 0 to 1. Assumes nothing.
use Rattle.std.proofs.Common.{◌≡◌, ℕ, ◌-◌, ◌<◌, ◌≤◌, Bool, true, false, cond, not, ◌&&◌, eqb, List, get_or, refl, ap, ◌∙◌, ⊎_elim, arith, le-ltb, lt-ltb}
use lib.Ieee.{Float, nan, inf, fin, binary64, round, div, le, of_bits}
use lib.Ieee.Order.{round_mono}
use lib.Ieee.Scale.{finite}
use Rattle.regions.specs.Doubles.{one, double}
use Rattle.regions.specs.Region.{zero_f}
use Rattle.regions.proofs.Cases.{below_or_not}
use Rattle.answers.specs.Answers.{done}
use Rattle.graph.specs.Edges.{Graph}
use Rattle.graph.specs.Given.{Given, graph_in}
use Rattle.graph.specs.Pres.{Passed}
use Rattle.hops.specs.Sum.{only_if}
use Rattle.hops.proofs.Sums.{T_true, eqb_yes, below_lt}
use Rattle.laplacian.proofs.Steps.{score_tests, ready, done_passed, done_at}
use Rattle.laplacian.proofs.Whole.{div_whole}
use Rattle.reach.specs.Reach.{in_reach, others_in}
use Rattle.reaching.specs.Reaching.{share_of, reach_score, reaching_outcome}

-- ---- fewer than n nodes are others
others_few : (g : Graph) (limit s : ℕ) → s < g.nodes → others_in g limit s < g.nodes
unfolding others_in
others_few g limit s l =
    below_lt g.nodes (λ v. only_if (not (eqb v s) && in_reach g limit s v) 1) (λ v h. at_most_one (not (eqb v s) && in_reach g limit s v)) s l
    (ap (λ (b : Bool). only_if (not b && in_reach g limit s s) 1) (eqb_yes {x = s} {y = s} refl))
  where
    at_most_one : (b : Bool) → only_if b 1 ≤ 1
    at_most_one true = omega arith
    at_most_one false = omega arith

-- ---- a fraction from 0 to 1, rounded

-- 0 <= x <= 1, as doubles compare; a NaN and an infinity fail one of the two
pub record FromZeroToOne (x : Float) : Type 0 where
  pub least : le zero_f x ≡ true
  pub most : le x one ≡ true

zero_is : zero_f ≡ round binary64 false 0 1
unfolding round
zero_is = refl

one_is : one ≡ round binary64 false 1 1
unfolding round of_bits
one_is = refl

fraction_between : (a b : ℕ) → 0 < b → a ≤ b → FromZeroToOne (round binary64 false a b)
fraction_between a b l h =
    let z = round binary64 false a b in
    record {
      least = ap (λ (x : Float). le x z) zero_is ∙ T_true (le (round binary64 false 0 1) z) (round_mono binary64 0 1 a b (omega arith) l (omega arith));
      most = ap (le z) one_is ∙ T_true (le z (round binary64 false 1 1)) (round_mono binary64 a b 1 1 l (omega arith) (omega arith));
    }

zero_between : FromZeroToOne zero_f
unfolding le of_bits
zero_between = record { least = refl; most = refl }

-- ---- the share of k nodes among n - 1
share_nearest : (n k : ℕ) → 1 < n → n ≤ 4096 → k < n → share_of n k ≡ round binary64 false k (n - 1)
share_nearest n k l h q =
    ap (λ (b : Bool). cond b (div binary64 (double k) (double (n - 1))) zero_f) (lt-ltb 1 n l) ∙ div_whole k (n - 1) (omega arith) (omega arith) (omega arith)

share_between : (n k : ℕ) → n ≤ 4096 → k < n → FromZeroToOne (share_of n k)
share_between n k h q =
    ⊎_elim
    (λ (l : 1 < n). rw (share_nearest n k l h q) (fraction_between k (n - 1) (omega arith) (omega arith)))
    (λ (l : n ≤ 1). rw (ap (λ (b : Bool). cond b (div binary64 (double k) (double (n - 1))) zero_f) (le-ltb 1 n l)) zero_between)
    (below_or_not 1 n)

-- ---- the scores that a call leaves
between_finite : (x : Float) → FromZeroToOne x → finite x ≡ true
unfolding le of_bits
between_finite nan u = u.most
between_finite (inf true) u = u.least
between_finite (inf false) u = u.most
between_finite (fin s m e) u = refl

module _ (limit : ℕ) (g : Given (List Float)) (e : (reaching_outcome limit g).says ≡ done tt) where
  nothing_refused : Passed (score_tests g)
  unfolding reaching_outcome
  nothing_refused = done_passed g (reach_score (graph_in g) limit) e

  few : g.nodes ≤ 4096
  few = (ready g nothing_refused).sound.limits.nodes

  score_is : (s : ℕ) → s < g.nodes → get_or (reaching_outcome limit g).results s nan ≡ share_of g.nodes (others_in (graph_in g) limit s)
  unfolding reaching_outcome reach_score
  score_is s l = done_at g (reach_score (graph_in g) limit) nothing_refused s l

  -- of two nodes or more, DONE leaves at s the double nearest to the share of the other nodes that are within the limit
  pub reaching_nearest : (s : ℕ) → s < g.nodes → 1 < g.nodes → get_or (reaching_outcome limit g).results s nan ≡ round binary64 false (others_in (graph_in g) limit s) (g.nodes - 1)
  reaching_nearest s l m = score_is s l ∙ share_nearest g.nodes (others_in (graph_in g) limit s) m few (others_few (graph_in g) limit s l)

  -- each score is from 0 to 1
  pub reaching_between : (s : ℕ) → s < g.nodes → FromZeroToOne (get_or (reaching_outcome limit g).results s nan)
  reaching_between s l = rw (score_is s l) (share_between g.nodes (others_in (graph_in g) limit s) few (others_few (graph_in g) limit s l))

  -- so no score is a NaN or an infinity
  pub reaching_finite : (s : ℕ) → s < g.nodes → finite (get_or (reaching_outcome limit g).results s nan) ≡ true
  reaching_finite s l = between_finite (get_or (reaching_outcome limit g).results s nan) (reaching_between s l)
