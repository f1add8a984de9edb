-- P4's and P5's parts of degree, Laplacian and VoteRank, computed from the definitions that the contracts cite: each row a call's whole outcome.
-- Assumes nothing.
use mathlib.Core.Path.{◌≡◌, refl}
use mathlib.Core.Bool.{false}
use mathlib.Core.List.{List, [], ◌∷◌, ◌++◌}
use Prim.Native.Nat.{ℕ}
use lib.ListN.{replicate}
use lib.Ieee.{Float, binary64, of_bits, of_int, add, sub, mul, div, lt, eq, is_nan, nan}
use Rattle.regions.specs.Region.{over, list_of, cleared, zero_f}
use Rattle.roots.specs.Maximum.{max_of, under}
use Rattle.answers.specs.Answers.{done, refusal}
use Rattle.graph.specs.Edges.{listed, edges_from, newest_first, neighbours}
use Rattle.graph.specs.Given.{Given, given}
use Rattle.graph.specs.Checks.{size_wrong, first_fault, node_wrong, work_wrong}
use Rattle.graph.specs.Refusals.{first_of, first_refusal}
use Rattle.graph.specs.Left.{left}
use Rattle.degree.specs.Degree.{end_count, end_scores, ends_outcome, degree_outcome}
use Rattle.laplacian.specs.Laplacian.{laplacian_score, laplacian_scores, laplacian_outcome}
use Rattle.hops.specs.Sum.{sum_over, below, same}
use Rattle.hops.specs.Hops.{walks, seek, dist}
use Rattle.reach.specs.Reach.{others_in}
use Rattle.reaching.specs.Reaching.{reach_score, reaching_outcome}
use Rattle.voterank.specs.VoteRank.{decay_of, poll_score, winner, electing, elections, closing, voterank_outcome}
use Rattle.polls.specs.Votes.{votes, first_highest}

abbrev float : ℕ → Float
float bits = of_bits binary64 bits

-- the undirected path 0-1-2, and one node with an undirected self-loop, given some results and workspace
abbrev path : {R : Type 0} → R → List ℕ → List ℕ → List Float → Given R
path = given 3 false (0 ∷ 1 ∷ []) (1 ∷ 2 ∷ []) (nan ∷ nan ∷ [])

abbrev loop : {R : Type 0} → R → List ℕ → List ℕ → List Float → Given R
loop = given 1 false (0 ∷ []) (0 ∷ []) (nan ∷ [])

-- Laplacian 6, 10, 6; a slot beyond the scores, and a place behind each used front, stay
abbrev pub P4Laplacian : Type 0
P4Laplacian =
    laplacian_outcome (path (replicate 4 nan) (replicate 49 7) (replicate 7 7) (replicate 27 nan))
    ≡ left (done tt) (float 0x4018_0000_0000_0000 ∷ float 0x4024_0000_0000_0000 ∷ float 0x4018_0000_0000_0000 ∷ nan ∷ []) (replicate 48 0 ++ (7 ∷ [])) (replicate 6 0 ++ (7 ∷ [])) (replicate 26 zero_f ++ (nan ∷ []))

pub p4_laplacian : P4Laplacian
unfolding laplacian_outcome first_refusal first_of size_wrong node_wrong first_fault work_wrong over cleared laplacian_scores laplacian_score list_of neighbours newest_first edges_from of_bits of_int add mul
p4_laplacian = refl

-- one node with an undirected self-loop
pub record P5 : Type 0 where
  -- degree 2
  pub degree : degree_outcome (loop (nan ∷ nan ∷ []) [] [] []) ≡ left (done tt) (float 0x4000_0000_0000_0000 ∷ nan ∷ []) [] [] []
  -- Laplacian 4
  pub laplacian : laplacian_outcome (loop (nan ∷ []) (replicate 24 7) (replicate 2 7) (replicate 10 nan)) ≡ left (done tt) (float 0x4010_0000_0000_0000 ∷ []) (replicate 24 0) (replicate 2 0) (replicate 10 zero_f)
  -- VoteRank elects it
  pub voterank : voterank_outcome 1 (loop (7 ∷ 7 ∷ []) (replicate 24 7) (replicate 2 7) (replicate 10 nan)) ≡ left (done 1) (0 ∷ 7 ∷ []) (replicate 24 0) (replicate 2 0) (replicate 10 zero_f)

pub p5 : P5
unfolding ends_outcome end_scores end_count laplacian_outcome laplacian_scores laplacian_score voterank_outcome closing decay_of elections electing winner first_highest poll_score listed votes first_refusal first_of size_wrong node_wrong first_fault work_wrong over cleared list_of neighbours newest_first edges_from of_bits of_int add sub mul div lt eq is_nan max_of under
p5 = record { degree = refl; laplacian = refl; voterank = refl }

-- ---- beside the table

-- no room for a third score: every slice as it was
p4_room : laplacian_outcome (path (replicate 2 nan) (replicate 49 7) (replicate 7 7) (replicate 27 nan)) ≡ left (refusal 5) (replicate 2 nan) (replicate 49 7) (replicate 7 7) (replicate 27 nan)
unfolding laplacian_outcome first_refusal first_of size_wrong node_wrong first_fault work_wrong edges_from
p4_room = refl

-- ---- seeds: none, more than there are nodes, and a graph without edges

abbrev pair : {R : Type 0} → List ℕ → List ℕ → List Float → R → List ℕ → List ℕ → List Float → Given R
pair from to weight = given 2 false from to weight

record Seeds : Type 0 where
  -- 0 seeds: nobody, and no room is needed
  pub none : voterank_outcome 0 (loop [] (replicate 24 7) (replicate 2 7) (replicate 10 nan)) ≡ left (done 0) [] (replicate 24 0) (replicate 2 0) (replicate 10 zero_f)
  -- 2^64-1 seeds: room for n is enough
  pub most : voterank_outcome 18446744073709551615 (loop (7 ∷ []) (replicate 24 7) (replicate 2 7) (replicate 10 nan)) ≡ left (done 1) (0 ∷ []) (replicate 24 0) (replicate 2 0) (replicate 10 zero_f)
  -- no edges: nobody has a vote
  pub no_edges : voterank_outcome 2 (pair [] [] [] (7 ∷ 7 ∷ []) (replicate 24 7) (replicate 4 7) (replicate 12 nan)) ≡ left (done 0) (7 ∷ 7 ∷ []) (replicate 24 0) (replicate 4 0) (replicate 12 zero_f)
  -- 0-1, both with one vote: the first of them, and then no score is above 0
  pub tie : voterank_outcome 2 (pair (0 ∷ []) (1 ∷ []) (nan ∷ []) (7 ∷ 7 ∷ []) (replicate 32 7) (replicate 4 7) (replicate 16 nan)) ≡ left (done 1) (0 ∷ 7 ∷ []) (replicate 32 0) (replicate 4 0) (replicate 16 zero_f)

seeds : Seeds
unfolding voterank_outcome closing decay_of elections electing winner first_highest poll_score listed votes first_refusal first_of size_wrong node_wrong first_fault work_wrong over cleared neighbours newest_first edges_from of_bits of_int add sub div lt eq is_nan max_of under
seeds = record { none = refl; most = refl; no_edges = refl; tie = refl }

-- ---- reaching on the path 0-1-2: one hop, and no hop

one_hop : reaching_outcome 1 (path (replicate 3 nan) (replicate 48 7) (replicate 6 7) (replicate 26 nan))
    ≡ left (done tt) (float 0x3fe0_0000_0000_0000 ∷ float 0x3ff0_0000_0000_0000 ∷ float 0x3fe0_0000_0000_0000 ∷ []) (replicate 48 0) (replicate 6 0) (replicate 26 zero_f)
unfolding reaching_outcome reach_score others_in sum_over below dist seek walks same first_refusal first_of size_wrong node_wrong first_fault work_wrong over cleared list_of neighbours newest_first edges_from of_bits of_int div
one_hop = refl
