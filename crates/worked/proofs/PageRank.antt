-- P6, computed from the definition that the contract of `pagerank` cites: the call's whole outcome. Assumes nothing.
use mathlib.Core.Path.{◌≡◌, refl}
use mathlib.Core.Bool.{true, false}
use mathlib.Core.List.{List, [], ◌∷◌, ◌++◌}
use Prim.Native.Nat.{ℕ}
use lib.ListN.{replicate}
use lib.Ieee.{Float, binary64, of_bits, of_int, add, sub, mul, div, neg, lt, eq, nan}
use Rattle.regions.specs.Region.{over, list_of, cleared, zero_f}
use Rattle.answers.specs.declared.Settings.{Settings}
use Rattle.answers.specs.Answers.{done, refused_with}
use Rattle.answers.specs.declared.Answer.TheVariants.{Start}
use Rattle.graph.specs.Edges.{edges_from, weighted, out_weight}
use Rattle.graph.specs.Given.{Given, given}
use Rattle.graph.specs.Checks.{size_wrong, first_fault, node_wrong, first_odd, number_wrong, work_wrong}
use Rattle.graph.specs.Refusals.{first_of, first_refusal}
use Rattle.graph.specs.Left.{left}
use Rattle.rounds.specs.Rounds.{after, outcome_from, outcome}
use Rattle.rounds.specs.Tests.{reads_wrong}
use Rattle.links.specs.Links.{distributes, absolute_change, settles, sum_of, divided}
use Rattle.pagerank.specs.PageRank.{dangling_sum, pagerank_base, pagerank_node, pagerank_next, pagerank_step, pagerank_rounds, pagerank_outcome}

abbrev float : ℕ → Float
float bits = of_bits binary64 bits

-- damping 0.5, tolerance 0, one round
abbrev halved : Settings
halved = record { damping = float 0x3fe0_0000_0000_0000; tolerance = zero_f; limit = 1 }

-- directed 0→1 of weight 1; a slot beyond the scores, and a place behind each used front
abbrev single : Given (List Float)
single = given 2 true (0 ∷ []) (1 ∷ []) (float 0x3ff0_0000_0000_0000 ∷ []) (nan ∷ nan ∷ nan ∷ []) (replicate 33 7) (replicate 5 7) (replicate 17 nan)

-- 0.375 and 0.625 after one round, not settled
abbrev pub P6Pagerank : Type 0
P6Pagerank =
    pagerank_outcome halved false [] single
    ≡ left (done (record { settings = halved; rounds = 1; settled = false })) (float 0x3fd8_0000_0000_0000 ∷ float 0x3fe4_0000_0000_0000 ∷ nan ∷ []) (replicate 32 0 ++ (7 ∷ [])) (replicate 4 0 ++ (7 ∷ [])) (replicate 16 zero_f ++ (nan ∷ []))

pub p6_pagerank : P6Pagerank
unfolding pagerank_outcome pagerank_rounds pagerank_step pagerank_next pagerank_node pagerank_base dangling_sum distributes settles absolute_change divided sum_of outcome outcome_from after reads_wrong number_wrong first_odd first_refusal first_of size_wrong node_wrong first_fault work_wrong over cleared list_of weighted out_weight edges_from of_bits of_int add sub mul div neg lt eq
p6_pagerank = refl

-- ---- beside the table

-- a given start whose sum is zero
no_start : pagerank_outcome halved true (float 0x3ff0_0000_0000_0000 ∷ float 0xbff0_0000_0000_0000 ∷ []) single
    ≡ left (refused_with Start) (nan ∷ nan ∷ nan ∷ []) (replicate 33 7) (replicate 5 7) (replicate 17 nan)
unfolding pagerank_outcome sum_of after reads_wrong number_wrong first_odd first_refusal first_of size_wrong node_wrong first_fault work_wrong edges_from of_bits of_int add sub mul div neg lt eq
no_start = refl
