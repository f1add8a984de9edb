-- P2, P3 and P4 of document 01, the betweenness parts: whole outcomes, computed from the definitions. Assumes nothing.
use mathlib.Core.Path.{◌≡◌, refl}
use mathlib.Core.Bool.{true, false}
use mathlib.Core.List.{List, [], ◌∷◌, ◌++◌}
use lib.ListN.{replicate}
use lib.Ieee.{Float, binary64, of_bits, of_int, add, mul, div, nan}
use Rattle.regions.specs.Doubles.{two}
use Rattle.regions.specs.Region.{over, list_of, cleared, zero_f}
use Rattle.answers.specs.Answers.{done}
use Rattle.graph.specs.Edges.{listed, edges_from, newest_first, neighbours}
use Rattle.graph.specs.Given.{Given, given}
use Rattle.graph.specs.Checks.{size_wrong, first_fault, node_wrong, work_wrong}
use Rattle.graph.specs.Refusals.{first_of, first_refusal}
use Rattle.graph.specs.Left.{left}
use Rattle.hops.specs.Sum.{sum_over, same}
use Rattle.hops.specs.Hops.{walks, seek, dist, count, exceeds_below, exceeds}
use Rattle.predecessors.specs.Order.{entries_of, levels, copies, entered}
use Rattle.brandes.specs.Shares.{passed, leave, from_start, scores_after, some_exceeds}
use Rattle.betweenness.specs.Betweenness.{scaled, betweenness_scores, betweenness_outcome}
use Rattle.crossings.specs.Totals.{leave_by, totals_from, totals_after, scaled_total}
use Rattle.edge_betweenness.specs.Edges.{EdgeScores, edge_scores, forward_scores, back_scores, edge_betweenness_outcome}

-- 1.0 and 0.5
abbrev one : Float
one = of_bits binary64 0x3ff0_0000_0000_0000

abbrev half : Float
half = of_bits binary64 0x3fe0_0000_0000_0000

-- undirected 0-1, 1-3, 0-2, 2-3; a slot more than the results need, and a place more than each used front
abbrev square : Given (List Float)
square = given 4 false (0 ∷ 1 ∷ 0 ∷ 2 ∷ []) (1 ∷ 3 ∷ 2 ∷ 3 ∷ []) (replicate 4 nan) (replicate 5 nan) (replicate 73 7) (replicate 9 7) (replicate 41 nan)

-- directed 0→1 twice, 1→2
abbrev doubled : Given (List Float)
doubled = given 3 true (0 ∷ 0 ∷ 1 ∷ []) (1 ∷ 1 ∷ 2 ∷ []) (replicate 3 nan) (replicate 4 nan) (replicate 57 7) (replicate 7 7) (replicate 31 nan)

-- two nodes and an edge
abbrev pair : Given (List Float)
pair = given 2 false (0 ∷ []) (1 ∷ []) (nan ∷ []) (replicate 2 nan) (replicate 32 7) (replicate 4 7) (replicate 16 nan)

-- undirected path 0-1-2
abbrev path : Given EdgeScores
path = given 3 false (0 ∷ 1 ∷ []) (1 ∷ 2 ∷ []) (nan ∷ nan ∷ []) (edge_scores (replicate 3 nan) (replicate 3 nan)) (replicate 49 7) (replicate 7 7) (replicate 27 nan)

pub record P2 : Type 0 where
  -- raw betweenness: 0.5 each
  pub raw : betweenness_outcome false square
      ≡ left (done tt) (replicate 4 half ++ (nan ∷ [])) (replicate 72 0 ++ (7 ∷ [])) (replicate 8 0 ++ (7 ∷ [])) (replicate 40 zero_f ++ (nan ∷ []))

pub record P3Betweenness : Type 0 where
  -- raw betweenness 0,1,0
  pub raw : betweenness_outcome false doubled
      ≡ left (done tt) (zero_f ∷ one ∷ zero_f ∷ nan ∷ []) (replicate 56 0 ++ (7 ∷ [])) (replicate 6 0 ++ (7 ∷ [])) (replicate 30 zero_f ++ (nan ∷ []))

pub record P4Edges : Type 0 where
  -- raw edge betweenness: 2 forward and back on both
  pub raw : edge_betweenness_outcome false path
      ≡ left (done tt) (edge_scores (two ∷ two ∷ nan ∷ []) (two ∷ two ∷ nan ∷ [])) (replicate 48 0 ++ (7 ∷ [])) (replicate 6 0 ++ (7 ∷ [])) (replicate 26 zero_f ++ (nan ∷ []))

pub p2 : P2
unfolding betweenness_outcome betweenness_scores some_exceeds scores_after from_start scaled leave passed entered copies levels entries_of listed exceeds exceeds_below dist count seek walks sum_over same neighbours newest_first edges_from first_refusal first_of size_wrong node_wrong first_fault work_wrong over cleared list_of of_bits of_int add mul div
p2 = record { raw = refl }

pub p3_betweenness : P3Betweenness
unfolding betweenness_outcome betweenness_scores some_exceeds scores_after from_start scaled leave passed entered copies levels entries_of listed exceeds exceeds_below dist count seek walks sum_over same neighbours newest_first edges_from first_refusal first_of size_wrong node_wrong first_fault work_wrong over cleared list_of of_bits of_int add mul div
p3_betweenness = record { raw = refl }

pub p4_edges : P4Edges
unfolding edge_betweenness_outcome forward_scores back_scores scaled_total totals_after totals_from leave_by some_exceeds passed entered copies levels entries_of listed exceeds exceeds_below dist count seek walks sum_over same neighbours newest_first edges_from first_refusal first_of size_wrong node_wrong first_fault work_wrong over cleared list_of of_bits of_int add mul div
p4_edges = record { raw = refl }

-- ---- beside the table

-- normalized with two nodes: neither scaled nor halved
two_nodes : betweenness_outcome true pair ≡ left (done tt) (replicate 2 zero_f) (replicate 32 0) (replicate 4 0) (replicate 16 zero_f)
unfolding betweenness_outcome betweenness_scores some_exceeds scores_after from_start scaled leave passed entered copies levels entries_of listed exceeds exceeds_below dist count seek walks sum_over same neighbours newest_first edges_from first_refusal first_of size_wrong node_wrong first_fault work_wrong over cleared list_of of_bits of_int add mul div
two_nodes = refl

-- undirected 0-1, the same edge listed the other way round, a self-loop at 1, and 1-2
abbrev looped : Given EdgeScores
looped = given 3 false (0 ∷ 1 ∷ 1 ∷ 1 ∷ []) (1 ∷ 0 ∷ 1 ∷ 2 ∷ []) (replicate 4 nan) (edge_scores (replicate 5 nan) (replicate 5 nan)) (replicate 65 7) (replicate 7 7) (replicate 35 nan)

-- reversed and repeated edges share their totals, and a self-loop's slots are +0.0
shared : edge_betweenness_outcome false looped
    ≡ left (done tt) (edge_scores (two ∷ two ∷ zero_f ∷ two ∷ nan ∷ []) (two ∷ two ∷ zero_f ∷ two ∷ nan ∷ [])) (replicate 64 0 ++ (7 ∷ [])) (replicate 6 0 ++ (7 ∷ [])) (replicate 34 zero_f ++ (nan ∷ []))
unfolding edge_betweenness_outcome forward_scores back_scores scaled_total totals_after totals_from leave_by some_exceeds passed entered copies levels entries_of listed exceeds exceeds_below dist count seek walks sum_over same neighbours newest_first edges_from first_refusal first_of size_wrong node_wrong first_fault work_wrong over cleared list_of of_bits of_int add mul div
shared = refl

-- normalized, two nodes: 2/(2*1) is 1, and nothing is halved
abbrev one_edge : Given EdgeScores
one_edge = given 2 false (0 ∷ []) (1 ∷ []) (nan ∷ []) (edge_scores (nan ∷ []) (nan ∷ [])) (replicate 32 7) (replicate 4 7) (replicate 16 nan)

normalized_edge : edge_betweenness_outcome true one_edge ≡ left (done tt) (edge_scores (one ∷ []) (one ∷ [])) (replicate 32 0) (replicate 4 0) (replicate 16 zero_f)
unfolding edge_betweenness_outcome forward_scores back_scores scaled_total totals_after totals_from leave_by some_exceeds passed entered copies levels entries_of listed exceeds exceeds_below dist count seek walks sum_over same neighbours newest_first edges_from first_refusal first_of size_wrong node_wrong first_fault work_wrong over cleared list_of of_bits of_int add mul div
normalized_edge = refl
