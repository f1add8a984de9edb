-- Document 01's cases of eigenvector, computed from the definition that the contract of `eigenvector` cites: each a call's whole outcome. Assumes nothing.
use mathlib.Core.Path.{◌≡◌, refl}
use mathlib.Core.Bool.{true, false}
use mathlib.Core.List.{[], ◌∷◌, ◌++◌}
use Prim.Native.Nat.{ℕ}
use lib.ListN.{replicate}
use lib.Count.{count_leading_zeros}
use lib.Ieee.{Float, binary64, of_bits, to_bits, of_int, div, nan}
use Rattle.regions.specs.Region.{over, list_of, cleared, zero_f}
use Rattle.roots.specs.Root.{sqrt_of, root_of, root_at, round_root, isqrt}
use Rattle.answers.specs.declared.Settings.{Settings}
use Rattle.answers.specs.Answers.{done, refusal}
use Rattle.graph.specs.Edges.{edges_from}
use Rattle.graph.specs.Given.{given}
use Rattle.graph.specs.Checks.{size_wrong, first_fault, node_wrong, first_odd, number_wrong, work_wrong}
use Rattle.graph.specs.Refusals.{first_of, first_refusal}
use Rattle.graph.specs.Left.{left}
use Rattle.rounds.specs.Rounds.{outcome_from, outcome}
use Rattle.eigenvector.specs.Eigenvector.{start_of, eigen_rounds, eigen_outcome}

abbrev float : ℕ → Float
float bits = of_bits binary64 bits

-- a damping that is not read, tolerance 0, limit 0
abbrev asked : Settings
asked = record { damping = nan; tolerance = zero_f; limit = 0 }

abbrev half : Float
half = float 0x3fe0_0000_0000_0000

-- four nodes without edges: 0.5 each, 0 rounds, settled, even with limit 0; ROOM and the wipe apply
abbrev pub Lone : Type 0
Lone =
    eigen_outcome asked (given 4 false [] [] [] (replicate 5 nan) (replicate 41 7) (replicate 9 7) (replicate 25 nan))
    ≡ left (done (record { settings = asked; rounds = 0; settled = true })) (half ∷ half ∷ half ∷ half ∷ nan ∷ []) (replicate 40 0 ++ (7 ∷ [])) (replicate 8 0 ++ (7 ∷ [])) (replicate 24 zero_f ++ (nan ∷ []))

pub lone : Lone
unfolding eigen_outcome eigen_rounds start_of outcome first_refusal first_of size_wrong node_wrong first_fault first_odd number_wrong work_wrong over cleared list_of edges_from of_bits to_bits of_int div sqrt_of root_of root_at round_root isqrt count_leading_zeros
lone = refl

-- an edge and limit 0: UNSETTLED, the results as they were, the front at zero
abbrev pub Unmet : Type 0
Unmet =
    eigen_outcome asked (given 2 false (0 ∷ []) (1 ∷ []) (half ∷ []) (replicate 2 nan) (replicate 32 7) (replicate 4 7) (replicate 16 nan))
    ≡ left (refusal 11) (replicate 2 nan) (replicate 32 0) (replicate 4 0) (replicate 16 zero_f)

pub unmet : Unmet
unfolding eigen_outcome eigen_rounds outcome outcome_from first_refusal first_of size_wrong node_wrong first_fault first_odd number_wrong work_wrong over cleared list_of edges_from of_bits
unmet = refl
