-- P7 of document 01, computed from the definition that the contract of `katz` cites: the call's whole outcome. Assumes nothing.
use mathlib.Core.Path.{◌≡◌, refl}
use mathlib.Core.Bool.{true, false}
use mathlib.Core.List.{List, [], ◌∷◌, ◌++◌}
use Prim.Native.Nat.{ℕ}
use lib.ListN.{replicate}
use lib.Count.{count_leading_zeros}
use lib.Ieee.{Float, binary64, of_bits, to_bits, add, sub, mul, lt, nan}
use Rattle.regions.specs.Region.{over, list_of, cleared, zero_f}
use Rattle.roots.specs.Root.{sqrt_of, root_of, root_at, round_root, isqrt}
use Rattle.answers.specs.declared.Settings.{Settings}
use Rattle.answers.specs.Answers.{done}
use Rattle.graph.specs.Edges.{edges_from}
use Rattle.graph.specs.Given.{Given, given}
use Rattle.graph.specs.Checks.{size_wrong, first_fault, node_wrong, first_odd, number_wrong, work_wrong}
use Rattle.graph.specs.Refusals.{first_of, first_refusal}
use Rattle.graph.specs.Left.{left}
use Rattle.rounds.specs.Rounds.{after, outcome_from, outcome}
use Rattle.rounds.specs.Tests.{reads_wrong}
use Rattle.rounds.specs.Vectors.{spreads, squared_change, settles}
use Rattle.katz.specs.Katz.{katz_next, katz_step, katz_rounds, katz_outcome}

abbrev float : ℕ → Float
float bits = of_bits binary64 bits

-- directed 0→1 of weight 1
abbrev arrow : List Float → List ℕ → List ℕ → List Float → Given (List Float)
arrow = given 2 true (0 ∷ []) (1 ∷ []) (float 0x3ff0_0000_0000_0000 ∷ [])

-- alpha 0.5, tolerance 0.1
abbrev asked : ℕ → Settings
asked limit = record { damping = float 0x3fe0_0000_0000_0000; tolerance = float 0x3fb9_9999_9999_999a; limit = limit }

-- 1.5, 1, three rounds, settled; a slot beyond the scores, and a place behind each used front, stay
abbrev pub P7 : Type 0
P7 =
    katz_outcome (asked 100) false [] (arrow (replicate 3 nan) (replicate 33 7) (replicate 5 7) (replicate 17 nan))
    ≡ left (done (record { settings = asked 100; rounds = 3; settled = true })) (float 0x3ff8_0000_0000_0000 ∷ float 0x3ff0_0000_0000_0000 ∷ nan ∷ [])
    (replicate 32 0 ++ (7 ∷ [])) (replicate 4 0 ++ (7 ∷ [])) (replicate 16 zero_f ++ (nan ∷ []))

pub p7 : P7
unfolding katz_outcome katz_rounds katz_step katz_next outcome outcome_from after spreads squared_change settles reads_wrong first_refusal first_of size_wrong node_wrong first_fault first_odd number_wrong work_wrong over cleared list_of edges_from of_bits to_bits add sub mul lt sqrt_of root_of root_at round_root isqrt count_leading_zeros
p7 = refl
