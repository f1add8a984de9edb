-- Which settings a measure uses.
-- Definitions only. Document 01, "The command program": an unused setting is zero.
use Rattle.std.specs.Prelude.{ℕ, ◌-◌, ◌^◌}
use Rattle.lines.specs.declared.Measure.{Measure}
use Rattle.lines.specs.declared.Measure.TheVariants.{Betweenness, Pagerank, Personalized, Eigenvector, Katz, Reaching, Voterank, Laplacian, Degree}
use Rattle.lines.specs.declared.Most.{Most}

-- the largest number of 64 bits: every value is allowed
abbrev pub any : ℕ
any = 2 ^ 64 - 1

-- the largest values of option, rounds, factor and tolerance
abbrev pub up_to : ℕ → ℕ → ℕ → ℕ → Most
up_to option rounds factor tolerance = record { option = option; rounds = rounds; factor = factor; tolerance = tolerance }

-- What a measure lets each setting have at most: 0 where it does not use it. The option is normalized 0 or 1, a hop limit
-- or seeds; the factor is damping or alpha.
abbrev pub most_of : Measure → Most
most_of Betweenness = up_to 1 0 0 0
most_of Pagerank = up_to 0 any any any
most_of Personalized = up_to 0 any any any
most_of Eigenvector = up_to 0 any 0 any
most_of Katz = up_to 0 any any any
most_of Reaching = up_to any 0 0 0
most_of Voterank = up_to any 0 0 0
most_of Laplacian = up_to 0 0 0 0
most_of Degree = up_to 0 0 0 0
