-- The numbers of the calls in a list, and which call a number names. Definitions only.
use Rattle.std.specs.Prelude.{◌≡◌, ◌≤◌, ℕ, Result, MatchResult}
use Rattle.words.specs.declared.Call.{Call}
use Rattle.words.specs.declared.Call.TheVariants.{Degree, InDegree, OutDegree, Survey, Betweenness, EdgeBetweenness, LocalReaching, GlobalReaching, Voterank, Laplacian, Pagerank, PersonalizedPagerank, Eigenvector, Katz}
use Rattle.words.specs.declared.NoCall.{NoCall}

-- the number of a call
abbrev pub number_of : Call → ℕ
number_of Degree = 0
number_of InDegree = 1
number_of OutDegree = 2
number_of Survey = 3
number_of Betweenness = 4
number_of EdgeBetweenness = 5
number_of LocalReaching = 6
number_of GlobalReaching = 7
number_of Voterank = 8
number_of Laplacian = 9
number_of Pagerank = 10
number_of PersonalizedPagerank = 11
number_of Eigenvector = 12
number_of Katz = 13

-- a number names the call that has it, and none if it is more than 13
abbrev pub Named : ℕ → Result Call NoCall → Type 0
Named n r = MatchResult r (λ call. number_of call ≡ n) (λ _. 14 ≤ n)
