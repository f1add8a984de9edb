-- VoteRank: the election rule (document 01, "VoteRank"; Zhang et al.; graphina's other.rs). Definitions only.
use Rattle.std.specs.Prelude.{ℕ, zero, suc, ◌-◌, ◌*◌, min, Bool, false, cond, List, [], ◌∷◌, ◌++◌, length, replicate, nat_lt, slice_index_or, slice_set, Float}
use mathlib.Core.List.{foldl}
use Rattle.std.specs.Float.{binary64, nan}
use Rattle.std.specs.Float.Ieee.{div, lt}
use Rattle.regions.specs.Doubles.{double, one}
use Rattle.regions.specs.Region.{zero_f, over}
use Rattle.answers.specs.Answers.{Said, done}
use Rattle.graph.specs.Edges.{listed, Graph, entries}
use Rattle.graph.specs.Given.{Given, graph_in}
use Rattle.graph.specs.Left.{Left, wiped, unless_refused}
use Rattle.graph.specs.Refusals.{plainly}
use Rattle.polls.specs.Votes.{votes, first_highest, weaker}

-- ---- the decay

-- m, and undirected twice that
abbrev pub total_degree : Bool → ℕ → ℕ
total_degree directed m = cond directed m (2 * m)

-- the average degree of n nodes
abbrev pub average_degree : ℕ → Bool → ℕ → Float
average_degree n directed m = div binary64 (double (total_degree directed m)) (double n)

-- the decay: the reciprocal of the average degree
unfoldable pub decay_of : ℕ → Bool → ℕ → Float
decay_of n directed m = div binary64 one (average_degree n directed m)

-- ---- an election

-- before an election: the ability of each node, and who has been elected, in order
pub record Poll : Type 0 where
  pub ability : List Float
  pub elected : List ℕ

-- a poll from its parts
abbrev pub poll : List Float → List ℕ → Poll
poll a es = record { ability = a; elected = es }

-- the ability of v
abbrev pub ability_of : Poll → ℕ → Float
ability_of p v = slice_index_or p.ability v nan

-- every node has ability 1, and nobody has been elected
abbrev pub opening : ℕ → Poll
opening n = poll (replicate n one) []

-- the score of v: its votes, and 0 for one who has been elected
unfoldable pub poll_score : Graph → Poll → ℕ → Float
poll_score g p v = cond (listed v p.elected) zero_f (votes g.directed (ability_of p) g.edges v)

-- who would be elected
unfoldable pub winner : Graph → Poll → ℕ
winner g p = first_highest (poll_score g p) (g.nodes - 1)

-- v is elected: its ability becomes 0, and each of its neighbour entries loses the decay, once for each parallel one
unfoldable pub electing : Graph → Float → Poll → ℕ → Poll
electing g decay p v = poll (foldl (weaker decay) (slice_set p.ability v zero_f) (entries g v)) (p.elected ++ (v ∷ []))

-- k elections, fewer if a highest score is not above 0
unfoldable pub elections : Graph → Float → ℕ → Poll → Poll
elections g decay zero p = p
elections g decay (suc k) p = cond (lt zero_f (poll_score g p (winner g p))) (elections g decay k (electing g decay p (winner g p))) p

-- ---- the call

-- how many are elected at most: the lesser of n and the seeds asked
abbrev pub seats_of : ℕ → ℕ → ℕ
seats_of n seeds = min n seeds

-- the poll when the elections are over
unfoldable pub closing : {R : Type 0} → ℕ → Given R → Poll
closing seeds g = elections (graph_in g) (decay_of g.nodes g.directed (length g.from)) (seats_of g.nodes seeds) (opening g.nodes)

-- what `voterank` leaves: the elected in order, and how many they are
unfoldable pub voterank_outcome : ℕ → Given (List ℕ) → Left (Said ℕ) (List ℕ)
voterank_outcome seeds g =
    unless_refused g (plainly g false false (nat_lt (length g.results) (seats_of g.nodes seeds)))
    (wiped g (done (length (closing seeds g).elected)) (over (closing seeds g).elected g.results))
