-- Katz centrality (document 01, "Katz"; graphina's katz.rs): each round begins from beta, and x[from] gains (alpha*weight)*x[to]. The score of
-- a node counts the walks that leave it. Definitions only.
use Rattle.std.specs.Prelude.{Bool, false, cond, ℕ, eqb, length, Float}
use mathlib.Core.List.{List, foldl}
use Rattle.std.specs.Float.{binary64}
use Rattle.std.specs.Float.Ieee.{mul}
use Rattle.regions.specs.Doubles.{one}
use Rattle.regions.specs.Region.{zero_f, list_of}
use Rattle.answers.specs.declared.Settings.{Settings}
use Rattle.answers.specs.declared.Rounds.{Rounds}
use Rattle.answers.specs.Answers.{Said}
use Rattle.graph.specs.Edges.{Edge, Graph}
use Rattle.graph.specs.Given.{Given, graph_in}
use Rattle.graph.specs.Refusals.{Tests, first_refusal}
use Rattle.graph.specs.Left.{Left, unless_refused}
use Rattle.rounds.specs.declared.Own.{Own}
use Rattle.rounds.specs.Rounds.{Round, round, Out, outcome}
use Rattle.rounds.specs.Tests.{reads_wrong, length_wrong, iterative_tests}
use Rattle.rounds.specs.Ending.{settled_only}
use Rattle.rounds.specs.Vectors.{entry, spreads, settles}

-- beta of a node: as given, else 1
abbrev pub beta_at : Bool → List Float → ℕ → Float
beta_at flag beta i = cond flag (entry beta i) one

-- the vector that each round begins from
abbrev pub beta_of : Bool → List Float → ℕ → List Float
beta_of flag beta n = list_of (beta_at flag beta) n

-- an edge: y[from] gains (alpha*weight)*x[to]; undirected, with two different ends, then the reverse
abbrev pub katz_edge : Bool → Float → List Float → List Float → Edge → List Float
katz_edge directed alpha x y e = spreads directed (mul binary64 alpha e.weight) x y e.from e.to

-- the vector that a round makes of x
unfoldable pub katz_next : Graph → Float → List Float → List Float → List Float
katz_next g alpha beta x = foldl (katz_edge g.directed alpha x) beta g.edges

-- a round: that vector, and whether it settles
unfoldable pub katz_step : Graph → Float → Float → List Float → List Float → Round (List Float)
katz_step g alpha tolerance beta x = round (katz_next g alpha beta x) (settles tolerance g.nodes x (katz_next g alpha beta x))

-- where the rounds end; x starts at 0, and no nodes is a stop rule met before the first round
unfoldable pub katz_rounds : Graph → Settings → Bool → List Float → Out (List Float)
katz_rounds g settings flag beta =
    outcome (eqb g.nodes 0) (katz_step g settings.damping settings.tolerance (beta_of flag beta g.nodes)) settings.limit
    (list_of (λ _. zero_f) g.nodes)

-- NUMBER reads the weights, alpha, the tolerance and a given beta; LENGTH measures a given beta
abbrev pub katz_own : Settings → Bool → List Float → Given (List Float) → Own
katz_own settings flag beta g =
    record {
      number = reads_wrong g.weight settings.damping settings.tolerance flag beta;
      damping = false;
      rounds = false;
      lengths = length_wrong flag (length beta) g.nodes;
      start = false;
    }

-- every row of document 01's table, for this call
abbrev pub katz_tests : Settings → Bool → List Float → Given (List Float) → Tests
katz_tests settings flag beta g = iterative_tests g false (katz_own settings flag beta g)

-- what `katz` leaves
unfoldable pub katz_outcome : Settings → Bool → List Float → Given (List Float) → Left (Said Rounds) (List Float)
katz_outcome settings flag beta g =
    unless_refused g (first_refusal (katz_tests settings flag beta g)) (settled_only g settings (katz_rounds (graph_in g) settings flag beta))
