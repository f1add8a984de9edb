-- Eigenvector centrality (document 01, "Eigenvector"; graphina's eigenvector.rs): y = x, then y[to] += weight*x[from], then y over its norm.
-- Definitions only.
use Rattle.std.specs.Prelude.{ℕ, Bool, true, false, cond, not, ◌||◌, List, length, ◌==◌, from_bits, Float}
use mathlib.Core.List.{foldl}
use Rattle.std.specs.Float.{binary64}
use Rattle.std.specs.Float.Ieee.{add, div, lt}
use Rattle.std.specs.Float.Ieee.Scale.{finite}
use Rattle.regions.specs.Doubles.{double, one}
use Rattle.regions.specs.Region.{zero_f, list_of}
use Rattle.roots.specs.Root.{sqrt_of}
use Rattle.answers.specs.declared.Settings.{Settings}
use Rattle.answers.specs.declared.Rounds.{Rounds}
use Rattle.answers.specs.Answers.{Said}
use Rattle.graph.specs.Edges.{Edge, Graph}
use Rattle.graph.specs.Given.{Given, graph_in}
use Rattle.graph.specs.Checks.{number_wrong}
use Rattle.graph.specs.Refusals.{Tests, first_refusal}
use Rattle.graph.specs.Left.{Left, unless_refused}
use Rattle.rounds.specs.declared.Own.{Own}
use Rattle.rounds.specs.Rounds.{after, Round, round, Out, outcome}
use Rattle.rounds.specs.Tests.{iterative_tests}
use Rattle.rounds.specs.Ending.{settled_only}
use Rattle.rounds.specs.Vectors.{entry, spreads, squared, settles}

-- the double nearest to 1e-10: a norm below it ends the rounds
abbrev pub tiny : Float
tiny = from_bits binary64 0x3ddb_7cdf_d9d7_bdbb

-- 1/sqrt(n), which every entry starts with
unfoldable pub start_of : ℕ → Float
start_of n = div binary64 one (sqrt_of (double n))

-- the vector with that value everywhere
abbrev pub uniform : ℕ → List Float
uniform n = list_of (λ _. start_of n) n

-- an edge: y[to] gains weight*x[from]; undirected, with two different ends, then the reverse
abbrev pub eigen_edge : Bool → List Float → List Float → Edge → List Float
eigen_edge directed x y e = spreads directed e.weight x y e.to e.from

-- what the edges make of y = x
unfoldable pub grown : Graph → List Float → List Float
grown g x = foldl (eigen_edge g.directed x) x g.edges

-- a sum with one entry's square more
abbrev pub with_square : List Float → ℕ → Float → Float
with_square y i sum = add binary64 sum (squared (entry y i))

-- the norm: the root of the summed squares, in order
unfoldable pub norm_of : ℕ → List Float → Float
norm_of n y = sqrt_of (after (with_square y) n zero_f)

-- y with each entry divided by the norm
unfoldable pub scaled : ℕ → Float → List Float → List Float
scaled n norm y = list_of (λ i. div binary64 (entry y i) norm) n

-- how a round ends that made y of x: a tiny norm gives the uniform vector and stops; else y is scaled, and stops if it settles
unfoldable pub eigen_end : ℕ → Float → List Float → List Float → Round (List Float)
eigen_end n tolerance x y =
    cond (lt (norm_of n y) tiny) (round (uniform n) true) (round (scaled n (norm_of n y) y) (settles tolerance n x (scaled n (norm_of n y) y)))

-- a round: what the edges make of x, and how the round ends with it
unfoldable pub eigen_step : Graph → Float → List Float → Round (List Float)
eigen_step g tolerance x = eigen_end g.nodes tolerance x (grown g x)

-- where the rounds end; no nodes and no edges are stop rules met before the first round
unfoldable pub eigen_rounds : Graph → Settings → Out (List Float)
eigen_rounds g settings =
    outcome (g.nodes == 0 || length g.edges == 0) (eigen_step g settings.tolerance) settings.limit (uniform g.nodes)

-- NUMBER reads the weights and the tolerance, and not the damping
abbrev pub eigen_own : Settings → Given (List Float) → Own
eigen_own settings g =
    record {
      number = number_wrong g.weight || not (finite settings.tolerance);
      damping = false;
      rounds = false;
      lengths = false;
      start = false;
    }

-- every row of document 01's table, for this call
abbrev pub eigen_tests : Settings → Given (List Float) → Tests
eigen_tests settings g = iterative_tests g false (eigen_own settings g)

-- what `eigenvector` leaves
unfoldable pub eigen_outcome : Settings → Given (List Float) → Left (Said Rounds) (List Float)
eigen_outcome settings g =
    unless_refused g (first_refusal (eigen_tests settings g)) (settled_only g settings (eigen_rounds (graph_in g) settings))
