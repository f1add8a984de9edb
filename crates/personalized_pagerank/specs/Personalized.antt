-- Personalized PageRank (document 01, "Personalized"; graphina's personalized_pagerank.rs): the state after k rounds, float operation by float
-- operation. Definitions only.
use Rattle.std.specs.Prelude.{ℕ, Bool, true, false, cond, ◌&&◌, ◌||◌, List, length, ◌==◌, slice_set, Float}
use Rattle.std.specs.Float.{binary64}
use Rattle.std.specs.Float.Ieee.{add, sub, mul, lt, le}
use Rattle.regions.specs.Doubles.{one}
use Rattle.regions.specs.Region.{zero_f, list_of, part}
use Rattle.answers.specs.declared.Settings.{Settings}
use Rattle.answers.specs.declared.Rounds.{Rounds}
use Rattle.answers.specs.Answers.{Said}
use Rattle.graph.specs.Given.{Given, graph_in}
use Rattle.graph.specs.Layout.{personal_at}
use Rattle.graph.specs.Refusals.{Tests, first_refusal}
use Rattle.graph.specs.Left.{Left, unless_refused}
use Rattle.rounds.specs.declared.Own.{Own}
use Rattle.rounds.specs.Rounds.{after, Round, round, Out, outcome}
use Rattle.rounds.specs.Tests.{reads_wrong, length_wrong, iterative_tests}
use Rattle.rounds.specs.Ending.{scored}
use Rattle.rounds.specs.Vectors.{entry}
use Rattle.links.specs.Links.{Links, links_of, distributes, settles, sum_of, divided}

-- ---- a round

-- the personalization vector of n nodes in the workspace
abbrev pub personal_in : ℕ → List Float → List Float
personal_in n wf = part wf (personal_at n) n

-- what a node has before the others give: 0.0 + (1-damping)*p[j]
abbrev pub personal_base : Float → List Float → ℕ → Float
personal_base damping p j = add binary64 zero_f (mul binary64 (sub binary64 one damping) (entry p j))

-- the entry j gains dangling*p[j]
abbrev pub gains_part : Float → List Float → ℕ → List Float → List Float
gains_part dangling p j y = slice_set y j (add binary64 (entry y j) (mul binary64 dangling (entry p j)))

-- a node that dangles gives damping*x[i] to all n nodes in order, by the personalization
unfoldable pub spreads_personal : ℕ → Float → List Float → List Float → ℕ → List Float → List Float
spreads_personal n damping p x i y = after (gains_part (mul binary64 damping (entry x i)) p) n y

-- a node whose out-weight is above zero distributes, every other one dangles
unfoldable pub personal_node : Links → Float → List Float → List Float → ℕ → List Float → List Float
personal_node l damping p x i y = cond (lt zero_f (entry l.outs i)) (distributes l damping x i y) (spreads_personal l.nodes damping p x i y)

-- the vector that a round makes of x
unfoldable pub personal_next : Links → Float → List Float → List Float → List Float
personal_next l damping p x = after (personal_node l damping p x) l.nodes (list_of (personal_base damping p) l.nodes)

-- a round: that vector, and whether it settles
unfoldable pub personal_step : Links → Float → Float → List Float → List Float → Round (List Float)
personal_step l damping tolerance p x = round (personal_next l damping p x) (settles tolerance l.nodes x (personal_next l damping p x))

-- ---- the call

-- a vector counts if it is given and its sum is positive
abbrev pub counts_of : Bool → Float → Bool
counts_of flag sum = flag && lt zero_f sum

-- the vector divided by its sum, or 1/n for each node
abbrev pub personal_of : Bool → List Float → ℕ → List Float
personal_of flag vector n = divided (counts_of flag (sum_of vector)) vector n

-- where the rounds end; they begin from the personalization
unfoldable pub personal_rounds : Links → Settings → Bool → List Float → Out (List Float)
personal_rounds l settings flag vector =
    outcome (l.nodes == 0) (personal_step l settings.damping settings.tolerance (personal_of flag vector l.nodes)) settings.limit (personal_of flag vector l.nodes)

-- DAMPING: it is 0 or below, or 1 or above
abbrev pub damping_wrong : Float → Bool
damping_wrong damping = le damping zero_f || le one damping

-- NUMBER reads the weights, the damping, the tolerance and a given vector; ROUNDS: the limit is 0
abbrev pub personal_own : Settings → Bool → List Float → Given (List Float) → Own
personal_own settings flag vector g =
    record {
      number = reads_wrong g.weight settings.damping settings.tolerance flag vector;
      damping = damping_wrong settings.damping;
      rounds = (settings.limit == 0);
      lengths = length_wrong flag (length vector) g.nodes;
      start = false;
    }

-- every row of document 01's table, for this call: n = 0 is EMPTY
abbrev pub personal_tests : Settings → Bool → List Float → Given (List Float) → Tests
personal_tests settings flag vector g = iterative_tests g true (personal_own settings flag vector g)

-- what `personalized_pagerank` leaves: running out of rounds is DONE, not settled
unfoldable pub personalized_outcome : Settings → Bool → List Float → Given (List Float) → Left (Said Rounds) (List Float)
personalized_outcome settings flag vector g =
    unless_refused g (first_refusal (personal_tests settings flag vector g)) (scored g settings (personal_rounds (links_of (graph_in g)) settings flag vector))
