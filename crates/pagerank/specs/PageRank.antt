-- PageRank (document 01, "PageRank"; graphina's pagerank.rs): the state after k rounds, float operation by float operation. Definitions only.
use Rattle.std.specs.Prelude.{ℕ, Bool, false, cond, ◌&&◌, List, length, ◌==◌, from_bits, nat_lt, Float}
use Rattle.std.specs.Float.{binary64}
use Rattle.std.specs.Float.Ieee.{add, sub, mul, div, lt, eq}
use Rattle.regions.specs.Doubles.{double, one}
use Rattle.roots.specs.Absolute.{abs_of}
use Rattle.regions.specs.Region.{zero_f, list_of}
use Rattle.answers.specs.declared.Settings.{Settings}
use Rattle.answers.specs.declared.Rounds.{Rounds}
use Rattle.answers.specs.Answers.{Said}
use Rattle.graph.specs.Given.{Given, graph_in}
use Rattle.graph.specs.Refusals.{Tests, first_refusal}
use Rattle.graph.specs.Left.{Left, unless_refused}
use Rattle.rounds.specs.declared.Own.{Own}
use Rattle.rounds.specs.Rounds.{after, Round, round, Out, outcome}
use Rattle.rounds.specs.Tests.{reads_wrong, length_wrong, iterative_tests}
use Rattle.rounds.specs.Ending.{scored}
use Rattle.rounds.specs.Vectors.{entry}
use Rattle.links.specs.Links.{Links, links_of, distributes, settles, divisor_of, divided}

-- ---- a round

-- a node whose out-weight is exactly zero dangles: its entry is added to the sum
abbrev pub dangles : Float → Float → Float → Float
dangles out x sum = cond (eq out zero_f) (add binary64 sum x) sum

-- the sum with node i's entry, if that node dangles
abbrev pub with_dangling : List Float → List Float → ℕ → Float → Float
with_dangling outs x i sum = dangles (entry outs i) (entry x i) sum

-- the entries of the dangling ones of n nodes, added from +0.0 in order
unfoldable pub dangling_sum : ℕ → List Float → List Float → Float
dangling_sum n outs x = after (with_dangling outs x) n zero_f

-- what each node has before the others give: (1-damping)/n + dangling*(damping/n)
unfoldable pub pagerank_base : ℕ → Float → Float → Float
pagerank_base n damping dangling =
    add binary64 (div binary64 (sub binary64 one damping) (double n)) (mul binary64 dangling (div binary64 damping (double n)))

-- a node whose out-weight is above zero distributes; a negative one does not
unfoldable pub pagerank_node : Links → Float → List Float → ℕ → List Float → List Float
pagerank_node l damping x i y = cond (lt zero_f (entry l.outs i)) (distributes l damping x i y) y

-- the vector that a round makes of x
unfoldable pub pagerank_next : Links → Float → List Float → List Float
pagerank_next l damping x =
    after (pagerank_node l damping x) l.nodes (list_of (λ _. pagerank_base l.nodes damping (dangling_sum l.nodes l.outs x)) l.nodes)

-- a round: that vector, and whether it settles
unfoldable pub pagerank_step : Links → Float → Float → List Float → Round (List Float)
pagerank_step l damping tolerance x = round (pagerank_next l damping x) (settles tolerance l.nodes x (pagerank_next l damping x))

-- ---- the call

-- where the rounds end, from 1/n for each node or the given start divided by its sum; no nodes is a stop rule met before the first round
unfoldable pub pagerank_rounds : Links → Settings → Bool → List Float → Out (List Float)
pagerank_rounds l settings flag start =
    outcome (l.nodes == 0) (pagerank_step l settings.damping settings.tolerance) settings.limit (divided flag start l.nodes)

-- the double nearest to 1e-9
abbrev pub tiny : Float
tiny = from_bits binary64 0x3e11_2e0b_e826_d695

-- START: a start is given, there are nodes, and its sum's absolute value is below 1e-9. `sum` is what the start is divided by
abbrev pub start_wrong : Bool → ℕ → Float → Bool
start_wrong flag n sum = flag && nat_lt 0 n && lt (abs_of sum) tiny

-- NUMBER reads the weights, the damping, the tolerance and a given start; LENGTH and START measure a given start
abbrev pub pagerank_own : Settings → Bool → List Float → Given (List Float) → Own
pagerank_own settings flag start g =
    record {
      number = reads_wrong g.weight settings.damping settings.tolerance flag start;
      damping = false;
      rounds = false;
      lengths = length_wrong flag (length start) g.nodes;
      start = start_wrong flag g.nodes (divisor_of flag start g.nodes);
    }

-- every row of document 01's table, for this call
abbrev pub pagerank_tests : Settings → Bool → List Float → Given (List Float) → Tests
pagerank_tests settings flag start g = iterative_tests g false (pagerank_own settings flag start g)

-- what `pagerank` leaves: running out of rounds is DONE, not settled
unfoldable pub pagerank_outcome : Settings → Bool → List Float → Given (List Float) → Left (Said Rounds) (List Float)
pagerank_outcome settings flag start g =
    unless_refused g (first_refusal (pagerank_tests settings flag start g)) (scored g settings (pagerank_rounds (links_of (graph_in g)) settings flag start))
