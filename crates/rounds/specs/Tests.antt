-- The refusals of an iterative measure: which rows of document 01's table hold of its call. Definitions only.
use Rattle.std.specs.Prelude.{Bool, not, ◌&&◌, ◌||◌, List, ℕ, eqb, ltb, length, Float}
use Rattle.std.specs.Float.Ieee.Scale.{finite}
use Rattle.graph.specs.Edges.{edges_of}
use Rattle.graph.specs.Given.{Given}
use Rattle.graph.specs.Checks.{size_wrong, node_wrong, number_wrong}
use Rattle.graph.specs.Refusals.{Tests, room_wrong}
use Rattle.rounds.specs.declared.Own.{Own}

-- NUMBER, of a vector that may be given: it is, and one of its entries is an infinity or a NaN, whatever its length
abbrev pub vector_wrong : Bool → List Float → Bool
vector_wrong flag vector = flag && number_wrong vector

-- LENGTH: a vector is given that has not n entries
abbrev pub length_wrong : Bool → ℕ → ℕ → Bool
length_wrong flag long n = flag && not (eqb long n)

-- NUMBER, of a measure that reads the weights, a damping, a tolerance and a vector that may be given
unfoldable pub reads_wrong : List Float → Float → Float → Bool → List Float → Bool
reads_wrong weight damping tolerance flag vector =
    number_wrong weight || not (finite damping) || not (finite tolerance) || vector_wrong flag vector

-- every row, from those that a measure tests itself (`own`). `empties`: it answers EMPTY for n = 0; `short`: a result slice is too short
abbrev pub own_tests : ℕ → List ℕ → List ℕ → List Float → Bool → Own → Bool → ℕ → ℕ → ℕ → Tests
own_tests n from to weight empties own short a b c =
    record {
      size = size_wrong n from to weight;
      empty = empties && eqb n 0;
      node = node_wrong n (edges_of from to weight);
      number = own.number;
      damping = own.damping;
      rounds = own.rounds;
      lengths = own.lengths;
      start = own.start;
      room = room_wrong n (length from) short a b c;
    }

-- the same, of what a call with one slice of scores is given
abbrev pub iterative_tests : Given (List Float) → Bool → Own → Tests
iterative_tests g empties own =
    own_tests g.nodes g.from g.to g.weight empties own (ltb (length g.results) g.nodes) (length g.w32) (length g.w64) (length g.wf)
