-- Which refusal comes first: the rows of document 01's table that can hold before a call does its work, in the order it gives. Definitions only.
use Rattle.std.specs.Prelude.{Bool, false, cond, ◌||◌, ◌&&◌, List, [], ◌∷◌, ℕ, eqb, length, Float}
use Rattle.answers.specs.declared.Answer.{Answer}
use Rattle.answers.specs.declared.Answer.TheVariants.{Done, Empty, Size, Node, Number, Room, Damping, Rounds, Start, Length}
use Rattle.graph.specs.Fronts.{usual_fronts}
use Rattle.graph.specs.Checks.{size_wrong, node_wrong, work_wrong}
use Rattle.graph.specs.Edges.{edges_of}
use Rattle.graph.specs.Given.{Given}

-- for each row, whether its sentence holds of a call
pub record Tests : Type 0 where
  pub size : Bool
  pub empty : Bool
  pub node : Bool
  pub number : Bool
  pub damping : Bool
  pub rounds : Bool
  pub lengths : Bool
  pub start : Bool
  pub room : Bool

-- a row: whether its sentence holds, and its answer
pub record Row : Type 0 where
  pub holds : Bool
  pub answer : Answer

-- a row from its parts
abbrev pub row : Bool → Answer → Row
row b a = record { holds = b; answer = a }

-- the rows in document 01's order
abbrev pub table : Tests → List Row
table t =
    row t.size Size
    ∷ row t.empty Empty
    ∷ row t.node Node
    ∷ row t.number Number
    ∷ row t.damping Damping
    ∷ row t.rounds Rounds
    ∷ row t.lengths Length
    ∷ row t.start Start
    ∷ row t.room Room
    ∷ []

-- the answer of the first row that holds, and DONE if none does
unfoldable pub first_of : List Row → Answer
first_of [] = Done
first_of (r ∷ rs) = cond r.holds r.answer (first_of rs)

-- the first refusal of a call, and DONE if nothing refuses
unfoldable pub first_refusal : Tests → Answer
first_refusal t = first_of (table t)

-- the tests of a measure that reads only the ends of the edges. `empties`: it answers EMPTY for n = 0; `stray`: its start is no node; `cramped`: ROOM
abbrev pub ends_tests : ℕ → List ℕ → List ℕ → List Float → Bool → Bool → Bool → Tests
ends_tests n from to weight empties stray cramped =
    record {
      size = size_wrong n from to weight;
      empty = empties && eqb n 0;
      node = node_wrong n (edges_of from to weight) || stray;
      number = false;
      damping = false;
      rounds = false;
      lengths = false;
      start = false;
      room = cramped;
    }

-- ROOM: a result slice is too short (`short`), or a workspace of the lengths a, b and c is, for n nodes and m edges
abbrev pub room_wrong : ℕ → ℕ → Bool → ℕ → ℕ → ℕ → Bool
room_wrong n m short a b c = short || work_wrong (usual_fronts n m) a b c

-- the first refusal of a measure that reads only the ends of the edges and takes a workspace of the lengths a, b and c
abbrev pub plain_refusal : ℕ → List ℕ → List ℕ → List Float → Bool → Bool → Bool → ℕ → ℕ → ℕ → Answer
plain_refusal n from to weight empties stray short a b c =
    first_refusal (ends_tests n from to weight empties stray (room_wrong n (length from) short a b c))

-- The first refusal, in document 01's order, of a call that reads no weight and takes the usual workspace; DONE if nothing refuses.
-- `empties`: n = 0 is EMPTY; `stray`: its start is no node; `short`: a result slice is too short.
abbrev pub plainly : {R : Type 0} → Given R → Bool → Bool → Bool → Answer
plainly g empties stray short =
    plain_refusal g.nodes g.from g.to g.weight empties stray short (length g.w32) (length g.w64) (length g.wf)
