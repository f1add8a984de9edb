-- The program's whole work: the answer's text of any bytes, and what a call of `run` leaves.
-- Definitions only. Document 01, "The command program".
use Rattle.std.specs.Prelude.{cond, List, map, ℕ, ltb, length, Result, Ok, Err}
use Rattle.std.proofs.lemmas.List.Edits.{sets}
use Rattle.answers.specs.declared.Answer.TheVariants.{Size, Room, Text}
use Rattle.answers.specs.Answers.{Said, done, refused_with, number_of}
use Rattle.answers.specs.Settings.{job_node_limit, job_edge_limit}
use Rattle.reader.specs.declared.Head.{Head}
use Rattle.lines.specs.declared.Edge.{Edge}
use Rattle.lines.specs.declared.FaultyLine.{FaultyLine}
use Rattle.reader.specs.Edges.{from_of, to_of, bits_of}
use Rattle.reader.specs.Job.{job_of, edges_of}
use Rattle.reply.specs.Reply.{refusal_text}
use Rattle.outcomes.specs.Texts.{output_room}
use Rattle.scoring.specs.Scored.{scored_text, on_zeros, doubles}

-- the most bytes of a job text
abbrev pub input_limit : ℕ
input_limit = 49152

-- the text of a job without a fault, whose edges are given as ends and bits: SIZE above the program's limits, then the measure's
unfoldable pub head_answer : Head → List ℕ → List ℕ → List ℕ → List ℕ
head_answer head from to bits =
    cond (ltb job_node_limit head.top.nodes) (refusal_text (number_of Size) 0)
    (cond (ltb job_edge_limit head.edges) (refusal_text (number_of Size) 0)
    (scored_text head.measure head.top (on_zeros from to (doubles bits))))

-- TEXT with the first faulty line, or the text of the job
abbrev pub job_answer : Result Head FaultyLine → List Edge → List ℕ
job_answer (Ok head) edges = head_answer head (map from_of edges) (map to_of edges) (map bits_of edges)
job_answer (Err line) edges = refusal_text (number_of Text) line.number

-- the answer's text of any bytes: SIZE for too many of them before all else
unfoldable pub answer_of : List ℕ → List ℕ
answer_of input = cond (ltb input_limit (length input)) (refusal_text (number_of Size) 0) (job_answer (job_of input) (edges_of input).given)

-- what `run` leaves: what it says, how many bytes it wrote or a refusal, and the output
pub record RunLeft : Type 0 where
  pub says : Said ℕ
  pub output : List ℕ

-- what `run` leaves, from its parts
abbrev pub run_left : Said ℕ → List ℕ → RunLeft
run_left says output = record { says = says; output = output }

-- ROOM, with the output as it was, if the output is too short for any answer; else the answer's text at its beginning, and every byte after it as it was
unfoldable pub run_outcome : List ℕ → List ℕ → RunLeft
run_outcome input output =
    cond (ltb (length output) output_room)
    (run_left (refused_with Room) output)
    (run_left (done (length (answer_of input))) (sets output 0 (answer_of input)))
