-- Which text answers a job, by its limits and its faulty line.
-- Assumes nothing.
use mathlib.Core.Path.{◌≡◌, refl, sym, ◌∙◌}
use mathlib.Core.Bool.{Bool, true, false, cond}
use mathlib.Core.List.{List, map}
use Rattle.std.specs.Prelude.{Result, Ok, Err}
use Prim.Native.Nat.{ℕ, ◌≤◌, ◌<◌}
use native.Mathlib.Omega.{arith}
use lib.ListN.{length}
use lib.Dec.{ltb}
use borrow.Author.Tests.{lt-ltb, le-ltb, ltb-false}
use Rattle.text.specs.Written.{Written}
use Rattle.answers.specs.declared.Answer.TheVariants.{Size, Room, Text}
use Rattle.answers.specs.Answers.{done, refused_with, number_of}
use Rattle.answers.specs.Settings.{job_node_limit, job_edge_limit}
use Rattle.reader.specs.declared.Head.{Head}
use Rattle.lines.specs.declared.FaultyLine.{FaultyLine}
use Rattle.reader.specs.Edges.{from_of, to_of, bits_of}
use Rattle.reader.specs.Job.{job_of, edges_of}
use Rattle.reply.specs.Reply.{refusal_text}
use Rattle.outcomes.specs.Texts.{output_room}
use Rattle.scoring.specs.Scored.{scored_text, on_zeros, doubles}
use Rattle.job.specs.Run.{input_limit, run_left, run_outcome, head_answer, answer_of}

-- the same text, written
pub as_written : {text text' before after : List ℕ} {r : ℕ} → text ≡ text' → Written text' before 0 after r → Written text before 0 after r
as_written e w = rw e w

module _ (head : Head) (from to bits : List ℕ) where
  pub too_many_nodes : job_node_limit < head.top.nodes → head_answer head from to bits ≡ refusal_text (number_of Size) 0
  unfolding head_answer
  too_many_nodes h = rw (lt-ltb job_node_limit head.top.nodes h)

  pub too_many_edges : head.top.nodes ≤ job_node_limit → job_edge_limit < head.edges → head_answer head from to bits ≡ refusal_text (number_of Size) 0
  unfolding head_answer
  too_many_edges h k = rw (le-ltb job_node_limit head.top.nodes h, lt-ltb job_edge_limit head.edges k)

  pub of_measure : head.top.nodes ≤ job_node_limit → head.edges ≤ job_edge_limit → head_answer head from to bits ≡ scored_text head.measure head.top (on_zeros from to (doubles bits))
  unfolding head_answer
  of_measure h k = rw (le-ltb job_node_limit head.top.nodes h, le-ltb job_edge_limit head.edges k)

-- edges beyond the program's limit do not matter
pub same_answer : (head : Head) {from to bits from' to' bits' : List ℕ} → (head.edges ≤ job_edge_limit → (from ≡ from') × (to ≡ to') × (bits ≡ bits')) → head_answer head from to bits ≡ head_answer head from' to' bits'
unfolding head_answer
same_answer head {from} {to} {bits} {from'} {to'} {bits'} f = either (ltb job_edge_limit head.edges) refl
  where
    size : List ℕ
    size = refusal_text (number_of Size) 0

    either : (t : Bool) → ltb job_edge_limit head.edges ≡ t → cond (ltb job_node_limit head.top.nodes) size (cond t size (scored_text head.measure head.top (on_zeros from to (doubles bits)))) ≡ cond (ltb job_node_limit head.top.nodes) size (cond t size (scored_text head.measure head.top (on_zeros from' to' (doubles bits'))))
    either true e = refl
    either false e =
        let same = f (ltb-false job_edge_limit head.edges e) in
        rw (same.0, same.1, same.2)

module _ (input : List ℕ) where
  pub too_long : input_limit < length input → answer_of input ≡ refusal_text (number_of Size) 0
  unfolding answer_of
  too_long h = rw (lt-ltb input_limit (length input) h)

  pub a_fault : {job : Result Head FaultyLine} {line : FaultyLine} → length input ≤ input_limit → job ≡ job_of input → job ≡ Err line → answer_of input ≡ refusal_text (number_of Text) line.number
  unfolding answer_of
  a_fault h j e = rw (le-ltb input_limit (length input) h, sym j ∙ e)

  pub a_job : {job : Result Head FaultyLine} {head : Head} → length input ≤ input_limit → job ≡ job_of input → job ≡ Ok head → answer_of input ≡ head_answer head (map from_of (edges_of input).given) (map to_of (edges_of input).given) (map bits_of (edges_of input).given)
  unfolding answer_of
  a_job h j e = rw (le-ltb input_limit (length input) h, sym j ∙ e)

  -- an output that is too short, and one that has room
  pub no_room : (output : List ℕ) → length output < output_room → run_left (refused_with Room) output ≡ run_outcome input output
  unfolding run_outcome
  no_room output h = rw (lt-ltb (length output) output_room h)

  pub all_written : {output after : List ℕ} {r : ℕ} → output_room ≤ length output → Written (answer_of input) output 0 after r → run_left (done r) after ≡ run_outcome input output
  unfolding run_outcome
  all_written {output} {after} {r} h w =
      let long : r ≡ length (answer_of input) = omega (arith, w.next_is) in
      rw (le-ltb (length output) output_room h, long, w.after_is)
