-- 32,768 bytes suffice for every answer. Assumes nothing.
use mathlib.Core.Path.{◌≡◌, refl, sym, ap, ◌∙◌}
use mathlib.Core.Bool.{Bool, true, false, cond}
use mathlib.Core.List.{List, map}
use Rattle.std.specs.Prelude.{Result, Ok, Err}
use Prim.Native.Nat.{ℕ, ◌≤◌}
use native.Mathlib.Omega.{arith}
use lib.Dec.{ltb}
use lib.ListN.{length}
use lib.Seq.{sets}
use borrow.Author.Tests.{ltb-false}
use Rattle.answers.specs.Answers.{done, refused_with, said_by, number_of}
use Rattle.answers.specs.declared.Refusal.{Refusal}
use Rattle.answers.specs.declared.Answer.TheVariants.{Size, Room, Text}
use Rattle.answers.specs.Settings.{job_node_limit, job_edge_limit}
use Rattle.reader.specs.declared.Head.{Head}
use Rattle.lines.specs.declared.Edge.{Edge}
use Rattle.lines.specs.declared.FaultyLine.{FaultyLine}
use Rattle.reader.specs.Edges.{from_of, to_of, bits_of}
use Rattle.reader.specs.Job.{job_of, edges_of}
use Rattle.reply.specs.Reply.{refusal_text}
use Rattle.outcomes.specs.Texts.{output_room}
use Rattle.outcomes.proofs.Fits.{refused}
use Rattle.scoring.specs.Scored.{on_zeros, doubles}
use Rattle.scoring.proofs.Suffices.{measure_fits}
use Rattle.job.specs.Run.{input_limit, head_answer, job_answer, answer_of, RunLeft, run_left, run_outcome}

-- by a test: a text that fits if it holds, and one that fits if not
either : (t : Bool) (a b : List ℕ) → length a ≤ output_room → (t ≡ false → length b ≤ output_room) → length (cond t a b) ≤ output_room
either true a b h k = h
either false a b h k = k refl

head_fits : (head : Head) (from to bits : List ℕ) → length (head_answer head from to bits) ≤ output_room
unfolding head_answer
head_fits head from to bits =
    either (ltb job_node_limit head.top.nodes) (refusal_text (number_of Size) 0) _ (refused (number_of Size) 0)
    (λ e. either (ltb job_edge_limit head.edges) (refusal_text (number_of Size) 0) _ (refused (number_of Size) 0)
    (λ _. measure_fits head.measure head.top (on_zeros from to (doubles bits)) (ltb-false job_node_limit head.top.nodes e)))

job_fits : (job : Result Head FaultyLine) (edges : List Edge) → length (job_answer job edges) ≤ output_room
job_fits (Ok head) edges = head_fits head (map from_of edges) (map to_of edges) (map bits_of edges)
job_fits (Err line) edges = refused (number_of Text) line.number

pub suffices : (input : List ℕ) → length (answer_of input) ≤ output_room
unfolding answer_of
suffices input = either (ltb input_limit (length input)) (refusal_text (number_of Size) 0) _ (refused (number_of Size) 0) (λ _. job_fits (job_of input) (edges_of input).given)

-- what `run` says it wrote lies within the output
pub written_within : (input output : List ℕ) {r : Result ℕ Refusal} {k : ℕ} {o : List ℕ} → r ≡ Ok k → run_left (said_by r) o ≡ run_outcome input output → k ≤ length output
unfolding run_outcome
written_within input output {r} {k} e h = said (ltb (length output) output_room) refl (sym (ap (λ (x : Result ℕ Refusal). said_by x) e) ∙ ap (λ (x : RunLeft). x.says) h)
  where
    said : (t : Bool) → ltb (length output) output_room ≡ t → done k ≡ (cond t (run_left (refused_with Room) output) (run_left (done (length (answer_of input))) (sets output 0 (answer_of input)))).says → k ≤ length output
    said true p q = let z : ◌≡◌ {A = ℕ} 0 1 = cc in let bad : ⊥ = omega arith in absurd bad
    said false p q =
        let same : k ≡ length (answer_of input) = cc in
        omega (arith, suffices input, ltb-false (length output) output_room p)
