-- The text of what a call says fits into 32,768 bytes, and so does a refusal. Assumes nothing.
use mathlib.Core.Path.{◌≡◌, refl}
use mathlib.Core.List.{List}
use Prim.Native.Nat.{ℕ, ◌≤◌}
use native.Mathlib.Omega.{arith}
use lib.ListN.{length, take, length-take}
use lib.Ieee.{Float}
use Rattle.answers.specs.Answers.{Said, done, refusal}
use Rattle.answers.specs.declared.Rounds.{Rounds}
use Rattle.graph.specs.Left.{Left}
use Rattle.answers.specs.Settings.{job_node_limit}
use Rattle.lines.specs.declared.Measure.{Measure}
use Rattle.std.specs.Prelude.{None, Some}
use Rattle.reply.specs.Reply.{refusal_text}
use Rattle.reply.proofs.Lengths.{answer_long, election_long, refusal_long}
use Rattle.outcomes.specs.Texts.{output_room, plain_text, ended_text, plain_of, ended_of, elected_text}

pub refused : (number line : ℕ) → length (refusal_text number line) ≤ output_room
refused number line = omega (arith, refusal_long number line)

-- n scores at most are taken
taken : {A : Type 0} (n : ℕ) (l : List A) → length (take n l) ≤ n
taken n l = omega (arith, length-take n l)

plain_fits : (measure : Measure) (n : ℕ) (says : Said (Unit {0})) (scores : List Float) → n ≤ job_node_limit → length (plain_text measure n says scores) ≤ output_room
plain_fits measure n (done v) scores h = omega (arith, answer_long measure n 0 None (take n scores), taken n scores)
plain_fits measure n (refusal k) scores h = refused k 0

ended_fits : (measure : Measure) (n : ℕ) (says : Said Rounds) (scores : List Float) → n ≤ job_node_limit → length (ended_text measure n says scores) ≤ output_room
ended_fits measure n (done r) scores h = omega (arith, answer_long measure n r.rounds (Some r.settled) (take n scores), taken n scores)
ended_fits measure n (refusal k) scores h = refused k 0

pub plain : (measure : Measure) (n : ℕ) (o : Left (Said (Unit {0})) (List Float)) → n ≤ job_node_limit → length (plain_of measure n o) ≤ output_room
plain measure n o h = plain_fits measure n o.says o.results h

pub ended : (measure : Measure) (n : ℕ) (o : Left (Said Rounds) (List Float)) → n ≤ job_node_limit → length (ended_of measure n o) ≤ output_room
ended measure n o h = ended_fits measure n o.says o.results h

pub elected_fits : (n : ℕ) (says : Said ℕ) (elected : List ℕ) → ((k : ℕ) → says ≡ done k → k ≤ job_node_limit) → length (elected_text n says elected) ≤ output_room
elected_fits n (done k) elected h =
    let few = h k refl in
    omega (arith, election_long n (take k elected), taken k elected, few)
elected_fits n (refusal k) elected h = refused k 0
