-- `personalized_pagerank::personalized_pagerank` meets its contract: a refusal by its test, the scores by what the rounds leave. Assumes nothing.
use Rattle.std.proofs.Common.{◌≡◌, List, rules}
use Rattle.std.specs.Prelude.{Err}
use lib.Ieee.{Float}
use Rattle.graph.specs.Given.{Given, lent}
use Rattle.graph.specs.Refusals.{Tests}
use Rattle.graph.specs.Pres.{Passed}
use Rattle.graph.proofs.Refusals.{passed}
use Rattle.graph.proofs.Left.{refused}
use Rattle.personalized_pagerank.specs.Personalized.{personal_tests, personalized_outcome}
use Rattle.links.proofs.Ending.{prepare_pre, write_pre}
use Rattle.personalized_pagerank.proofs.Personal.{personal_answered, personal_ready, personal_fits, personal_pre, personal_run_pre, personal_moved, personal_ended}
use Rattle.personalized_pagerank.proofs.personalized_pagerank.Goals as goal
use Rattle.personalized_pagerank.proofs.personalized_pagerank.Goals.{Start}

-- what the call is given
abbrev here : goal.Start → Given (List Float)
here c = let s = c.args in lent s.graph s.scores.now s.w32.now s.w64.now s.wf.now

abbrev tests : goal.Start → Tests
tests c = personal_tests c.args.settings c.args.given c.args.personalization.now (here c)

pub returns-in_err-refusal : goal.returns-in_err-refusal
unfolding personalized_outcome
returns-in_err-refusal c =
    let g = here (goal.at.returns-in_err-refusal c).Start in
    let r : c.from_residual.result ≡ Err c.in_err-refusal.field-0.0 = search rules in
    refused g (tests (goal.at.returns-in_err-refusal c).Start) _ r
    (personal_answered c.args.settings c.args.given c.args.personalization.now g c.lengths-lengths.ensures c.reads_wrong.ensures c.length_wrong.ensures c.damping_wrong.ensures c.in_err-refusal.ensures)

pub prepare-requires : goal.prepare-requires
prepare-requires c =
    let g = here (goal.at.prepare-requires c).Start in
    let s = c.args.settings in
    let flag = c.args.given in
    let xs = c.args.personalization.now in
    let p : Passed (personal_tests s flag xs g) = passed (tests (goal.at.prepare-requires c).Start) (personal_answered s flag xs g c.lengths-lengths.ensures c.reads_wrong.ensures c.length_wrong.ensures c.damping_wrong.ensures c.in_ok-refusal.ensures) in
    prepare_pre g (personal_ready s flag xs g p) (personal_fits s flag xs g p)

pub begin-requires : goal.begin-requires
begin-requires c =
    let g = here (goal.at.begin-requires c).Start in
    let s = c.args.settings in
    let flag = c.args.given in
    let xs = c.args.personalization.now in
    let p : Passed (personal_tests s flag xs g) = passed (tests (goal.at.begin-requires c).Start) (personal_answered s flag xs g c.lengths-lengths.ensures c.reads_wrong.ensures c.length_wrong.ensures c.damping_wrong.ensures c.in_ok-refusal.ensures) in
    personal_pre s flag xs g p c.prepare.ensures

pub run-ended-requires : goal.run-ended-requires
run-ended-requires c =
    let g = here (goal.at.run-ended-requires c).Start in
    let s = c.args.settings in
    let flag = c.args.given in
    let xs = c.args.personalization.now in
    let p : Passed (personal_tests s flag xs g) = passed (tests (goal.at.run-ended-requires c).Start) (personal_answered s flag xs g c.lengths-lengths.ensures c.reads_wrong.ensures c.length_wrong.ensures c.damping_wrong.ensures c.in_ok-refusal.ensures) in
    personal_run_pre s flag xs g p c.prepare.ensures c.begin.ensures

pub write-requires : goal.write-requires
write-requires c =
    let g = here (goal.at.write-requires c).Start in
    let s = c.args.settings in
    let flag = c.args.given in
    let xs = c.args.personalization.now in
    let p : Passed (personal_tests s flag xs g) = passed (tests (goal.at.write-requires c).Start) (personal_answered s flag xs g c.lengths-lengths.ensures c.reads_wrong.ensures c.length_wrong.ensures c.damping_wrong.ensures c.in_ok-refusal.ensures) in
    write_pre g (personal_ready s flag xs g p) (personal_fits s flag xs g p) c.prepare.ensures (personal_moved s flag xs g p c.prepare.ensures c.begin.ensures c.run-ended.ensures)

pub returns : goal.returns
returns c =
    let g = here (goal.at.returns c).Start in
    let s = c.args.settings in
    let flag = c.args.given in
    let xs = c.args.personalization.now in
    let p : Passed (personal_tests s flag xs g) = passed (tests (goal.at.returns c).Start) (personal_answered s flag xs g c.lengths-lengths.ensures c.reads_wrong.ensures c.length_wrong.ensures c.damping_wrong.ensures c.in_ok-refusal.ensures) in
    personal_ended s flag xs g p c.prepare.ensures c.begin.ensures c.run-ended.ensures c.write.ensures
