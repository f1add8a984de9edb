-- `katz::katz` meets its contract: a refusal by its test, the scores by what the rounds leave. Assumes nothing.
use mathlib.Core.List.{List}
use mathlib.Core.Path.{◌≡◌}
use borrow.Author.Rules.{rules}
use Rattle.std.specs.Prelude.{Err}
use lib.Ieee.{Float}
use Rattle.graph.specs.Given.{Given, lent}
use Rattle.graph.specs.Pres.{Passed}
use Rattle.graph.proofs.Refusals.{passed}
use Rattle.graph.proofs.Left.{refused}
use Rattle.katz.specs.Katz.{katz_tests, katz_outcome}
use Rattle.katz.proofs.Steps.{answered, ready, run_pre, writes, ended}
use Rattle.katz.proofs.katz.Goals as goal
use Rattle.katz.proofs.katz.Goals.{Start}

-- what the call is given
abbrev here : goal.Start → Given (List Float)
here c = let s = c.args in lent s.graph s.scores.now s.w32.now s.w64.now s.wf.now

pub returns-in_err-refusal : goal.returns-in_err-refusal
unfolding katz_outcome
returns-in_err-refusal c =
    let a = c.args in
    let g = here (goal.at.returns-in_err-refusal c).Start in
    let r : c.from_residual.result ≡ Err c.in_err-refusal.field-0.0 = search rules in
    refused g (katz_tests a.settings a.given a.beta.now g) _ r
    (answered a.settings a.given a.beta.now g c.lengths-lengths.ensures c.reads_wrong.ensures c.length_wrong.ensures c.in_err-refusal.ensures)

pub run-ended-requires : goal.run-ended-requires
run-ended-requires c =
    let g = here (goal.at.run-ended-requires c).Start in
    let s = c.args.settings in
    let flag = c.args.given in
    let beta = c.args.beta.now in
    let p : Passed (katz_tests s flag beta g) = passed (katz_tests s flag beta g) (answered s flag beta g c.lengths-lengths.ensures c.reads_wrong.ensures c.length_wrong.ensures c.in_ok-refusal.ensures) in
    run_pre s flag beta g p

pub usual_fronts-front-requires : goal.usual_fronts-front-requires
usual_fronts-front-requires c =
    let g = here (goal.at.usual_fronts-front-requires c).Start in
    let s = c.args.settings in
    let flag = c.args.given in
    let beta = c.args.beta.now in
    let p : Passed (katz_tests s flag beta g) = passed (katz_tests s flag beta g) (answered s flag beta g c.lengths-lengths.ensures c.reads_wrong.ensures c.length_wrong.ensures c.in_ok-refusal.ensures) in
    (ready s flag beta g p).sound.limits

pub write_settled-requires : goal.write_settled-requires
write_settled-requires c =
    let g = here (goal.at.write_settled-requires c).Start in
    let s = c.args.settings in
    let flag = c.args.given in
    let beta = c.args.beta.now in
    let p : Passed (katz_tests s flag beta g) = passed (katz_tests s flag beta g) (answered s flag beta g c.lengths-lengths.ensures c.reads_wrong.ensures c.length_wrong.ensures c.in_ok-refusal.ensures) in
    writes s flag beta g p c.run-ended.ensures c.usual_fronts-front.ensures

pub returns : goal.returns
returns c =
    let g = here (goal.at.returns c).Start in
    let s = c.args.settings in
    let flag = c.args.given in
    let beta = c.args.beta.now in
    let p : Passed (katz_tests s flag beta g) = passed (katz_tests s flag beta g) (answered s flag beta g c.lengths-lengths.ensures c.reads_wrong.ensures c.length_wrong.ensures c.in_ok-refusal.ensures) in
    ended s flag beta g p c.run-ended.ensures c.usual_fronts-front.ensures c.write_settled.ensures
