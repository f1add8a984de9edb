-- `eigenvector::eigenvector` meets its contract: a refusal by its test, the scores by what the rounds leave. Assumes nothing.
use Rattle.std.proofs.Common.{◌≡◌, List, rules}
use Rattle.std.specs.Prelude.{Err}
use lib.Ieee.{Float}
use Rattle.graph.specs.Given.{Given, lent}
use Rattle.graph.specs.Pres.{Passed}
use Rattle.graph.proofs.Refusals.{passed}
use Rattle.graph.proofs.Left.{refused}
use Rattle.eigenvector.specs.Eigenvector.{eigen_tests, eigen_outcome}
use Rattle.eigenvector.proofs.Steps.{answered, ready, run_pre, writes, ended}
use Rattle.eigenvector.proofs.eigenvector.Goals as goal
use Rattle.eigenvector.proofs.eigenvector.Goals.{Start}

-- what the call is given
abbrev here : goal.Start → Given (List Float)
here c = let s = c.args in lent s.graph s.scores.now s.w32.now s.w64.now s.wf.now

pub returns-in_err-refusal : goal.returns-in_err-refusal
unfolding eigen_outcome
returns-in_err-refusal c =
    let g = here (goal.at.returns-in_err-refusal c).Start in
    let r : c.from_residual.result ≡ Err c.in_err-refusal.field-0.0 = search rules in
    refused g (eigen_tests c.args.settings g) _ r (answered c.args.settings g c.lengths-lengths.ensures c.reads_wrong.ensures c.in_err-refusal.ensures)

pub run-ended-requires : goal.run-ended-requires
run-ended-requires c =
    let g = here (goal.at.run-ended-requires c).Start in
    let s = c.args.settings in
    let p : Passed (eigen_tests s g) = passed (eigen_tests s g) (answered s g c.lengths-lengths.ensures c.reads_wrong.ensures c.in_ok-refusal.ensures) in
    run_pre s g p

pub usual_fronts-front-requires : goal.usual_fronts-front-requires
usual_fronts-front-requires c =
    let g = here (goal.at.usual_fronts-front-requires c).Start in
    let s = c.args.settings in
    let p : Passed (eigen_tests s g) = passed (eigen_tests s g) (answered s g c.lengths-lengths.ensures c.reads_wrong.ensures c.in_ok-refusal.ensures) in
    (ready s g p).sound.limits

pub write_settled-requires : goal.write_settled-requires
write_settled-requires c =
    let g = here (goal.at.write_settled-requires c).Start in
    let s = c.args.settings in
    let p : Passed (eigen_tests s g) = passed (eigen_tests s g) (answered s g c.lengths-lengths.ensures c.reads_wrong.ensures c.in_ok-refusal.ensures) in
    writes s g p c.run-ended.ensures c.usual_fronts-front.ensures

pub returns : goal.returns
returns c =
    let g = here (goal.at.returns c).Start in
    let s = c.args.settings in
    let p : Passed (eigen_tests s g) = passed (eigen_tests s g) (answered s g c.lengths-lengths.ensures c.reads_wrong.ensures c.in_ok-refusal.ensures) in
    ended s g p c.run-ended.ensures c.usual_fronts-front.ensures c.write_settled.ensures
