-- `pagerank::pagerank` meets its contract: a refusal by its test, the scores by what the rounds leave. Assumes nothing.
use Rattle.std.proofs.Common.{◌≡◌, List, rules}
use Rattle.std.specs.Prelude.{Err}
use lib.Ieee.{Float}
use Rattle.graph.specs.Given.{Given, lent}
use Rattle.graph.specs.Refusals.{Tests}
use Rattle.graph.specs.Pres.{Passed}
use Rattle.graph.proofs.Refusals.{passed}
use Rattle.graph.proofs.Left.{refused}
use Rattle.pagerank.specs.PageRank.{pagerank_tests, pagerank_outcome}
use Rattle.links.proofs.Ending.{prepare_pre, write_pre}
use Rattle.pagerank.proofs.Ending.{answered, ready, fits, divide_pre, run_pre, moved, ended}
use Rattle.pagerank.proofs.pagerank.Goals as goal
use Rattle.pagerank.proofs.pagerank.Goals.{Start}

-- what the call is given
abbrev here : goal.Start → Given (List Float)
here c = let s = c.args in lent s.graph s.scores.now s.w32.now s.w64.now s.wf.now

abbrev tests : goal.Start → Tests
tests c = pagerank_tests c.args.settings c.args.given c.args.start.now (here c)

pub returns-in_err-refusal : goal.returns-in_err-refusal
unfolding pagerank_outcome
returns-in_err-refusal c =
    let g = here (goal.at.returns-in_err-refusal c).Start in
    let r : c.from_residual.result ≡ Err c.in_err-refusal.field-0.0 = search rules in
    refused g (tests (goal.at.returns-in_err-refusal c).Start) _ r
    (answered c.args.settings c.args.given c.args.start.now g c.lengths-lengths.ensures c.reads_wrong.ensures c.length_wrong.ensures c.start_wrong.ensures c.divisor-sum.ensures c.in_err-refusal.ensures)

pub prepare-requires : goal.prepare-requires
prepare-requires c =
    let g = here (goal.at.prepare-requires c).Start in
    let s = c.args.settings in
    let flag = c.args.given in
    let start = c.args.start.now in
    let p : Passed (pagerank_tests s flag start g) = passed (tests (goal.at.prepare-requires c).Start) (answered s flag start g c.lengths-lengths.ensures c.reads_wrong.ensures c.length_wrong.ensures c.start_wrong.ensures c.divisor-sum.ensures c.in_ok-refusal.ensures) in
    prepare_pre g (ready s flag start g p) (fits s flag start g p)

pub divide-requires : goal.divide-requires
divide-requires c =
    let g = here (goal.at.divide-requires c).Start in
    let s = c.args.settings in
    let flag = c.args.given in
    let start = c.args.start.now in
    let p : Passed (pagerank_tests s flag start g) = passed (tests (goal.at.divide-requires c).Start) (answered s flag start g c.lengths-lengths.ensures c.reads_wrong.ensures c.length_wrong.ensures c.start_wrong.ensures c.divisor-sum.ensures c.in_ok-refusal.ensures) in
    divide_pre s flag start g p c.prepare.ensures

pub run-ended-requires : goal.run-ended-requires
run-ended-requires c =
    let g = here (goal.at.run-ended-requires c).Start in
    let s = c.args.settings in
    let flag = c.args.given in
    let start = c.args.start.now in
    let p : Passed (pagerank_tests s flag start g) = passed (tests (goal.at.run-ended-requires c).Start) (answered s flag start g c.lengths-lengths.ensures c.reads_wrong.ensures c.length_wrong.ensures c.start_wrong.ensures c.divisor-sum.ensures c.in_ok-refusal.ensures) in
    run_pre s flag start g p c.prepare.ensures c.divisor-sum.ensures c.divide.ensures

pub write-requires : goal.write-requires
write-requires c =
    let g = here (goal.at.write-requires c).Start in
    let s = c.args.settings in
    let flag = c.args.given in
    let start = c.args.start.now in
    let p : Passed (pagerank_tests s flag start g) = passed (tests (goal.at.write-requires c).Start) (answered s flag start g c.lengths-lengths.ensures c.reads_wrong.ensures c.length_wrong.ensures c.start_wrong.ensures c.divisor-sum.ensures c.in_ok-refusal.ensures) in
    write_pre g (ready s flag start g p) (fits s flag start g p) c.prepare.ensures (moved s flag start g p c.prepare.ensures c.divisor-sum.ensures c.divide.ensures c.run-ended.ensures)

pub returns : goal.returns
returns c =
    let g = here (goal.at.returns c).Start in
    let s = c.args.settings in
    let flag = c.args.given in
    let start = c.args.start.now in
    let p : Passed (pagerank_tests s flag start g) = passed (tests (goal.at.returns c).Start) (answered s flag start g c.lengths-lengths.ensures c.reads_wrong.ensures c.length_wrong.ensures c.start_wrong.ensures c.divisor-sum.ensures c.in_ok-refusal.ensures) in
    ended s flag start g p c.prepare.ensures c.divisor-sum.ensures c.divide.ensures c.run-ended.ensures c.write.ensures
