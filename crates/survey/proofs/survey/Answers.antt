-- `survey::survey` meets its contract: a refusal by its test, the rest by what the steps leave. Assumes nothing.
use mathlib.Core.Path.{◌≡◌}
use mathlib.Core.Bool.{true}
use borrow.Author.Rules.{rules}
use lib.Dec.{leb}
use lib.ListN.{length}
use Rattle.std.specs.Prelude.{Err}
use Rattle.graph.specs.Given.{Given, lent}
use Rattle.graph.specs.Pres.{Passed}
use Rattle.graph.proofs.Refusals.{plain_tests}
use Rattle.survey.specs.Survey.{Results, results, too_short}
use Rattle.survey.proofs.Ending.{refused_survey, passed_survey, limits, build_pre, held, write_pre, wipe_pre, ended}
use Rattle.survey.proofs.survey.Goals as goal
use Rattle.survey.proofs.survey.Goals.{In_ok-plain_refusal, Start}

-- what the call is given
abbrev here : goal.Start → Given Results
here c = let s = c.args in lent s.graph (results s.distances.now s.counts.now) s.w32.now s.w64.now s.wf.now

-- nothing refused
ok : (c : goal.In_ok-plain_refusal)
    → let s = c.args in
    Passed (plain_tests (lent s.graph (results s.distances.now s.counts.now) s.w32.now s.w64.now s.wf.now) true (leb s.graph.nodes s.start) (too_short s.graph.nodes (length s.distances.now) (length s.counts.now)))
ok c = passed_survey _ (lent c.args.graph (results c.args.distances.now c.args.counts.now) c.args.w32.now c.args.w64.now c.args.wf.now) c.too_short-short.ensures c.lengths-lengths.ensures c.in_ok-plain_refusal.ensures

pub returns-in_err-plain_refusal : goal.returns-in_err-plain_refusal
returns-in_err-plain_refusal c =
    let r : c.from_residual.result ≡ Err c.in_err-plain_refusal.field-0.0 = search rules in
    refused_survey c.args.start (here (goal.at.returns-in_err-plain_refusal c).Start) c.too_short-short.ensures c.lengths-lengths.ensures r c.in_err-plain_refusal.ensures

pub build_rows-requires : goal.build_rows-requires
build_rows-requires c = build_pre c.args.start (here (goal.at.build_rows-requires c).Start) (ok (goal.at.build_rows-requires c).In_ok-plain_refusal)

pub search-searched-requires : goal.search-searched-requires
search-searched-requires c = held c.args.start (here (goal.at.search-searched-requires c).Start) (ok (goal.at.search-searched-requires c).In_ok-plain_refusal) _ c.build_rows.ensures

pub write-said-requires : goal.write-said-requires
write-said-requires c = write_pre c.args.start (here (goal.at.write-said-requires c).Start) (ok (goal.at.write-said-requires c).In_ok-plain_refusal) _ c.build_rows.ensures _ _ _ c.search-searched.ensures

pub usual_fronts-requires : goal.usual_fronts-requires
usual_fronts-requires c = limits c.args.start (here (goal.at.usual_fronts-requires c).Start) (ok (goal.at.usual_fronts-requires c).In_ok-plain_refusal)

pub wipe-requires : goal.wipe-requires
wipe-requires c = wipe_pre c.args.start (here (goal.at.wipe-requires c).Start) (ok (goal.at.wipe-requires c).In_ok-plain_refusal) _ c.build_rows.ensures _ _ _ c.search-searched.ensures _ c.usual_fronts.ensures

pub returns : goal.returns
returns c =
    ended c.args.start (here (goal.at.returns c).Start) (ok (goal.at.returns c).In_ok-plain_refusal) _ c.build_rows.ensures _ _ _ c.search-searched.ensures c.write-said.result _ _ _ _ _ c.usual_fronts.ensures c.wipe.ensures c.write-said.ensures
