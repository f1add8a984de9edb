-- `degree::count_ends` meets its contract: a refusal by its test, the scores by what the walk leaves. Assumes nothing.
use mathlib.Core.Path.{◌≡◌}
use mathlib.Core.Bool.{false, true≢false}
use mathlib.Core.Path.{sym, ◌∙◌}
use mathlib.Core.List.{List, []}
use lib.Ieee.{Float}
use Rattle.std.specs.Prelude.{Err}
use borrow.Author.Rules.{rules}
use Rattle.graph.specs.Given.{Given, lent}
use Rattle.graph.proofs.Left.{refused}
use Rattle.graph.proofs.Refusals.{passed}
use Rattle.degree.specs.Degree.{ends_outcome}
use Rattle.degree.proofs.Ending.{tests, fits, froms_pre, tos_pre, pairs_pre, both_ended, froms_ended, tos_ended, none_ended}
use Rattle.degree.proofs.count_ends.Goals as goal
use Rattle.degree.proofs.count_ends.Goals.{Start, else-froms-via-then-froms+else-tos, else-froms-via-else-froms}

-- what the call is given
abbrev here : goal.Start → Given (List Float)
here c = lent c.args.graph c.args.scores.now [] [] []

pub returns-in_err-refusal : goal.returns-in_err-refusal
unfolding ends_outcome
returns-in_err-refusal c =
    let g = here (goal.at.returns-in_err-refusal c).Start in
    let r : c.from_residual.result ≡ Err c.in_err-refusal.field-0.0 = search rules in
    refused g (tests g) _ r c.in_err-refusal.ensures

pub wipe-requires : goal.wipe-requires
wipe-requires c = let g = here (goal.at.wipe-requires c).Start in fits g (passed (tests g) c.in_ok-refusal.ensures)

pub add_pairs-requires : goal.add_pairs-requires
add_pairs-requires c = let g = here (goal.at.add_pairs-requires c).Start in pairs_pre g (passed (tests g) c.in_ok-refusal.ensures) _ c.wipe.ensures

pub add_ends-requires : goal.add_ends-requires
add_ends-requires c = let g = here (goal.at.add_ends-requires c).Start in froms_pre g (passed (tests g) c.in_ok-refusal.ensures) _ c.wipe.ensures

pub add_ends-requires-then-tos-2 : goal.add_ends-requires-then-tos-2
add_ends-requires-then-tos-2 c = let g = here (goal.at.add_ends-requires-then-tos-2 c).Start in tos_pre g (passed (tests g) c.in_ok-refusal.ensures) _ c.wipe.ensures

pub returns-then-tos : goal.returns-then-tos
returns-then-tos c = let g = here (goal.at.returns-then-tos c).Start in both_ended g (passed (tests g) c.in_ok-refusal.ensures) _ c.wipe.ensures _ c.if-froms.true c.if-tos.true c.add_pairs.ensures

pub returns-then-froms-2 : goal.returns-then-froms-2
returns-then-froms-2 c =
    let g = here (goal.at.returns-then-froms-2 c).Start in
    let not_tos : c.args.tos ≡ false =
    elim c.else-froms.branch [
      | else-froms-via-then-froms+else-tos w ↦ w.if-tos.false
      | else-froms-via-else-froms w ↦ absurd (true≢false (sym c.if-froms-2.true ∙ w.if-froms.false))
    ] in
    froms_ended g (passed (tests g) c.in_ok-refusal.ensures) _ c.wipe.ensures _ c.if-froms-2.true not_tos c.add_ends.ensures

pub returns-then-tos-2 : goal.returns-then-tos-2
returns-then-tos-2 c = let g = here (goal.at.returns-then-tos-2 c).Start in tos_ended g (passed (tests g) c.in_ok-refusal.ensures) _ c.wipe.ensures _ c.if-froms-2.false c.if-tos-2.true c.add_ends-then-tos-2.ensures

pub returns-else-tos-2 : goal.returns-else-tos-2
returns-else-tos-2 c = let g = here (goal.at.returns-else-tos-2 c).Start in none_ended g (passed (tests g) c.in_ok-refusal.ensures) _ c.wipe.ensures c.if-froms-2.false c.if-tos-2.false
