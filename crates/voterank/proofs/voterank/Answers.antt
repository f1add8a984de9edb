-- `voterank::voterank` meets its contract: a refusal by its test, the elected by what the steps leave. Assumes nothing.
use Rattle.std.proofs.Common.{◌≡◌, ℕ, List, sym, rules}
use Rattle.std.specs.Prelude.{Err}
use lib.Ieee.{of_bits}
use Rattle.graph.specs.Given.{Given, lent}
use Rattle.graph.specs.Pres.{Passed, Ready}
use Rattle.laplacian.proofs.Steps.{build_pre}
use Rattle.voterank.proofs.Closing.{seat_tests, seat_passed, turned_away, ready, fits, cut_long, fill_pre, elect_pre, roomy, ended}
use Rattle.voterank.proofs.voterank.Goals as goal
use Rattle.voterank.proofs.voterank.Goals.{Start, In_ok-plain_refusal}

-- what the call is given
abbrev here : goal.Start → Given (List ℕ)
here c =
    let s = c.args in
    lent s.graph s.elected.now s.w32.now s.w64.now s.wf.now

abbrev seeds : goal.Start → ℕ
seeds c = c.args.seeds

-- what the call is given, where nothing was refused
abbrev given_ok : goal.In_ok-plain_refusal → Given (List ℕ)
given_ok c = let s = c.args in lent s.graph s.elected.now s.w32.now s.w64.now s.wf.now

ok : (c : goal.In_ok-plain_refusal) → Passed (seat_tests (given_ok c) c.min-seats.result)
ok c = seat_passed (given_ok c) c.min-seats.result c.lengths.ensures c.in_ok-plain_refusal.ensures

sure : (c : goal.In_ok-plain_refusal) → Ready (given_ok c)
sure c = ready c.args.seeds (given_ok c) c.min-seats.result c.min-seats.ensures (ok c)

pub returns-in_err-plain_refusal : goal.returns-in_err-plain_refusal
returns-in_err-plain_refusal c =
    let s = (goal.at.returns-in_err-plain_refusal c).Start in
    let r : c.from_residual.result ≡ Err c.in_err-plain_refusal.field-0.0 = search rules in
    turned_away (seeds s) (here s) c.min-seats.result c.min-seats.ensures c.lengths.ensures r c.in_err-plain_refusal.ensures

pub build_rows-requires : goal.build_rows-requires
build_rows-requires c = let k = (goal.at.build_rows-requires c).In_ok-plain_refusal in build_pre (given_ok k) (sure k)

pub fill-requires : goal.fill-requires
fill-requires c = let k = (goal.at.fill-requires c).In_ok-plain_refusal in fill_pre _ (given_ok k) _ c.min-seats.ensures (ok k)

pub decay_of-requires : goal.decay_of-requires
decay_of-requires c = (sure (goal.at.decay_of-requires c).In_ok-plain_refusal).sound.limits.edges

pub slice_bounds-elect-end : goal.slice_bounds-elect-end
slice_bounds-elect-end c = let k = (goal.at.slice_bounds-elect-end c).In_ok-plain_refusal in fits _ (given_ok k) _ c.min-seats.ensures (ok k)

pub slice_bounds-elect-end-2 : goal.slice_bounds-elect-end-2
slice_bounds-elect-end-2 c = let k = (goal.at.slice_bounds-elect-end-2 c).In_ok-plain_refusal in sym (cut_long _ (given_ok k) _ c.min-seats.ensures (ok k))

pub elect-many-requires : goal.elect-many-requires
unfolding of_bits
elect-many-requires c = let k = (goal.at.elect-many-requires c).In_ok-plain_refusal in elect_pre _ (given_ok k) _ c.min-seats.ensures (ok k) _ _ c.build_rows.ensures c.fill.ensures

pub usual_fronts-requires : goal.usual_fronts-requires
usual_fronts-requires c = (sure (goal.at.usual_fronts-requires c).In_ok-plain_refusal).sound.limits

pub wipe-requires : goal.wipe-requires
unfolding of_bits
wipe-requires c = let k = (goal.at.wipe-requires c).In_ok-plain_refusal in roomy _ (given_ok k) _ c.min-seats.ensures (ok k) _ _ c.build_rows.ensures c.fill.ensures _ _ _ _ c.decay_of.ensures c.elect-many.ensures c.usual_fronts.ensures

pub returns : goal.returns
unfolding of_bits
returns c = let k = (goal.at.returns c).In_ok-plain_refusal in ended _ (given_ok k) _ c.min-seats.ensures (ok k) _ _ c.build_rows.ensures c.fill.ensures _ _ _ _ c.decay_of.ensures c.elect-many.ensures c.usual_fronts.ensures c.wipe.ensures
