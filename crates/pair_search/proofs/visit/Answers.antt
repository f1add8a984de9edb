-- `pair_search::visit` meets its contract: at each entry the search is as `TourPairs` says. Assumes nothing.
use Prim.Native.Nat.{◌+◌}
use native.Mathlib.Omega.{arith}
use lib.ListN.{get_or}
use Rattle.std.proofs.lemmas.Result.{err_from_is_err_and}
use Rattle.hops.specs.Search.{graph_of}
use Rattle.hops.proofs.Scans.{grown_most}
use Rattle.predecessors.proofs.Tours.{reads_in, place_fits}
use Rattle.pair_search.proofs.Tours.{TourPairs, pairs_none, pairs_pre, pairs_in_rows, pairs_row_in, pairs_step, pairs_stays, pairs_paths, pairs_end, pairs_done}
use Rattle.pair_search.proofs.visit.Goals as goal
use Rattle.pair_search.proofs.visit.Goals.{At-loop-p}

-- where the walk stands, for the graph that the caller has
here : (c : goal.At-loop-p) → TourPairs (graph_of c.args.paired.tracks.places.nodes c.requires.visit.directed c.requires.visit.edges) c.args.paired c.requires.visit.start c.args.head c.args.tail c.args.w32.now c.args.w64.now (get_or c.args.w32.now (c.args.paired.tracks.places.queue + c.args.head) 0) (get_or c.args.w32.now (c.args.paired.tracks.places.distances + get_or c.args.w32.now (c.args.paired.tracks.places.queue + c.args.head) 0) 0 + 1) (get_or c.args.w64.now (get_or c.args.w32.now (c.args.paired.tracks.places.queue + c.args.head) 0) 0) c.loop-p.w32 c.loop-p.w64 c.loop-p.p c.loop-p.place
here c = let s = c.requires.visit in c.loop-p.invariant s.directed s.edges s.start s.tracked

pub overflow_add-node : goal.overflow_add-node
overflow_add-node c = omega (arith, reads_in c.requires.visit)

pub offset_bounds-w32-places : goal.offset_bounds-w32-places
offset_bounds-w32-places c = omega (arith, reads_in c.requires.visit)

pub bounds-w32-places : goal.bounds-w32-places
bounds-w32-places c = omega (arith, reads_in c.requires.visit)

pub bounds-w32-places-2 : goal.bounds-w32-places-2
bounds-w32-places-2 c = omega (arith, reads_in c.requires.visit)

pub overflow_add-further-2 : goal.overflow_add-further-2
overflow_add-further-2 c = omega (arith, reads_in c.requires.visit)

pub bounds-w64-u : goal.bounds-w64-u
bounds-w64-u c = omega (arith, reads_in c.requires.visit)

pub overflow_add-place : goal.overflow_add-place
overflow_add-place c = omega (arith, reads_in c.requires.visit)

pub bounds-w32-u : goal.bounds-w32-u
bounds-w32-u c = omega (arith, reads_in c.requires.visit)

pub bounds-w32-u-2 : goal.bounds-w32-u-2
bounds-w32-u-2 c = omega (arith, reads_in c.requires.visit)

pub bounds-w32-rows : goal.bounds-w32-rows
bounds-w32-rows c = pairs_in_rows (here (goal.at.bounds-w32-rows c).At-loop-p) c.requires.paired c.loop-p-test.true

pub overflow_add-pair : goal.overflow_add-pair
overflow_add-pair c =
    let at = here (goal.at.overflow_add-pair c).At-loop-p in
    omega (arith, pairs_row_in at c.requires.paired c.loop-p-test.true, at.tour.stays.long, c.well_formed, c.ranges)

pub offset_bounds-w32-paired : goal.offset_bounds-w32-paired
offset_bounds-w32-paired c =
    let at = here (goal.at.offset_bounds-w32-paired c).At-loop-p in
    omega (arith, pairs_row_in at c.requires.paired c.loop-p-test.true, at.tour.stays.long, c.well_formed, c.ranges)

pub bounds-w32-paired : goal.bounds-w32-paired
bounds-w32-paired c = pairs_row_in (here (goal.at.bounds-w32-paired c).At-loop-p) c.requires.paired c.loop-p-test.true

pub loop-p-init : goal.loop-p-init
loop-p-init c = λ directed es s T. pairs_none c.args.paired T

pub enter-requires : goal.enter-requires
enter-requires c = pairs_pre (here (goal.at.enter-requires c).At-loop-p) c.requires.paired c.loop-p-test.true

pub returns-in_err-step : goal.returns-in_err-step
returns-in_err-step c =
    let P = c.requires.paired in
    let l = c.loop-p-test.true in
    let p = err_from_is_err_and c.from_residual.result c.from_residual.ensures.1 in
    rw p.1
    (record {
      visit =
          record {
            stays = pairs_stays (here (goal.at.returns-in_err-step c).At-loop-p) P l _ _ c.enter.result c.enter.ensures;
            visited = λ directed es s T. pairs_paths (c.loop-p.invariant directed es s T) P l _ _ c.in_err-step.ensures;
          };
      held = λ directed es number s T. tt;
    })

pub overflow_add-place-in-loop-p : goal.overflow_add-place-in-loop-p
overflow_add-place-in-loop-p c =
    let at = here (goal.at.overflow_add-place-in-loop-p c).At-loop-p in
    omega (arith, c.grown-place.ensures, grown_most c.in_ok-step.step, pairs_in_rows at c.requires.paired c.loop-p-test.true, place_fits at.tour, at.tour.stays.long, c.well_formed, c.ranges)

pub loop-p-preserved : goal.loop-p-preserved
loop-p-preserved c = λ directed es s T. pairs_step (c.loop-p.invariant directed es s T) c.requires.paired c.loop-p-test.true _ _ c.in_ok-step.step c.in_ok-step.ensures _ c.grown-place.ensures

pub returns : goal.returns
returns c =
    let P = c.requires.paired in
    record {
      visit = record { stays = (here (goal.at.returns c).At-loop-p).tour.stays; visited = λ directed es s T. pairs_end (c.loop-p.invariant directed es s T) P c.loop-p-test.false };
      held = λ directed es number s R. pairs_done (c.loop-p.invariant directed es s R.tracked) P c.loop-p-test.false R;
    }
