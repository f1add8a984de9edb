-- `predecessors::visit` meets its contract: at each entry the search is as `Tour` says. Assumes nothing.
use Prim.Native.Nat.{◌+◌}
use native.Mathlib.Omega.{arith}
use lib.ListN.{get_or}
use Rattle.std.proofs.lemmas.Result.{err_from_is_err_and}
use Rattle.hops.specs.Search.{graph_of}
use Rattle.hops.proofs.Scans.{grown_most}
use Rattle.predecessors.proofs.Tours.{Tour, reads_in, tour_none, in_rows, tour_pre, tour_stays, tour_step, tour_paths, place_fits, tour_done}
use Rattle.predecessors.proofs.visit.Goals as goal
use Rattle.predecessors.proofs.visit.Goals.{At-loop-p}

-- where the walk stands, for the graph that the caller has
here : (c : goal.At-loop-p) → Tour (graph_of c.args.tracks.places.nodes c.requires.directed c.requires.edges) c.args.tracks c.requires.start c.args.head c.args.w32.now c.args.w64.now (get_or c.args.w32.now (c.args.tracks.places.queue + c.args.head) 0) (get_or c.args.w32.now (c.args.tracks.places.distances + get_or c.args.w32.now (c.args.tracks.places.queue + c.args.head) 0) 0 + 1) (get_or c.args.w64.now (get_or c.args.w32.now (c.args.tracks.places.queue + c.args.head) 0) 0) c.loop-p.w32 c.loop-p.w64 c.loop-p.p c.loop-p.place
here c = c.loop-p.invariant c.requires.directed c.requires.edges c.requires.start c.requires.tracked

pub overflow_add-node : goal.overflow_add-node
overflow_add-node c = omega (arith, reads_in c.requires)

pub offset_bounds-w32-queue : goal.offset_bounds-w32-queue
offset_bounds-w32-queue c = omega (arith, reads_in c.requires)

pub bounds-w32-queue : goal.bounds-w32-queue
bounds-w32-queue c = omega (arith, reads_in c.requires)

pub bounds-w32-distances : goal.bounds-w32-distances
bounds-w32-distances c = omega (arith, reads_in c.requires)

pub overflow_add-further-2 : goal.overflow_add-further-2
overflow_add-further-2 c = omega (arith, reads_in c.requires)

pub bounds-w64-u : goal.bounds-w64-u
bounds-w64-u c = omega (arith, reads_in c.requires)

pub bounds-w32-u : goal.bounds-w32-u
bounds-w32-u c = omega (arith, reads_in c.requires)

pub bounds-w32-u-2 : goal.bounds-w32-u-2
bounds-w32-u-2 c = omega (arith, reads_in c.requires)

pub overflow_add-place : goal.overflow_add-place
overflow_add-place c = omega (arith, reads_in c.requires)

pub loop-p-init : goal.loop-p-init
loop-p-init c = λ directed es s T. tour_none T

pub bounds-w32-p : goal.bounds-w32-p
bounds-w32-p c = omega (arith, in_rows (here (goal.at.bounds-w32-p c).At-loop-p) c.loop-p-test.true)

pub enter-requires : goal.enter-requires
enter-requires c = tour_pre (here (goal.at.enter-requires c).At-loop-p) c.loop-p-test.true

pub returns-in_err-step : goal.returns-in_err-step
returns-in_err-step c =
    let l = c.loop-p-test.true in
    let p = err_from_is_err_and c.from_residual.result c.from_residual.ensures.1 in
    rw p.1
    (record {
      stays = tour_stays (here (goal.at.returns-in_err-step c).At-loop-p) l _ _ c.enter.result c.enter.ensures;
      visited = λ directed es s T. tour_paths (c.loop-p.invariant directed es s T) l _ _ c.in_err-step.field-0.0 c.in_err-step.ensures;
    })

pub overflow_add-place-in-loop-p : goal.overflow_add-place-in-loop-p
overflow_add-place-in-loop-p c =
    let at = here (goal.at.overflow_add-place-in-loop-p c).At-loop-p in
    omega (arith, c.grown-place.ensures, grown_most c.in_ok-step.step, in_rows at c.loop-p-test.true, place_fits at, at.stays.long, c.well_formed, c.ranges)

pub loop-p-preserved : goal.loop-p-preserved
loop-p-preserved c =
    let l = c.loop-p-test.true in
    λ directed es s T. tour_step (c.loop-p.invariant directed es s T) l _ _ c.in_ok-step.step c.in_ok-step.ensures _ c.grown-place.ensures

pub returns : goal.returns
returns c =
    record { stays = (here (goal.at.returns c).At-loop-p).stays; visited = λ directed es s T. tour_done (c.loop-p.invariant directed es s T) (omega (arith, c.loop-p.auto)) }
