-- `search::visit` meets its contract: at each entry the search is as `Scan` says. Assumes nothing.
use mathlib.Core.Path.{◌≡◌}
use Prim.Native.Nat.{◌+◌}
use native.Mathlib.Omega.{arith}
use lib.ListN.{get_or}
use borrow.Author.Rules.{rules}
use Rattle.std.specs.Prelude.{Err}
use Rattle.hops.specs.Search.{graph_of}
use Rattle.hops.proofs.Scans.{Scan, begun, grown_most, in_rows, scan_pre, scan_kept, scan_step, scan_paths, place_fits, scan_done}
use Rattle.search.proofs.visit.Goals as goal
use Rattle.search.proofs.visit.Goals.{At-loop-p}

-- where the walk stands, for the graph that the caller has
here : (c : goal.At-loop-p) → Scan (graph_of c.args.places.nodes c.requires.directed c.requires.edges) c.args.places.limit c.requires.start c.args.places.distances c.args.places.queue c.args.head c.args.w.now c.args.counts.now (get_or c.args.w.now (c.args.places.queue + c.args.head) 0) (get_or c.args.w.now (c.args.places.distances + get_or c.args.w.now (c.args.places.queue + c.args.head) 0) 0 + 1) (get_or c.args.counts.now (get_or c.args.w.now (c.args.places.queue + c.args.head) 0) 0) c.loop-p.w c.loop-p.counts c.loop-p.p c.loop-p.place
here c = c.loop-p.invariant c.requires.directed c.requires.edges c.requires.start c.requires.search

pub overflow_add-u : goal.overflow_add-u
overflow_add-u c = omega (arith, begun c.requires)

pub offset_bounds-w-places : goal.offset_bounds-w-places
offset_bounds-w-places c = omega (arith, begun c.requires)

pub bounds-w-places : goal.bounds-w-places
bounds-w-places c = omega (arith, begun c.requires)

pub bounds-w-places-2 : goal.bounds-w-places-2
bounds-w-places-2 c = omega (arith, begun c.requires)

pub overflow_add-further-2 : goal.overflow_add-further-2
overflow_add-further-2 c = omega (arith, begun c.requires)

pub bounds-counts-u : goal.bounds-counts-u
bounds-counts-u c = omega (arith, begun c.requires)

pub bounds-w-u : goal.bounds-w-u
bounds-w-u c = omega (arith, begun c.requires)

pub bounds-w-u-2 : goal.bounds-w-u-2
bounds-w-u-2 c = omega (arith, begun c.requires)

pub overflow_add-place : goal.overflow_add-place
overflow_add-place c = omega (arith, begun c.requires)

pub bounds-w-p : goal.bounds-w-p
bounds-w-p c = let at = here (goal.at.bounds-w-p c).At-loop-p in omega (arith, in_rows at (omega arith))

pub touch-requires : goal.touch-requires
touch-requires c = scan_pre (here (goal.at.touch-requires c).At-loop-p) (omega arith)

pub returns-in_err-step : goal.returns-in_err-step
returns-in_err-step c =
    let at = here (goal.at.returns-in_err-step c).At-loop-p in
    let r : c.from_residual.result ≡ Err c.in_err-step.field-0.0 = search rules in
    rw r
    record {
      kept = scan_kept at (omega arith) _ _ (Err c.in_err-step.field-0.0) c.in_err-step.ensures;
      visited = λ directed es s S. scan_paths (c.loop-p.invariant directed es s S) (omega arith) _ _ c.in_err-step.ensures;
    }

pub overflow_add-place-in-loop-p : goal.overflow_add-place-in-loop-p
overflow_add-place-in-loop-p c =
    let at = here (goal.at.overflow_add-place-in-loop-p c).At-loop-p in
    omega (arith, c.grown-place.ensures, grown_most c.in_ok-step.step, place_fits at, in_rows at (omega arith))

pub loop-p-preserved : goal.loop-p-preserved
loop-p-preserved c = λ directed es s S. scan_step (c.loop-p.invariant directed es s S) (omega arith) _ _ c.in_ok-step.step c.in_ok-step.ensures _ c.grown-place.ensures

pub overflow_sub-result : goal.overflow_sub-result
overflow_sub-result c = omega (arith, (here (goal.at.overflow_sub-result c).At-loop-p).free)

pub returns : goal.returns
returns c =
    record { kept = (here (goal.at.returns c).At-loop-p).kept; visited = λ directed es s S. scan_done (c.loop-p.invariant directed es s S) (omega arith) }
