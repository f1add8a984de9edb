-- `score::answer` meets its contract: what `run` says it wrote lies within the output. Assumes nothing.
use Rattle.std.proofs.Common.{◌≤◌, length, sym, arith, length-take-le}
use Rattle.job.proofs.Suffices.{written_within}
use Rattle.score.proofs.answer.Goals as goal

pub slice_bounds-output-end : goal.slice_bounds-output-end
slice_bounds-output-end g c =
    let within = written_within _ _ c.in-Ok.is c.run.ensures in
    omega (arith, within, c.run.auto)

pub slice_bounds-write_all-end : goal.slice_bounds-write_all-end
slice_bounds-write_all-end g c =
    let within = written_within _ _ c.in-Ok.is c.run.ensures in
    let inside : c.in-Ok.n ≤ length c.run.new.output = omega (arith, within, c.run.auto) in
    sym (length-take-le c.in-Ok.n c.run.new.output inside)
