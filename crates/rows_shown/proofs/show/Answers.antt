-- `rows_shown::show` meets its contract: what was not refused has rows. Assumes nothing.
use Rattle.graph.specs.Refusals.{ends_tests}
use Rattle.graph.proofs.Checks.{or_left}
use Rattle.graph.proofs.Refusals.{passed, sound}
use Rattle.std.proofs.Common.{false, arith}
use Rattle.rows_shown.proofs.show.Goals as goal

pub build_rows-requires : goal.build_rows-requires
build_rows-requires g c =
    let s = c.args.graph in
    let p = passed (ends_tests s.nodes s.from.now s.to.now s.weight.now false false false) c.in-Ok.ensures in
    record { sound = sound s.nodes s.from.now s.to.now s.weight.now p.size (or_left _ false p.node); room = omega arith }
