-- `graph::work_wrong` meets its contract. Assumes nothing.
use Rattle.std.proofs.Common.{arith}
use Rattle.std.proofs.lemmas.Bool.Decides.{nat_tests}
use Rattle.graph.specs.Checks.{work_wrong}
use Rattle.graph.proofs.work_wrong.Goals as goal

pub returns-then-lengths-front-2 : goal.returns-then-lengths-front-2
unfolding work_wrong
returns-then-lengths-front-2 c = grind (arith, nat_tests)

pub returns-else-lengths-front-2 : goal.returns-else-lengths-front-2
unfolding work_wrong
returns-else-lengths-front-2 c = grind (arith, nat_tests)
