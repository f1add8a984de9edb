-- `graph::size_wrong` meets its contract. Assumes nothing.
use Rattle.std.proofs.Common.{arith}
use Rattle.std.proofs.lemmas.Bool.Decides.{nat_tests}
use Rattle.graph.specs.Checks.{size_wrong}
use Rattle.graph.proofs.size_wrong.Goals as goal

pub returns-then-graph-edges : goal.returns-then-graph-edges
unfolding size_wrong
returns-then-graph-edges c = grind (arith, nat_tests)

pub returns-else-graph-edges : goal.returns-else-graph-edges
unfolding size_wrong
returns-else-graph-edges c = grind (arith, nat_tests)
