-- `rounds::reads_wrong` meets its contract. Assumes nothing.
use Rattle.std.proofs.Common.{arith}
use Rattle.std.proofs.lemmas.Bool.Decides.{nat_tests}
use Rattle.rounds.specs.Tests.{reads_wrong}
use Rattle.rounds.proofs.reads_wrong.Goals as goal

pub returns-then-not-is_finite-2 : goal.returns-then-not-is_finite-2
unfolding reads_wrong
returns-then-not-is_finite-2 c = grind (arith, nat_tests)

pub returns-then-given : goal.returns-then-given
unfolding reads_wrong
returns-then-given c = grind (arith, nat_tests)

pub returns-else-given : goal.returns-else-given
unfolding reads_wrong
returns-else-given c = grind (arith, nat_tests)
