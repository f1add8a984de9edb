-- `graph::graph_refusal` meets its contract: each return by the tests that led to it. Assumes nothing.
use mathlib.Core.Path.{sym, ◌∙◌}
use Rattle.std.proofs.Common.{arith}
use Rattle.std.proofs.lemmas.Bool.Decides.{nat_tests}
use Rattle.graph.specs.Refusals.{first_of, first_refusal}
use Rattle.answers.proofs.Said.{refused_by}
use Rattle.graph.proofs.Checks.{size_sized}
use Rattle.graph.proofs.graph_refusal.Goals as goal

pub returns-then-size_wrong : goal.returns-then-size_wrong
unfolding first_refusal first_of
returns-then-size_wrong c = rw (sym c.size_wrong.ensures ∙ c.if-size_wrong.true) (refused_by c.from.ensures)

pub returns-then-graph-eq0 : goal.returns-then-graph-eq0
unfolding first_refusal first_of
returns-then-graph-eq0 c = grind (arith, nat_tests)

pub node_wrong-requires : goal.node_wrong-requires
node_wrong-requires c = size_sized _ _ _ _ (sym c.size_wrong.ensures ∙ c.if-size_wrong.false)

pub returns-then-node_wrong : goal.returns-then-node_wrong
unfolding first_refusal first_of
returns-then-node_wrong c = grind (arith, nat_tests)

pub returns : goal.returns
unfolding first_refusal first_of
returns c = grind (arith, nat_tests)
