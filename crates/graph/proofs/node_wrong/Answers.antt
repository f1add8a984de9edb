-- `graph::node_wrong` meets its contract: with the highest ends below n every end is a node; else the first fault is sought. Assumes nothing.
use mathlib.Core.Path.{sym, ◌∙◌}
use Prim.Native.Nat.{◌<◌}
use native.Mathlib.Omega.{arith}
use borrow.Author.Tests.{ltb-true}
use lib.ListN.{length}
use Rattle.graph.specs.Checks.{node_wrong}
use Rattle.graph.proofs.Checks.{fault_some, inside_node}
use Rattle.graph.proofs.node_wrong.Goals as goal
use Rattle.graph.proofs.node_wrong.Goals.{then-highest-nodes, else-highest-nodes}

pub returns-then-not-inside : goal.returns-then-not-inside
unfolding node_wrong
returns-then-not-inside c = rw (c.is_some.ensures, c.first_fault.ensures) (fault_some _)

pub returns-else-not-inside : goal.returns-else-not-inside
returns-else-not-inside c =
    elim c.if-highest-nodes.branch [
      | then-highest-nodes w ↦ rw c.if-not-inside.false
          (sym (inside_node _ _ _ _ c.requires
          (record {
            froms = λ i l. omega (arith, c.highest.ensures.at i l, w.if-highest-nodes.true);
            tos = λ i l.
                let q : i < length c.args.graph.to.now = omega (arith, c.requires.tos) in
                omega (arith, w.highest-then-highest-nodes.ensures.at i q, ltb-true _ _ (sym w.inside-is ∙ c.if-not-inside.false));
          })))
      | else-highest-nodes w ↦ absurd (omega (arith, w.if-highest-nodes.false, ltb-true _ _ (sym w.inside-is ∙ c.if-not-inside.false)))
    ]
