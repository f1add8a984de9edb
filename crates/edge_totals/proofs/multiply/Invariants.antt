-- `edge_totals::multiply` meets its contract: the totals before this one are multiplied. Assumes nothing.
use Rattle.edge_totals.proofs.Factors.{Times}
use Rattle.edge_totals.proofs.multiply.Given as goal

abbrev pub invariant-loop-total : goal.invariant-loop-total
invariant-loop-total l = Times l.initial.total-items l.factor l.total-index l.total-items
