-- `rows::count_entries` meets its contract: after i edges their entries are counted. Assumes nothing.
use Rattle.rows.proofs.Counting.{Counting}
use Rattle.rows.proofs.count_entries.Given as goal

abbrev pub invariant-loop-i : goal.invariant-loop-i
invariant-loop-i l = Counting l.graph.nodes l.directed l.from l.to l.initial.w l.i l.w
