-- `edge_totals::write_edges` meets its contract: what each step asks, and the results directed and undirected. Assumes nothing.
use Rattle.edge_totals.proofs.Results.{cursors_ask, forward_asks, written_directed, back_asks, written_both}
use Rattle.edge_totals.proofs.write_edges.Goals as goal

pub copy_within-requires : goal.copy_within-requires
copy_within-requires c = cursors_ask c.requires c.of-table.ensures

pub write_forward-requires : goal.write_forward-requires
write_forward-requires c = forward_asks c.requires c.of-table.ensures c.scale_totals.ensures c.copy_within.ensures

pub write_back-requires : goal.write_back-requires
write_back-requires c = back_asks c.requires c.of-table.ensures c.scale_totals.ensures c.copy_within.ensures c.write_forward.ensures c.if-not-graph.true

pub returns-then-not-graph : goal.returns-then-not-graph
returns-then-not-graph c = written_both c.requires c.of-table.ensures c.scale_totals.ensures c.copy_within.ensures c.write_forward.ensures c.if-not-graph.true c.write_back.ensures

pub returns-else-not-graph : goal.returns-else-not-graph
returns-else-not-graph c = written_directed c.requires c.of-table.ensures c.scale_totals.ensures c.copy_within.ensures c.write_forward.ensures c.if-not-graph.false
