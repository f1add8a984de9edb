-- `edge_betweenness::score_edges` meets its contract: the workspace made ready, the starts, and the results written. Assumes nothing.
use Rattle.edge_betweenness.proofs.EdgesEnding.{starts_asks, write_asks, all_scored}
use Rattle.edge_betweenness.proofs.score_edges.Goals as goal

pub cross_starts-requires : goal.cross_starts-requires
cross_starts-requires c = starts_asks c.requires c.prepare_pairs.ensures

pub write_edges-requires : goal.write_edges-requires
write_edges-requires c = write_asks c.requires c.prepare_pairs.ensures c.in_ok-cross_starts.ensures

pub returns : goal.returns
returns c = all_scored c.requires c.prepare_pairs.ensures c.in_ok-cross_starts.ensures c.write_edges.ensures
