-- `betweenness::score_nodes` meets its contract: the workspace made ready, the starts, and the scores written. Assumes nothing.
use Rattle.std.proofs.Common.{refl}
use Rattle.betweenness.proofs.Ending.{starts_asks, all_scored}
use Rattle.betweenness.proofs.score_nodes.Goals as goal

pub add_starts-requires : goal.add_starts-requires
add_starts-requires c = starts_asks c.requires c.prepare.ensures

pub returns : goal.returns
returns c = all_scored c.requires c.prepare.ensures c.in_ok-add_starts.ensures c.args.normalized refl c.write_scores.ensures
