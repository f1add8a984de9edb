-- `starts::index_entries` meets its contract. Assumes nothing.
use Rattle.starts.proofs.Indexing.{indexed}
use Rattle.starts.proofs.index_entries.Goals as goal

pub returns : goal.returns
returns c = let e = c.tracks_of-first.ensures in rw e (indexed c.args.graph.directed c.requires (rw e at c.build_rows.ensures))
