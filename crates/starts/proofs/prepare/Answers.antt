-- `starts::prepare` meets its contract: one step after the other. Assumes nothing.
use lib.Ieee.{of_bits}
use Rattle.starts.proofs.Preparing.{lists_apart, prepared}
use Rattle.starts.proofs.prepare.Goals as goal

pub copy_within-requires : goal.copy_within-requires
copy_within-requires c =
    let e = c.tracks_of-tracks.ensures in
    rw e (lists_apart c.args.graph.directed c.requires c.build_rows.ensures (rw e at c.fill.ensures) c.index_entries.ensures)

pub returns : goal.returns
unfolding of_bits
returns c =
    let e = c.tracks_of-tracks.ensures in
    prepared c.args.graph.directed c.requires c.build_rows.ensures (rw e at c.fill.ensures) c.index_entries.ensures c.fill-2.ensures (rw e at c.copy_within.ensures) c.fill-3.ensures
