-- `lists::build_lists` meets its contract: what each walk leaves is what the next one needs. Assumes nothing.
use Rattle.lists.proofs.Building.{count_pre, sum_pre, place_pre, built}
use Rattle.lists.proofs.build_lists.Goals as goal

pub count_entries-requires : goal.count_entries-requires
count_entries-requires c = count_pre _ c.args.graph.directed _ _ _ _ c.requires _ c.wipe.ensures

pub sum_counts-requires : goal.sum_counts-requires
sum_counts-requires c = sum_pre _ c.args.graph.directed _ _ _ _ c.requires _ c.wipe.ensures _ c.count_entries.ensures

pub place_entries-requires : goal.place_entries-requires
place_entries-requires c = place_pre _ _ _ _ _ _ c.requires _ c.wipe.ensures _ c.count_entries.ensures _ c.sum_counts.ensures

pub returns : goal.returns
returns c = built _ _ _ _ _ _ c.requires _ c.wipe.ensures _ c.count_entries.ensures _ c.sum_counts.ensures _ c.place_entries.ensures
