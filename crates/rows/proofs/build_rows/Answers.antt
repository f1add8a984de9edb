-- `rows::build_rows` meets its contract: what each walk leaves is what the next one needs. Assumes nothing.
use mathlib.Core.Bool.{true}
use Prim.Native.Nat.{◌*◌}
use lib.ListN.{length}
use Rattle.rows.specs.Walks.{back, Placed}
use Rattle.rows.proofs.Building.{count_pre, sum_pre, place_pre, walked, unwalked, place_pre_2, built}
use Rattle.rows.proofs.build_rows.Goals as goal
use Rattle.rows.proofs.build_rows.Goals.{then-not-directed, else-not-directed, Joined-not-directed}

pub count_entries-requires : goal.count_entries-requires
count_entries-requires c =
    count_pre _ c.args.graph.directed _ _ _ _ c.requires _ c.wipe.ensures

pub sum_counts-requires : goal.sum_counts-requires
sum_counts-requires c =
    sum_pre _ c.args.graph.directed _ _ _ _ c.requires _ c.wipe.ensures _ c.count_entries.ensures

pub place_entries-requires : goal.place_entries-requires
place_entries-requires c =
    place_pre _ c.args.graph.directed _ _ _ _ c.requires _ c.wipe.ensures _ c.count_entries.ensures _ c.sum_counts.ensures c.if-not-directed.true

-- what the walk over the to-ends leaves, of a directed graph too, where there is none
back_placed : (c : goal.Joined-not-directed) → let g = c.args.graph in Placed g.nodes true g.to.now g.from.now (back g.directed (length g.from.now)) (2 * length g.from.now) c.sum_counts.new.w c.if-not-directed.w
back_placed c =
    elim c.if-not-directed.branch [
      | then-not-directed w ↦ rw w.w-is (walked _ _ _ _ _ _ c.requires _ c.wipe.ensures _ c.count_entries.ensures _ c.sum_counts.ensures w.if-not-directed.true w.place_entries.ensures)
      | else-not-directed w ↦ rw w.w-is (unwalked _ _ _ _ _ _ c.requires _ c.wipe.ensures _ c.count_entries.ensures _ c.sum_counts.ensures w.if-not-directed.false)
    ]

pub place_entries-requires-2 : goal.place_entries-requires-2
place_entries-requires-2 c =
    place_pre_2 _ c.args.graph.directed _ _ _ _ c.requires _ c.wipe.ensures _ c.count_entries.ensures _ c.sum_counts.ensures _ (back_placed (goal.at.place_entries-requires-2 c).Joined-not-directed)

pub returns : goal.returns
returns c =
    built _ _ _ _ _ _ c.requires _ c.wipe.ensures _ c.count_entries.ensures _ c.sum_counts.ensures _ (back_placed (goal.at.returns c).Joined-not-directed) _ c.place_entries-2.ensures
