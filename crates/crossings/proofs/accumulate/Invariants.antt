-- `crossings::accumulate` meets its contract: the nodes from place i of the queue have left. Assumes nothing.
use Rattle.std.proofs.Common.{◌≡◌, length, drop}
use mathlib.Core.List.{foldr}
use Rattle.regions.specs.Region.{part}
use Rattle.brandes.specs.Steps.{held_predecessors}
use Rattle.crossings.specs.Crossings.{left_across, held_pairs}
use Rattle.crossings.proofs.accumulate.Given as goal

abbrev pub invariant-loop-i : goal.invariant-loop-i
invariant-loop-i l = (length l.wf ≡ length l.initial.wf)
    × (l.wf ≡ foldr (left_across l.paired.tracks.places.nodes l.paired.table.totals l.w64 (held_predecessors l.paired.tracks l.w32) (held_pairs l.paired l.w32)) l.initial.wf (drop l.i (part l.w32 l.paired.tracks.places.queue l.fn.found)))
