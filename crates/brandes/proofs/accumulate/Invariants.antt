-- `brandes::accumulate` meets its contract: the nodes from place i of the queue have left. Assumes nothing.
use Rattle.std.proofs.Common.{◌≡◌, drop}
use mathlib.Core.List.{foldr}
use Rattle.regions.specs.Region.{part}
use Rattle.brandes.specs.Steps.{held_predecessors, left_by}
use Rattle.brandes.proofs.accumulate.Given as goal

abbrev pub invariant-loop-i : goal.invariant-loop-i
invariant-loop-i l = l.wf ≡ foldr (left_by l.tracks.places.nodes l.w64 (held_predecessors l.tracks l.w32) l.start) l.initial.wf (drop l.i (part l.w32 l.tracks.places.queue l.found))
