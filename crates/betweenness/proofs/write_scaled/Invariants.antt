-- `betweenness::write_scaled` meets its contract: after v nodes their scores are written. Assumes nothing.
use Rattle.std.proofs.Common.{◌≡◌, get_or}
use lib.Ieee.{nan, binary64, mul}
use Rattle.regions.specs.Region.{over, list_of}
use Rattle.betweenness.proofs.write_scaled.Given as goal

abbrev pub invariant-loop-v : goal.invariant-loop-v
invariant-loop-v l = l.scores ≡ over (list_of (λ i. mul binary64 (get_or l.wf i nan) l.factor) l.v) l.initial.scores
