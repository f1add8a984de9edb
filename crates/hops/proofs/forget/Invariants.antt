-- `hops::forget` meets its contract: after i turns the first i nodes of the queue are forgotten. Assumes nothing.
use Rattle.hops.specs.Search.{Forgotten}
use Rattle.hops.proofs.forget.Given as goal

abbrev pub invariant-loop-i : goal.invariant-loop-i
invariant-loop-i l = Forgotten l.i l.places.distances l.places.queue l.initial.w l.initial.counts l.w l.counts
