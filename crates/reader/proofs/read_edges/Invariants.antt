-- `reader::read_edges` meets its contract. Assumes nothing.
use Prim.Native.Nat.{◌-◌}
use Rattle.reader.proofs.Reading.{Going}
use Rattle.reader.proofs.read_edges.Given as goal

abbrev pub invariant-loop-k : goal.invariant-loop-k
invariant-loop-k l = Going l.s l.m l.start l.initial.from l.initial.to l.initial.bits l.from l.to l.bits l.at l.k (l.m - l.k)
