-- `roots::long_root` meets its contract. The loop's invariant: as many digits of the root as turns were taken are in q. Assumes nothing.
use Prim.Native.Nat.{◌≤◌}
use Rattle.roots.proofs.Digits.{Taken}
use Rattle.roots.proofs.long_root.Given as goal

abbrev pub invariant-loop : goal.invariant-loop
invariant-loop l = (l.counter ≤ 54) × Taken l.a l.counter l.q l.rest l.left
