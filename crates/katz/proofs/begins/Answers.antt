-- `katz::begins` meets its contract. Assumes nothing.
use native.Mathlib.Omega.{arith}
use Rattle.katz.proofs.begins.Goals as goal

pub offset_bounds-beta-i : goal.offset_bounds-beta-i
offset_bounds-beta-i c = omega (arith, c.requires c.if-given.true)

pub bounds-beta-i : goal.bounds-beta-i
bounds-beta-i c = c.requires c.if-given.true

pub returns-then-given : goal.returns-then-given
returns-then-given c = rw c.if-given.true
