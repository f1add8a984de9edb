-- `compared::is_other` meets its contract: the slots that are left decide it. Assumes nothing.
use Rattle.std.proofs.Common.{◌≡◌, drop}
use Rattle.compared.specs.Other.{is_other}
use Rattle.compared.proofs.is_other.Given as goal

abbrev pub invariant-loop-i : goal.invariant-loop-i
invariant-loop-i g l = let t = g.T.Slot in
    is_other t.read t.before l.slots l.first ≡ is_other t.read t.before (drop l.i l.slots) (drop l.i l.first)
