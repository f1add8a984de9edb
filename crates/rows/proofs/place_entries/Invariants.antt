-- `rows::place_entries` meets its contract: after i edges their entries stand at the ends of their rows. Assumes nothing.
use Prim.Native.Nat.{◌*◌}
use lib.ListN.{length}
use Rattle.rows.proofs.Placing.{Placing}
use Rattle.rows.proofs.place_entries.Given as goal

abbrev pub invariant-loop-i : goal.invariant-loop-i
invariant-loop-i l = Placing l.nodes l.skip l.own l.other (length l.own) (2 * length l.own) l.initial.w l.i l.w
