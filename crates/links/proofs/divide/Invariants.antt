-- `links::divide` meets its contract: after i nodes their entries stand at base. Assumes nothing.
use Rattle.links.specs.Links.{divided_at}
use Rattle.links.proofs.Turns.{Dividing}
use Rattle.links.proofs.divide.Given as goal

abbrev pub invariant-loop-i : goal.invariant-loop-i
invariant-loop-i l = Dividing l.nodes l.base (divided_at l.counts l.vector l.divisor) l.initial.wf l.i l.wf
