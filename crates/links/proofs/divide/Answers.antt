-- `links::divide` meets its contract: after i nodes their entries stand at base. Assumes nothing.
use Rattle.std.proofs.Common.{ap, arith}
use lib.Ieee.{Float, binary64, div}
use Rattle.links.proofs.Turns.{dividing_none, dividing_more, dividing_done}
use Rattle.links.proofs.divide.Goals as goal

pub loop-i-init : goal.loop-i-init
loop-i-init c = dividing_none _ _ _ _ c.requires.room

pub loop-i-preserved : goal.loop-i-preserved
loop-i-preserved c = dividing_more _ _ _ _ c.requires.room _ _ c.loop-i-test.true (ap (λ (z : Float). div binary64 z c.args.divisor) c.numerator.ensures) c.loop-i.invariant

pub returns : goal.returns
returns c = dividing_done _ _ _ _ c.requires.room c.loop-i.i _ (omega arith) c.loop-i.invariant
