-- `katz::begin` meets its contract. Assumes nothing.
use mathlib.Core.Path.{refl}
use native.Mathlib.Omega.{arith}
use lib.ListN.{length-set}
use lib.Ieee.{of_bits}
use Rattle.rounds.proofs.Passes.{rewritten_none, rewritten_more, rewritten_done}
use Rattle.katz.proofs.begin.Goals as goal

pub loop-i-init : goal.loop-i-init
loop-i-init c = rewritten_none _ _ _ _

pub begins-requires : goal.begins-requires
begins-requires c = λ t. omega (arith, c.requires.long t)

pub bounds-wf-nodes : goal.bounds-wf-nodes
bounds-wf-nodes c = simp length-set (omega (arith, c.requires.room, c.loop-i.invariant.front.long))

pub loop-i-preserved : goal.loop-i-preserved
unfolding of_bits
loop-i-preserved c =
    rewritten_more _ _ _ _ c.requires.room c.loop-i-test.true refl c.begins.ensures c.loop-i.invariant

pub returns : goal.returns
returns c =
    rewritten_done _ _ _ _ c.requires.room (omega arith) c.loop-i.invariant
