-- `pagerank::advance` meets its contract: after i nodes their entries are moved, and their changes added. Assumes nothing.
use Rattle.std.proofs.Common.{arith}
use lib.Ieee.{of_bits}
use Rattle.pagerank.proofs.Nodes.{advancing_none, advancing_more, advancing_done}
use Rattle.pagerank.proofs.advance.Goals as goal

pub loop-i-init : goal.loop-i-init
unfolding of_bits
loop-i-init c = advancing_none _ _ c.requires

pub loop-i-preserved : goal.loop-i-preserved
loop-i-preserved c = advancing_more _ _ c.requires _ _ _ c.loop-i-test.true c.loop-i.invariant c.abs-change.ensures

pub returns : goal.returns
returns c = advancing_done _ _ c.requires c.loop-i.i _ _ (omega arith) c.loop-i.invariant
