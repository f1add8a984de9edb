-- `pagerank::with_dangling` meets its contract: only a node that dangles is read. Assumes nothing.
use Rattle.std.proofs.Common.{◌∙◌}
use lib.Ieee.{of_bits}
use Rattle.pagerank.proofs.Nodes.{dangling_at, dangling_yes, dangling_no}
use Rattle.pagerank.proofs.with_dangling.Goals as goal

pub returns-then-out : goal.returns-then-out
unfolding of_bits
returns-then-out c = dangling_yes _ _ _ c.if-out.true ∙ dangling_at c.args.nodes c.args.wf.now c.args.i c.args.sum c.requires.1

pub returns-else-out : goal.returns-else-out
unfolding of_bits
returns-else-out c = dangling_no _ _ _ c.if-out.false ∙ dangling_at c.args.nodes c.args.wf.now c.args.i c.args.sum c.requires.1
