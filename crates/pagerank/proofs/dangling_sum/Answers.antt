-- `pagerank::dangling_sum` meets its contract: nothing is added where no node dangles, else after i nodes the dangling ones among them are. Assumes nothing.
use Rattle.std.proofs.Common.{ℕ, ap, ◌∙◌, arith}
use lib.Ieee.{of_bits}
use Rattle.regions.specs.Region.{zero_f}
use Rattle.rounds.specs.Rounds.{after}
use Rattle.rounds.specs.Vectors.{current_in}
use Rattle.rounds.proofs.Rounds.{after_none, after_more}
use Rattle.links.specs.Links.{outs_in}
use Rattle.pagerank.specs.PageRank.{with_dangling, dangling_sum}
use Rattle.pagerank.proofs.Nodes.{none_sum}
use Rattle.pagerank.proofs.dangling_sum.Goals as goal

pub returns-then-none : goal.returns-then-none
unfolding of_bits
returns-then-none c =
    none_sum (outs_in c.args.nodes c.args.wf.now) (current_in c.args.nodes c.args.wf.now) c.args.nodes (c.requires.1.sure c.if-none.true)

pub loop-i-init : goal.loop-i-init
unfolding of_bits
loop-i-init c = after_none _ _

pub with_dangling-dangling-requires : goal.with_dangling-dangling-requires
with_dangling-dangling-requires c = (c.requires.0, c.loop-i-test.true)

pub loop-i-preserved : goal.loop-i-preserved
loop-i-preserved c = c.with_dangling-dangling.ensures ∙ after_more (with_dangling (outs_in c.args.nodes c.args.wf.now) (current_in c.args.nodes c.args.wf.now)) c.loop-i.i zero_f c.loop-i.dangling c.loop-i.invariant

pub returns : goal.returns
unfolding dangling_sum
returns c = c.loop-i.invariant ∙ ap (λ (k : ℕ). after (with_dangling (outs_in c.args.nodes c.args.wf.now) (current_in c.args.nodes c.args.wf.now)) k zero_f) (omega arith)
