-- `edge_totals::multiply` meets its contract: the totals before this one are multiplied. Assumes nothing.
use Rattle.std.proofs.Common.{◌+◌, ◌-◌, drop, arith, length-take, length-drop}
use Rattle.edge_totals.proofs.Factors.{part_multiplied}
use Rattle.edge_totals.proofs.multiply.Goals as goal

pub returns : goal.returns
returns c = part_multiplied c.requires (omega arith) (omega (arith, length-take (c.args.base + c.args.len - c.args.base) (drop c.args.base c.args.wf.now), length-drop c.args.base c.args.wf.now)) (omega arith) c.loop-total.invariant
