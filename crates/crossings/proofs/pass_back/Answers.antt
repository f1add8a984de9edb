-- `crossings::pass_back` meets its contract: the entries from k on and their pairs have yet to take their shares. Assumes nothing.
use Rattle.std.proofs.Common.{sym, ◌∙◌, rules}
use Rattle.crossings.proofs.Passing.{cross_more, cross_all}
use Rattle.crossings.proofs.pass_back.Goals as goal

pub loop-k-preserved : goal.loop-k-preserved
loop-k-preserved c = (search rules, c.loop-k.invariant.1 ∙ cross_more _ _ _ _ _ _ _ _ c.loop-k.k _ c.requires.beside c.loop-k-test.true c.nearest_u64_to_f64.ensures)

pub returns : goal.returns
returns c = sym (c.loop-k.invariant.1 ∙ cross_all _ _ _ _ _ _ _ _ c.loop-k.k c.loop-k-test.false)
