-- `katz::spread_edges` meets its contract: each weight is a factor with alpha. Assumes nothing.
use borrow.Author.Rules.{rules}
use lib.Ieee.{binary64, mul}
use Rattle.katz.proofs.spread_edges.Goals as goal

pub returns : goal.returns
returns c = c.spread_edges.ensures (mul binary64 c.args.alpha) (λ x y h. search rules)
