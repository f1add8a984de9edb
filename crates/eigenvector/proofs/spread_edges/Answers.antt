-- `eigenvector::spread_edges` meets its contract: the edges turned round, which add what the edges do. Assumes nothing.
use borrow.Author.Rules.{rules}
use Rattle.eigenvector.proofs.Steps.{spreads_turned, turned}
use Rattle.eigenvector.proofs.spread_edges.Goals as goal

pub spread_edges-requires-clause-fits : goal.spread_edges-requires-clause-fits
spread_edges-requires-clause-fits c = spreads_turned c.requires

pub returns : goal.returns
returns c = turned _ _ _ _ _ (c.spread_edges.ensures (λ x. x) (λ x y h. search rules))
