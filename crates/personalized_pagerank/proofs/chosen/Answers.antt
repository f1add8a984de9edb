-- `personalized_pagerank::chosen` meets its contract. Assumes nothing.
use Rattle.personalized_pagerank.proofs.chosen.Goals as goal

pub returns-then-counts : goal.returns-then-counts
returns-then-counts c = rw c.if-counts.true

pub returns-else-counts : goal.returns-else-counts
returns-else-counts c = rw c.if-counts.false c.nearest_u64_to_f64.ensures
