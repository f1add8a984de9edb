-- `survey::search` meets its contract: the regions are cleared, and the search goes over the rows. Assumes nothing.
use Rattle.survey.proofs.Searching.{surveyed}
use Rattle.survey.proofs.search.Goals as goal

pub returns : goal.returns
returns c = let e = c.of-places.ensures in surveyed c.requires (rw e at c.fill.ensures) c.fill-2.ensures (rw e at c.search_from.ensures)
