-- `search::search_from` meets its contract: the start alone in the queue is where the visits begin. Assumes nothing.
use Rattle.hops.proofs.Search.{begin_pre, begun_kept, kept_then, first}
use Rattle.search.proofs.search_from.Goals as goal

pub begin-requires : goal.begin-requires
begin-requires c = begin_pre c.requires.space

pub search_on-requires : goal.search_on-requires
search_on-requires c =
    record {
      directed = c.requires.directed;
      edges = c.requires.edges;
      start = c.args.start;
      search = first c.args.places.limit c.requires.space c.requires.fresh c.requires.some c.begin.ensures;
    }

pub returns : goal.returns
returns c =
    let begun = c.begin.ensures in
    let on = c.search_on.ensures in
    record {
      kept = kept_then (begun_kept c.requires.space begun) on.kept;
      ended = λ directed es H. on.ended directed es c.args.start (first c.args.places.limit H c.requires.fresh c.requires.some begun);
    }
