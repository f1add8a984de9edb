-- `predecessors::search_from` meets its contract: the start alone in the queue is where the visits begin. Assumes nothing.
use native.Mathlib.Omega.{arith}
use Rattle.hops.proofs.Search.{begin_pre}
use Rattle.predecessors.proofs.Tours.{stays_then, begun_stays, track_first}
use Rattle.predecessors.proofs.search_from.Goals as goal

pub begin-requires : goal.begin-requires
begin-requires c = begin_pre c.requires.space

pub search_on-requires : goal.search_on-requires
search_on-requires c =
    record {
      directed = c.requires.directed;
      edges = c.requires.edges;
      start = c.args.start;
      tracked = track_first c.requires.space c.requires.slots c.requires.fresh c.requires.empty c.requires.some c.begin.ensures;
    }

pub returns : goal.returns
returns c =
    let begun = c.begin.ensures in
    let on = c.search_on.ensures in
    record {
      stays = stays_then (omega (arith, c.requires.slots.firsts)) (begun_stays c.requires.space c.requires.slots c.requires.fresh c.requires.empty c.requires.some begun) on.stays;
      ended = λ directed es H S. on.ended directed es c.args.start (track_first H S c.requires.fresh c.requires.empty c.requires.some begun);
    }
