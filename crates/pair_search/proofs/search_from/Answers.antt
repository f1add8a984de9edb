-- `pair_search::search_from` meets its contract: the start alone in the queue, with no pair, is where the visits begin. Assumes nothing.
use native.Mathlib.Omega.{arith}
use Rattle.hops.proofs.Search.{begin_pre}
use Rattle.predecessors.proofs.Tours.{stays_then, begun_stays, track_first}
use Rattle.pair_search.proofs.Runs.{begun_paired, first_pairs}
use Rattle.pair_search.proofs.search_from.Goals as goal

pub begin-requires : goal.begin-requires
begin-requires c = begin_pre c.requires.search.space

pub search_on-requires : goal.search_on-requires
search_on-requires c =
    let p = c.requires.search in
    let begun = c.begin.ensures in
    record {
      visit =
          record {
            directed = p.directed;
            edges = p.edges;
            start = c.args.start;
            tracked = track_first p.space p.slots p.fresh p.empty p.some begun;
          };
      paired = begun_paired p.space p.slots p.fresh p.empty p.some begun c.requires.paired;
    }

pub returns : goal.returns
returns c =
    let p = c.requires.search in
    let begun = c.begin.ensures in
    let r = c.search_on.ensures in
    record {
      search =
          record {
            stays = stays_then (omega (arith, p.slots.firsts)) (begun_stays p.space p.slots p.fresh p.empty p.some begun) r.on.stays;
            ended = λ directed es H S. r.on.ended directed es c.args.start (track_first H S p.fresh p.empty p.some begun);
          };
      held = λ directed es number H S N. r.held directed es number c.args.start (first_pairs H S p.fresh p.empty p.some begun c.requires.paired number N);
    }
