-- `reach::reach_from` meets its contract: the start alone, then the search. Assumes nothing.
use Rattle.regions.proofs.Frames.{frame2_then}
use Rattle.reach.proofs.Within.{opened_walk, opened_kept, opened_near}
use Rattle.reach.proofs.reach_from.Goals as goal

pub reach_within-requires : goal.reach_within-requires
reach_within-requires c =
    record {
      directed = c.requires.directed;
      edges = c.requires.edges;
      start = c.args.start;
      walk = opened_walk c.requires.ground c.requires.start;
      near = opened_near c.requires.ground c.requires.start c.args.bounded.limit;
    }

pub returns : goal.returns
returns c =
    let e = c.reach_within.ensures in
    record {
      kept = frame2_then (opened_kept c.requires.ground c.requires.start) e.kept;
      reached = λ directed es g. e.reached directed es c.args.start (opened_walk g c.requires.start) (opened_near g c.requires.start c.args.bounded.limit);
    }
