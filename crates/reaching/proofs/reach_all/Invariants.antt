-- `reaching::reach_all` meets its contract: after s starts their scores stand, and the workspace is ready for the next. Assumes nothing.
use Rattle.std.proofs.Common.{Bool, List}
use Rattle.regions.specs.Region.{Frame2}
use Rattle.graph.specs.Edges.{Edge}
use Rattle.hops.specs.Search.{graph_of}
use Rattle.reach.specs.Search.{Ground}
use Rattle.reaching.proofs.Starting.{Scoring}
use Rattle.reaching.proofs.reach_all.Given as goal

abbrev pub invariant-loop-s : goal.invariant-loop-s
invariant-loop-s l =
    let b = l.bounded in
    record {
      kept : Frame2 l.initial.w b.distances b.nodes b.queue b.nodes l.w;
      scored : (directed : Bool) (es : List Edge) → Ground (graph_of b.nodes directed es) l.initial.w b.distances b.queue → Scoring (graph_of b.nodes directed es) b.limit b.distances b.queue l.initial.scores l.w l.scores l.s;
    }
