-- `reaching::reach_all` meets its contract: after s starts their scores stand, and the workspace is ready for the next. Assumes nothing.
use Rattle.std.proofs.Common.{arith}
use Rattle.regions.proofs.Frames.{frame2_none}
use Rattle.hops.specs.Search.{graph_of}
use Rattle.reaching.proofs.Starting.{Scoring, scoring_none, from_pre, counted, kept_on, scoring_more}
use Rattle.reaching.proofs.reach_all.Goals as goal
use Rattle.reaching.proofs.reach_all.Goals.{At-loop-s}

-- where the starts stand, for the graph that the caller has
here : (c : goal.At-loop-s) → let b = c.args.bounded in Scoring (graph_of b.nodes c.requires.directed c.requires.edges) b.limit b.distances b.queue c.args.scores.now c.loop-s.w c.loop-s.scores c.loop-s.s
here c = let p = c.requires in c.loop-s.invariant.scored p.directed p.edges p.ground

pub loop-s-init : goal.loop-s-init
loop-s-init c = record { kept = frame2_none _ _ _ _ _; scored = λ directed es g. scoring_none _ g }

pub reach_from-reached-requires : goal.reach_from-reached-requires
reach_from-reached-requires c = from_pre _ _ (here (goal.at.reach_from-reached-requires c).At-loop-s) c.loop-s-test.true

pub overflow_sub-reached : goal.overflow_sub-reached
overflow_sub-reached c = omega (arith, counted _ _ (here (goal.at.overflow_sub-reached c).At-loop-s) c.loop-s-test.true c.reach_from-reached.ensures)

pub loop-s-preserved : goal.loop-s-preserved
loop-s-preserved c =
    let l = c.loop-s-test.true in
    let p = c.reach_from-reached.ensures in
    let u = c.undo.ensures in
    record {
      kept = kept_on _ _ (here (goal.at.loop-s-preserved c).At-loop-s) l p u c.loop-s.invariant.kept;
      scored = λ directed es g. scoring_more directed es (c.loop-s.invariant.scored directed es g) l p u _ c.requires.room c.share.ensures;
    }
