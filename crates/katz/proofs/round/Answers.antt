-- `katz::round` meets its contract: the edges, then the change. Assumes nothing.
use native.Mathlib.Omega.{arith}
use Rattle.katz.proofs.Steps.{round_done}
use Rattle.katz.proofs.round.Goals as goal

pub spread_edges-requires : goal.spread_edges-requires
spread_edges-requires c = record { sound = c.requires.run.sound; room = c.requires.run.vectors.room }

pub advance-change-requires : goal.advance-change-requires
advance-change-requires c = record { room = omega (arith, c.requires.run.vectors.room, c.spread_edges.ensures.front.long); long = c.requires.run.vectors.long }

pub returns : goal.returns
returns c =
    let a = c.args in
    round_done a.graph.nodes a.graph.directed a.graph.from.now a.graph.to.now a.graph.weight.now a.settings.damping a.settings.tolerance c.requires.begun
    c.spread_edges.ensures c.advance-change.ensures.0 c.advance-change.ensures.1 c.sqrt.ensures.0
