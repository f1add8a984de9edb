-- `rounds::spread` meets its contract: each return by the tests that led to it. Assumes nothing.
use Rattle.rounds.proofs.Vectors.{spread_directed, spread_loop, spread_both}
use Rattle.rounds.proofs.spread.Goals as goal
use Rattle.rounds.proofs.spread.Goals.{else-not-directed-via-then-not-directed+else-row-col, else-not-directed-via-else-not-directed}

pub returns-then-row-col : goal.returns-then-row-col
returns-then-row-col c = let a = c.args in spread_both a.nodes a.directed a.factor a.row a.col a.wf.now c.requires c.if-not-directed.true c.if-row-col.true

pub returns-else-not-directed : goal.returns-else-not-directed
returns-else-not-directed c =
    let a = c.args in
    elim c.else-not-directed.branch [
      | else-not-directed-via-then-not-directed+else-row-col w ↦ spread_loop a.nodes a.directed a.factor a.row a.col a.wf.now c.requires w.if-not-directed.true w.if-row-col.false
      | else-not-directed-via-else-not-directed w ↦ spread_directed a.nodes a.directed a.factor a.row a.col a.wf.now c.requires w.if-not-directed.false
    ]
