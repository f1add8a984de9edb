-- `eigenvector::run` meets its contract: each round leaves what the next one asks. Assumes nothing.
use Rattle.std.proofs.Common.{sym, subst, arith}
use Rattle.graph.specs.Edges.{graph_from}
use Rattle.rounds.proofs.Runs.{reached_ready, ran}
use Rattle.eigenvector.specs.Eigenvector.{eigen_step}
use Rattle.eigenvector.specs.Steps.{RoundPre}
use Rattle.eigenvector.proofs.Steps.{first_pre, again_pre, run_done}
use Rattle.eigenvector.proofs.run.Goals as goal

pub fill-requires : goal.fill-requires
fill-requires c = omega (arith, c.requires.room)

pub run-requires : goal.run-requires
run-requires c = λ k x reached p e.
    let g = c.args.graph in
    let n = g.nodes in
    let fs = g.from.now in
    let ts = g.to.now in
    let xs = g.weight.now in
    let start = c.start_value-start.result in
    let i = reached_ready n (eigen_step (graph_from n g.directed fs ts xs) c.args.settings.tolerance) (RoundPre n fs ts xs start) (λ p q met i r. (r.0, again_pre i r))
    (first_pre n g.directed fs ts xs c.requires.sound c.args.settings c.requires.room c.start_value-start.ensures c.fill.ensures) reached in
    subst (RoundPre n fs ts xs start) (sym e) i

pub returns : goal.returns
returns c =
    let g = c.args.graph in
    let n = g.nodes in
    let fs = g.from.now in
    let ts = g.to.now in
    let xs = g.weight.now in
    let start = c.start_value-start.result in
    run_done n g.directed fs ts xs c.requires.sound c.args.settings c.requires.room c.start_value-start.ensures c.fill.ensures
    (ran n (eigen_step (graph_from n g.directed fs ts xs) c.args.settings.tolerance) (RoundPre n fs ts xs start) (λ p q met i r. (r.0, again_pre i r))
    (first_pre n g.directed fs ts xs c.requires.sound c.args.settings c.requires.room c.start_value-start.ensures c.fill.ensures) c.run.ensures)
