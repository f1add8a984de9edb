-- `katz::run` meets its contract: each round leaves what the next one asks. Assumes nothing.
use mathlib.Core.Path.{sym, subst}
use Rattle.graph.specs.Edges.{graph_from}
use Rattle.rounds.proofs.Runs.{reached_ready, ran}
use Rattle.katz.specs.Katz.{beta_of, katz_step}
use Rattle.katz.specs.Steps.{RoundPre}
use Rattle.katz.proofs.Steps.{first_pre, again_pre, run_done}
use Rattle.katz.proofs.run.Goals as goal

pub begin-requires : goal.begin-requires
begin-requires c = c.requires.vectors

pub run-requires : goal.run-requires
run-requires c = λ k x reached p e.
    let a = c.args in
    let g = a.graph in
    let n = g.nodes in
    let fs = g.from.now in
    let ts = g.to.now in
    let xs = g.weight.now in
    let i = reached_ready n (katz_step (graph_from n g.directed fs ts xs) a.settings.damping a.settings.tolerance (beta_of a.given a.beta.now n)) (RoundPre n fs ts xs a.given a.beta.now) (λ p q met i r. (r.0, again_pre i r))
    (first_pre c.requires c.begin.ensures) reached in
    subst (RoundPre n fs ts xs a.given a.beta.now) (sym e) i

pub returns : goal.returns
returns c =
    let a = c.args in
    let g = a.graph in
    let n = g.nodes in
    let fs = g.from.now in
    let ts = g.to.now in
    let xs = g.weight.now in
    run_done n g.directed fs ts xs a.settings a.given a.beta.now c.begin.ensures
    (ran n (katz_step (graph_from n g.directed fs ts xs) a.settings.damping a.settings.tolerance (beta_of a.given a.beta.now n)) (RoundPre n fs ts xs a.given a.beta.now) (λ p q met i r. (r.0, again_pre i r))
    (first_pre c.requires c.begin.ensures) c.run.ensures)
