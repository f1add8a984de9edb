-- `pagerank::run` meets its contract: each round finds the links of the first. Assumes nothing.
use Rattle.std.proofs.Common.{refl, sym, subst}
use Rattle.links.specs.Links.{links_in}
use Rattle.rounds.proofs.Runs.{reached_ready, ran}
use Rattle.pagerank.specs.PageRank.{pagerank_step}
use Rattle.pagerank.proofs.Nodes.{Ready, ready_kept}
use Rattle.pagerank.proofs.run.Goals as goal

pub none_dangles-none-requires : goal.none_dangles-none-requires
none_dangles-none-requires c = c.requires.room

pub run-requires : goal.run-requires
run-requires c = λ k x reached p e.
    let n = c.args.nodes in
    let w = c.args.w.now in
    let wf = c.args.wf.now in
    let s = c.args.settings in
    let none = c.none_dangles-none.result in
    let i = reached_ready n (pagerank_step (links_in n w wf) s.damping s.tolerance) (Ready n none w wf) (λ p q met i r. ready_kept n none w wf s.damping s.tolerance i r)
    (record { pre = c.requires; dangles_none = c.none_dangles-none.ensures; links_same = refl }) reached in
    let j : Ready n none w wf p.now = subst (Ready n none w wf) (sym e) i in (j.pre, j.dangles_none)

pub returns : goal.returns
returns c =
    let n = c.args.nodes in
    let w = c.args.w.now in
    let wf = c.args.wf.now in
    let s = c.args.settings in
    let none = c.none_dangles-none.result in
    ran n (pagerank_step (links_in n w wf) s.damping s.tolerance) (Ready n none w wf) (λ p q met i r. ready_kept n none w wf s.damping s.tolerance i r)
    (record { pre = c.requires; dangles_none = c.none_dangles-none.ensures; links_same = refl }) c.run.ensures
