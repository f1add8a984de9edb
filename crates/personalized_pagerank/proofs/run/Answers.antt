-- `personalized_pagerank::run` meets its contract: each round finds the links and the personalization of the first. Assumes nothing.
use Rattle.std.proofs.Common.{refl, sym, subst}
use Rattle.links.specs.Links.{links_in}
use Rattle.rounds.proofs.Runs.{reached_ready, ran}
use Rattle.personalized_pagerank.specs.Personalized.{personal_in, personal_step}
use Rattle.personalized_pagerank.proofs.Personal.{Asked, asked_kept}
use Rattle.personalized_pagerank.proofs.run.Goals as goal

pub run-requires : goal.run-requires
run-requires c = λ k x reached p e.
    let n = c.args.nodes in
    let w = c.args.w.now in
    let wf = c.args.wf.now in
    let s = c.args.settings in
    let i = reached_ready n (personal_step (links_in n w wf) s.damping s.tolerance (personal_in n wf)) (Asked n w s.damping wf) (λ p q met i r. asked_kept n w s.damping s.tolerance wf i r)
    (record { pre = c.requires; links_same = refl; personal_same = refl }) reached in
    let j : Asked n w s.damping wf p.now = subst (Asked n w s.damping wf) (sym e) i in j.pre

pub returns : goal.returns
returns c =
    let n = c.args.nodes in
    let w = c.args.w.now in
    let wf = c.args.wf.now in
    let s = c.args.settings in
    ran n (personal_step (links_in n w wf) s.damping s.tolerance (personal_in n wf)) (Asked n w s.damping wf) (λ p q met i r. asked_kept n w s.damping s.tolerance wf i r)
    (record { pre = c.requires; links_same = refl; personal_same = refl }) c.run.ensures
