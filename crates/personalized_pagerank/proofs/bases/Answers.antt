-- `personalized_pagerank::bases` meets its contract: after j nodes their entries are begun. Assumes nothing.
use Rattle.std.proofs.Common.{◌+◌, ◌*◌, ap, ◌∙◌, arith}
use lib.Ieee.{Float, nan, binary64, of_bits, add, sub, mul}
use Rattle.regions.specs.Doubles.{one}
use Rattle.regions.specs.Region.{zero_f}
use Rattle.personalized_pagerank.specs.Personalized.{personal_in, personal_base}
use Rattle.links.proofs.Turns.{dividing_none, dividing_more, dividing_done}
use Rattle.personalized_pagerank.proofs.Personal.{personal_at_lem}
use Rattle.personalized_pagerank.proofs.bases.Goals as goal

pub loop-j-init : goal.loop-j-init
loop-j-init c = (dividing_none c.args.nodes c.args.nodes (personal_base c.args.damping (personal_in c.args.nodes c.args.wf.now)) c.args.wf.now (omega (arith, c.requires)))

pub loop-j-preserved : goal.loop-j-preserved
unfolding of_bits
loop-j-preserved c = let n = c.args.nodes in
    let l = c.loop-j-test.true in (
    dividing_more n n (personal_base c.args.damping (personal_in c.args.nodes c.args.wf.now)) c.args.wf.now (omega (arith, c.requires)) c.loop-j.j c.loop-j.wf l
    (ap (λ (z : Float). add binary64 zero_f (mul binary64 (sub binary64 one c.args.damping) z)) (c.loop-j.invariant.frame.rest nan (3 * n + c.loop-j.j) (λ p q. omega arith) ∙ personal_at_lem n c.args.wf.now c.loop-j.j l))
    c.loop-j.invariant
    )

pub returns : goal.returns
returns c = dividing_done c.args.nodes c.args.nodes (personal_base c.args.damping (personal_in c.args.nodes c.args.wf.now)) c.args.wf.now (omega (arith, c.requires)) c.loop-j.j c.loop-j.wf (omega arith) c.loop-j.invariant
