-- `eigenvector::normalize` meets its contract: after i nodes both vectors are rewritten up to i, and the sum has i changes. Assumes nothing.
use Rattle.std.proofs.Common.{◌≡◌, sym, ap, ◌∙◌, le_refl, arith, length-set}
use lib.Ieee.{Float, binary64, of_bits, div}
use Rattle.regions.specs.Region.{zero_f}
use Rattle.rounds.specs.Rounds.{after}
use Rattle.rounds.specs.Vectors.{with_change, squared_change, current_in, next_in}
use Rattle.rounds.proofs.Rounds.{after_none}
use Rattle.rounds.proofs.Passes.{rewritten_none, rewritten_more, rewritten_done, change_more}
use Rattle.eigenvector.specs.Eigenvector.{scaled}
use Rattle.eigenvector.proofs.Steps.{scaled_entry}
use Rattle.eigenvector.proofs.normalize.Goals as goal

pub loop-i-init : goal.loop-i-init
unfolding of_bits
loop-i-init c = (rewritten_none _ _ _ _, after_none _ _)

pub bounds-wf-nodes-in-loop-i : goal.bounds-wf-nodes-in-loop-i
bounds-wf-nodes-in-loop-i c = simp length-set (omega (arith, c.requires, c.loop-i.invariant.0.front.long))

pub loop-i-preserved : goal.loop-i-preserved
loop-i-preserved c =
    let l = c.loop-i-test.true in
    let r = c.loop-i.invariant.0 in
    let i = c.loop-i.i in
    let x = current_in c.args.nodes c.args.wf.now in
    let y = next_in c.args.nodes c.args.wf.now in
    let e = ap (λ (v : Float). div binary64 v c.args.norm) (r.next_left i (le_refl i) l) in (
      rewritten_more _ _ _ _ c.requires l e e r,
      change_more x (scaled c.args.nodes c.args.norm y) i (e ∙ sym (scaled_entry c.args.nodes c.args.norm y i l)) (r.current_left i (le_refl i) l) c.loop-i.invariant.1,
    )

pub returns : goal.returns
unfolding squared_change scaled
returns c =
    let e : c.loop-i.i ≡ c.args.nodes = omega arith in
    let x = current_in c.args.nodes c.args.wf.now in
    let y = next_in c.args.nodes c.args.wf.now in (
      c.loop-i.invariant.1 ∙ ap (λ k. after (with_change x (scaled c.args.nodes c.args.norm y)) k zero_f) e,
      rewritten_done _ _ _ _ c.requires e c.loop-i.invariant.0,
    )
