-- `personalized_pagerank::advance` meets its contract: after i nodes both vectors are rewritten up to i, and the sum has i changes. Assumes nothing.
use Rattle.std.proofs.Common.{le_refl, arith, length-set}
use lib.Ieee.{of_bits}
use Rattle.rounds.proofs.Rounds.{after_none}
use Rattle.rounds.proofs.Passes.{rewritten_none, rewritten_more}
use Rattle.personalized_pagerank.proofs.Personal.{base_again, change_again, renewed}
use Rattle.personalized_pagerank.proofs.advance.Goals as goal

pub loop-i-init : goal.loop-i-init
unfolding of_bits
loop-i-init c = (rewritten_none _ _ _ _, after_none _ _)

pub bounds-wf-base : goal.bounds-wf-base
bounds-wf-base c = simp length-set (omega (arith, c.requires, c.loop-i.invariant.0.front.long, c.loop-i-test.true))

pub bounds-wf-nodes-in-loop-i : goal.bounds-wf-nodes-in-loop-i
bounds-wf-nodes-in-loop-i c = simp length-set (omega (arith, c.requires, c.loop-i.invariant.0.front.long, c.loop-i-test.true))

pub loop-i-preserved : goal.loop-i-preserved
unfolding of_bits
loop-i-preserved c =
    let l = c.loop-i-test.true in
    let r = c.loop-i.invariant.0 in
    let i = c.loop-i.i in (
      rewritten_more _ _ _ _ (omega (arith, c.requires)) l (r.next_left i (le_refl i) l) (base_again c.args.nodes c.args.damping c.args.wf.now i _ l r.front) r,
      change_again c.args.nodes c.args.damping c.args.wf.now i c.abs-change.ensures (r.current_left i (le_refl i) l) (r.next_left i (le_refl i) l) c.loop-i.invariant.1,
    )

pub returns : goal.returns
returns c =
    renewed c.args.nodes c.args.damping c.args.wf.now c.requires (omega arith) c.loop-i.invariant.0 c.loop-i.invariant.1
