-- `katz::advance` meets its contract: after i nodes both vectors are rewritten up to i, and the sum has i changes. Assumes nothing.
use mathlib.Core.Path.{◌≡◌, refl, ap, ◌∙◌}
use native.Mathlib.Nat.{le_refl}
use native.Mathlib.Omega.{arith}
use lib.ListN.{length-set}
use lib.Ieee.{of_bits}
use Rattle.regions.specs.Region.{zero_f}
use Rattle.rounds.specs.Rounds.{after}
use Rattle.rounds.specs.Vectors.{with_change, squared_change, current_in, next_in}
use Rattle.rounds.proofs.Rounds.{after_none}
use Rattle.rounds.proofs.Vectors.{next_list, vectors_are}
use Rattle.rounds.proofs.Passes.{rewritten_none, rewritten_more, rewritten_done, change_more}
use Rattle.katz.proofs.advance.Goals as goal

pub loop-i-init : goal.loop-i-init
unfolding of_bits
loop-i-init c = (rewritten_none _ _ _ _, after_none _ _)

pub begins-requires : goal.begins-requires
begins-requires c = λ t. omega (arith, c.requires.long t)

pub bounds-wf-nodes-in-loop-i : goal.bounds-wf-nodes-in-loop-i
bounds-wf-nodes-in-loop-i c = simp length-set (omega (arith, c.requires.room, c.loop-i.invariant.0.front.long))

pub loop-i-preserved : goal.loop-i-preserved
loop-i-preserved c =
    let l = c.loop-i-test.true in
    let r = c.loop-i.invariant.0 in
    let i = c.loop-i.i in (
      rewritten_more _ _ _ _ c.requires.room l (r.next_left i (le_refl i) l) c.begins.ensures r,
      change_more (current_in c.args.nodes c.args.wf.now) (next_in c.args.nodes c.args.wf.now) i (r.next_left i (le_refl i) l) (r.current_left i (le_refl i) l) c.loop-i.invariant.1,
    )

pub returns : goal.returns
unfolding squared_change
returns c =
    let e : c.loop-i.i ≡ c.args.nodes = omega arith in (
      c.loop-i.invariant.1 ∙ ap (λ k. after (with_change (current_in c.args.nodes c.args.wf.now) (next_in c.args.nodes c.args.wf.now)) k zero_f) e,
      vectors_are (next_list c.args.nodes c.args.wf.now c.requires.room) refl (rewritten_done _ _ _ _ c.requires.room e c.loop-i.invariant.0),
    )
