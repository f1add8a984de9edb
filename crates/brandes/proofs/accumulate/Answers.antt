-- `brandes::accumulate` meets its contract: the nodes from place i of the queue have left. Assumes nothing.
use Rattle.std.proofs.Common.{◌≡◌, ℕ, ◌+◌, ◌-◌, drop, refl, ap, ◌∙◌, arith}
use mathlib.Core.List.{foldr}
use Rattle.regions.specs.Region.{part}
use Rattle.brandes.specs.Steps.{held_predecessors, left_by}
use Rattle.brandes.proofs.Folds.{foldr_none, foldr_more}
use Rattle.brandes.proofs.accumulate.Goals as goal

pub loop-i-init : goal.loop-i-init
loop-i-init c = foldr_none _ _ _ _ _ _ refl c.requires.room

pub loop-i-preserved : goal.loop-i-preserved
loop-i-preserved c =
    let t = c.args.tracks in
    let e : c.loop-i.i ≡ c.loop-i.i - 1 + 1 = omega arith in
    let f = left_by t.places.nodes c.args.w64.now (held_predecessors t c.args.w32.now) c.args.start in
    c.leave.ensures
    ∙ foldr_more f c.args.wf.now c.loop-i.wf c.args.w32.now t.places.queue c.args.found (c.loop-i.i - 1) (omega arith) c.requires.room
    (c.loop-i.invariant ∙ ap (λ (k : ℕ). foldr f c.args.wf.now (drop k (part c.args.w32.now t.places.queue c.args.found))) e)
