-- `crossings::accumulate` meets its contract: the nodes from place i of the queue have left. Assumes nothing.
use Rattle.std.proofs.Common.{◌≡◌, ℕ, ◌+◌, ◌-◌, drop, refl, ap, ◌∙◌, arith, rules}
use mathlib.Core.List.{foldr}
use Rattle.regions.specs.Region.{part}
use Rattle.brandes.specs.Steps.{held_predecessors}
use Rattle.brandes.proofs.Folds.{foldr_none, foldr_more}
use Rattle.crossings.specs.Crossings.{left_across, held_pairs}
use Rattle.crossings.proofs.accumulate.Goals as goal

pub loop-i-init : goal.loop-i-init
loop-i-init c = (refl, foldr_none _ _ _ _ _ _ refl c.requires.room)

pub loop-i-preserved : goal.loop-i-preserved
loop-i-preserved c =
    let s = c.args in
    let t = s.paired.tracks in
    let e : c.loop-i.i ≡ c.loop-i.i - 1 + 1 = omega arith in
    let f = left_across t.places.nodes s.paired.table.totals s.w64.now (held_predecessors t s.w32.now) (held_pairs s.paired s.w32.now) in (
      search rules,
      c.leave.ensures
          ∙ foldr_more f s.wf.now c.loop-i.wf s.w32.now t.places.queue s.found (c.loop-i.i - 1) (omega arith) c.requires.room
          (c.loop-i.invariant.1 ∙ ap (λ (k : ℕ). foldr f s.wf.now (drop k (part s.w32.now t.places.queue s.found))) e),
    )
