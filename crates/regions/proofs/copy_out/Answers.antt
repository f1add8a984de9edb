-- `regions::copy_out` meets its contract: after i turns the first i places of the region are written. Assumes nothing.
use mathlib.Core.Path.{◌≡◌, refl, sym, ap, ◌∙◌}
use mathlib.Core.List.{List, [], ◌∷◌, ◌++◌}
use native.Mathlib.Omega.{arith}
use lib.ListN.{set}
use Rattle.regions.specs.Region.{over, part}
use Rattle.regions.proofs.Fronts.{over_more}
use Rattle.regions.proofs.Parts.{part_long, part_more}
use Rattle.regions.proofs.copy_out.Goals as goal

pub loop-i-init : goal.loop-i-init
unfolding over part
loop-i-init g c = refl

pub loop-i-preserved : goal.loop-i-preserved
loop-i-preserved g c =
    let a = c.args in
    let i = c.loop-i.i in
    let v = c.index-w-base.result in
    let front = part a.w.now a.base i in
    ap (λ (x : List g.row.T.Denot). set x i v) c.loop-i.invariant
    ∙ over_more front a.out.now i v (part_long a.w.now a.base i (omega arith)) (omega arith)
    ∙ ap (λ (x : g.row.T.Denot). over (front ++ (x ∷ [])) a.out.now) c.index-w-base.is
    ∙ ap (λ (x : List g.row.T.Denot). over x a.out.now) (sym (part_more a.w.now a.base i v (omega arith)))
