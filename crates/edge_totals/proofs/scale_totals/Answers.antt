-- `edge_totals::scale_totals` meets its contract, case by case. Assumes nothing.
use Rattle.std.proofs.Common.{Bool, ◌&&◌, ltb, ap, ◌∙◌, arith, le-ltb}
use Rattle.edge_totals.proofs.Factors.{scaled_by, not_scaled}
use Rattle.edge_totals.proofs.scale_totals.Goals as goal
use Rattle.edge_totals.proofs.scale_totals.Goals.{else-normalized-via-then-normalized+else-nodes-gt1, else-normalized-via-else-normalized}

pub returns-then-nodes-gt1 : goal.returns-then-nodes-gt1
returns-then-nodes-gt1 c =
    let s = c.args in
    scaled_by s.nodes s.directed s.normalized s.many c.if-normalized.true c.if-nodes-gt1.true c.pair_factor.ensures c.multiply.ensures

pub returns-else-normalized : goal.returns-else-normalized
returns-else-normalized c =
    let s = c.args in
    elim c.else-normalized.branch [
      | else-normalized-via-then-normalized+else-nodes-gt1 w ↦
          not_scaled s.nodes s.directed s.normalized s.many s.wf.now (ap (λ (b : Bool). b && ltb 1 s.nodes) w.if-normalized.true ∙ le-ltb 1 s.nodes (omega (arith, w.if-nodes-gt1.false)))
      | else-normalized-via-else-normalized w ↦ not_scaled s.nodes s.directed s.normalized s.many s.wf.now (ap (λ (b : Bool). b && ltb 1 s.nodes) w.if-normalized.false)
    ]
