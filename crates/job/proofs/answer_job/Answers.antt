-- `job::answer_job` meets its contract. Assumes nothing.
use Rattle.job.proofs.Texts.{as_written, too_many_nodes, too_many_edges, of_measure}
use Rattle.job.proofs.answer_job.Goals as goal
use Rattle.job.proofs.answer_job.Goals.{then-top-via-then-top, then-top-via-else-top+then-head}

pub returns-then-top : goal.returns-then-top
returns-then-top c =
    elim c.then-top.branch [
      | then-top-via-then-top w ↦ as_written (too_many_nodes _ _ _ _ w.if-top.true) c.put_refusal.ensures
      | then-top-via-else-top+then-head w ↦ as_written (too_many_edges _ _ _ _ w.if-top.false w.if-head.true) c.put_refusal.ensures
    ]

pub returns : goal.returns
returns c = as_written (of_measure _ _ _ _ c.if-top.false c.if-head.false) c.score_job.ensures
