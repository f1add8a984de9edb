-- `job::answer` meets its contract. Assumes nothing.
use mathlib.Core.Path.{sym, ◌∙◌}
use Rattle.scoring.proofs.Fronts.{stored_ends}
use Rattle.reader.specs.Edges.{from_of, to_of, bits_of}
use Rattle.reader.specs.Job.{edges_of}
use Rattle.reader.proofs.Jobs.{edges_asked}
use Rattle.job.proofs.Texts.{as_written, too_long, a_fault, a_job, same_answer}
use Rattle.job.proofs.answer.Goals as goal

pub returns-then-input-gt-INPUT : goal.returns-then-input-gt-INPUT
returns-then-input-gt-INPUT c = as_written (too_long _ c.if-input-gt-INPUT.true) c.put_refusal.ensures

pub returns-in-Err : goal.returns-in-Err
returns-in-Err c = as_written (a_fault _ c.if-input-gt-INPUT.false c.read_job.ensures.job_is c.in-Err.is) c.put_refusal-in-Err.ensures

pub returns-in-Ok : goal.returns-in-Ok
returns-in-Ok c =
    let read = c.read_job.ensures in
    let told = c.in-Ok.is in
    let edges = (edges_of c.args.input.now).given in
    let long = edges_asked c.args.input.now (sym read.job_is ∙ told) in
    as_written
    (
    a_job _ c.if-input-gt-INPUT.false read.job_is told
    ∙ same_answer _ (λ few. (sym (stored_ends from_of 0 edges _ long few read.stored.from_is), sym (stored_ends to_of 0 edges _ long few read.stored.to_is), sym (stored_ends bits_of 0 edges _ long few read.stored.bits_is)))
    )
    c.answer_job.ensures
