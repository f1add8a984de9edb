-- `predecessors::enter` meets its contract. Assumes nothing.
use Rattle.std.proofs.lemmas.Result.{err_from_is_err_and}
use Rattle.predecessors.proofs.Entering.{entered_yes, entered_no, entered_err}
use Rattle.predecessors.proofs.enter.Goals as goal

pub returns-in_err-step : goal.returns-in_err-step
returns-in_err-step c = let p = err_from_is_err_and c.from_residual.result c.from_residual.ensures.1 in rw p.1 (entered_err _ p.0 c.in_err-step.ensures)

pub returns-then-enters : goal.returns-then-enters
returns-then-enters c = entered_yes _ c.in_ok-step.step c.in_ok-step.ensures c.enters.ensures c.if-enters.true c.push.ensures

pub returns-else-enters : goal.returns-else-enters
returns-else-enters c = entered_no _ c.in_ok-step.step c.in_ok-step.ensures c.enters.ensures c.if-enters.false
