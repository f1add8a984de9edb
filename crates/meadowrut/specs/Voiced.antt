-- What `run` leaves, as C has it. Definitions only.
use Rattle.std.specs.Prelude.{List, [], ℕ}
use Rattle.graph.specs.Left.{Left, left}
use Rattle.job.specs.Run.{RunLeft}
use Rattle.boundary.specs.declared.Text.{Text}
use Rattle.boundary.specs.Boundary.{written}

-- what `run` leaves, the output being its result; it is lent no workspace
abbrev pub run_voiced : RunLeft → Left Text (List ℕ)
run_voiced o = left (written o.says) o.output [] [] []
