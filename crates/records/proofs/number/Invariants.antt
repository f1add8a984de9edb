-- `records::number` meets its contract: the digits that are left, after those read, give the number. Assumes nothing.
use Rattle.std.proofs.Common.{◌≡◌, drop}
use Rattle.records.specs.Records.{number_from, number_in}
use Rattle.records.proofs.number.Given as goal

abbrev pub invariant-loop-b : goal.invariant-loop-b
invariant-loop-b l = number_in l.digits ≡ number_from l.n (drop l.b-index l.digits)
