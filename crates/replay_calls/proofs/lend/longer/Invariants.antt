-- `replay_calls::lend::longer` meets its contract: the limits that are left decide it. Assumes nothing.
use Rattle.std.proofs.Common.{◌≡◌, drop}
use Rattle.replay_calls.specs.Record.{longer_from, is_longer}
use Rattle.replay_calls.proofs.lend.longer.Given as goal

abbrev pub invariant-loop-i : goal.invariant-loop-i
invariant-loop-i l = is_longer l.words l.place l.most ≡ longer_from l.words l.place l.i (drop l.i l.most)
