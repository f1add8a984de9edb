-- `records::is_read` meets its contract. Assumes nothing.
use Rattle.std.proofs.Common.{◌≡◌, ◌++◌, nat_eq, length, drop, arith, length-append, length-drop, length-take-le}
use Rattle.records.proofs.Records.{room, no_room, rest_kept}
use Rattle.records.proofs.is_read.Goals as goal

pub returns-then-line-n : goal.returns-then-line-n
returns-then-line-n g c = record { room = tt; rest = no_room _ _ c.if-line-n.true }

pub returns : goal.returns
returns g c =
    let s = c.args in
    let fits = c.if-line-n.false in
    let bytes = c.read_full.new.line in
    let same : length (bytes ++ drop s.n s.line.now) ≡ length s.line.now =
    omega (arith, length-append bytes (drop s.n s.line.now), length-drop s.n s.line.now, c.read_full.ensures.same_length, length-take-le s.n s.line.now fits)
    in
    record {
      room = room (nat_eq c.read_full.result s.n) s.n s.line.now fits;
      rest = rest_kept s.n s.line.now bytes fits same;
    }
