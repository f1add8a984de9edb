-- `reply::put_head` meets its contract. Assumes nothing.
use native.Mathlib.Omega.{arith}
use Rattle.text.proofs.Stores.{and_then}
use Rattle.reply.proofs.put_head.Goals as goal

pub returns : goal.returns
returns c =
    let m = c.put_measure-a.ensures in
    let a = c.put_number-b.ensures in
    let n = c.put_number-c.ensures in
    let r = c.put_number-d.ensures in
    let l = c.put_settled_line.ensures in
    (and_then (and_then (and_then (and_then m.0 a.0) n.0) r.0) l.0, omega (arith, m.1, a.1, n.1, r.1, l.1))
