-- `reply::put_score` meets its contract. Assumes nothing.
use native.Mathlib.Omega.{arith}
use Rattle.text.proofs.Stores.{and_then}
use Rattle.reply.proofs.put_score.Goals as goal

pub returns : goal.returns
returns c =
    let bits = rw c.bits_of.ensures at c.put_bits-d.ensures.0 in (
      and_then (and_then (and_then (and_then c.put-a.ensures c.put_decimal-b.ensures.0) c.put-c.ensures) bits) c.put.ensures,
      omega (arith, c.put-a.ensures.next_is, c.put_decimal-b.ensures.1, c.put-c.ensures.next_is, c.put_bits-d.ensures.1, c.put.ensures.next_is),
    )
