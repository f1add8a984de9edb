-- `reader::read_edges` meets its contract. Assumes nothing.
use mathlib.Core.Path.{sym, ap, ◌∙◌}
use Prim.Native.Nat.{ℕ}
use native.Mathlib.Omega.{arith}
use lib.ListN.{set}
use Rattle.reader.proofs.Reading.{step}
use Rattle.reader.proofs.read_edges.Goals as goal

pub loop-k-preserved : goal.loop-k-preserved
loop-k-preserved c =
    step _ _ _ _ _ _ (omega arith) (sym c.in-Some.ensures)
    (c.store.ensures ∙ ap (λ (x : ℕ). set c.loop-k.from c.loop-k.k x) c.narrowed.ensures)
    (c.store-in-loop-k.ensures ∙ ap (λ (x : ℕ). set c.loop-k.to c.loop-k.k x) c.narrowed-in-loop-k.ensures)
    c.store-in-loop-k-2.ensures
    c.loop-k.invariant
