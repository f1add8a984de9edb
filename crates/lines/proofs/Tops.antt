-- Which of the six lines can be faulty.
-- Assumes nothing.
use mathlib.Core.Path.{◌≡◌}
use mathlib.Core.List.{List}
use Prim.Native.Nat.{ℕ, ◌<◌}
use native.Mathlib.Omega.{arith}
use Rattle.std.specs.Prelude.{Option, Some, None, Result, Err}
use Rattle.text.specs.Bytes.{bytes}
use Rattle.lines.specs.Lines.{kind_line, decimal_line, bits_line, at_most}
use Rattle.lines.specs.Top.{line_then, top_of}
use Rattle.lines.specs.declared.Most.{Most}
use Rattle.lines.specs.declared.FaultyLine.{FaultyLine}

then_below : {A B : Type 0} (line : Option (A × ℕ)) (k : ℕ) (go : A → ℕ → Result B FaultyLine) {fault : FaultyLine} → k < 6 → ((v : A) (next : ℕ) → go v next ≡ Err fault → fault.number < 6) → line_then line k go ≡ Err fault → fault.number < 6
then_below (Some x) k go h f e = f x.0 x.1 e
then_below None k go {fault} h f e =
    let same : k ≡ fault.number = cc in
    omega arith

pub fault_below : (most : Most) (s : List ℕ) (at : ℕ) {fault : FaultyLine} → top_of most s at ≡ Err fault → fault.number < 6
unfolding top_of
fault_below most s at e =
    then_below (kind_line s at) 0 _ (omega arith) (λ kind a.
    then_below (decimal_line (bytes "nodes=") s a) 1 _ (omega arith) (λ nodes b.
    then_below (at_most most.option (decimal_line (bytes "option=") s b)) 2 _ (omega arith) (λ option c.
    then_below (at_most most.rounds (decimal_line (bytes "rounds=") s c)) 3 _ (omega arith) (λ rounds d.
    then_below (at_most most.factor (bits_line (bytes "factor=") s d)) 4 _ (omega arith) (λ factor e.
    then_below (at_most most.tolerance (bits_line (bytes "tolerance=") s e)) 5 _ (omega arith) (λ tolerance f h. absurd (cc)))))))
    e
