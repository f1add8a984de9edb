-- The six lines `kind` to `tolerance`, each in its place. Which values a setting may have is for the caller to say.
-- Definitions only. Document 01, "The command program".
use Rattle.std.specs.Prelude.{ℕ, List, Option, Some, None, Result, Ok, Err}
use Rattle.text.specs.Bytes.{bytes}
use Rattle.lines.specs.Lines.{kind_line, decimal_line, bits_line, at_most}
use Rattle.lines.specs.declared.Most.{Most}
use Rattle.lines.specs.declared.Top.{Top}
use Rattle.lines.specs.declared.FaultyLine.{FaultyLine}

-- A faulty line decides, by its number; after any other the reading goes on.
abbrev pub line_then : {A B : Type 0} → Option (A × ℕ) → ℕ → (A → ℕ → Result B FaultyLine) → Result B FaultyLine
line_then (Some x) number go = go x.0 x.1
line_then None number go = Err (record { number = number })

-- The six lines from `at` on, in this order, numbered from 0; a setting above its `most` is a fault of its line.
unfoldable pub top_of : Most → List ℕ → ℕ → Result (Top × ℕ) FaultyLine
top_of most s at =
    line_then (kind_line s at) 0 (λ directed a.
    line_then (decimal_line (bytes "nodes=") s a) 1 (λ nodes b.
    line_then (at_most most.option (decimal_line (bytes "option=") s b)) 2 (λ option c.
    line_then (at_most most.rounds (decimal_line (bytes "rounds=") s c)) 3 (λ rounds d.
    line_then (at_most most.factor (bits_line (bytes "factor=") s d)) 4 (λ factor e.
    line_then (at_most most.tolerance (bits_line (bytes "tolerance=") s e)) 5 (λ tolerance f.
    Ok (record { directed = directed; nodes = nodes; option = option; rounds = rounds; factor = factor; tolerance = tolerance }, f)))))))
