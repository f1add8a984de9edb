-- What a job text is: a head with its edges, or the number of its first faulty line.
-- Definitions only. Document 01, "The command program".
use Rattle.std.specs.Prelude.{ℕ, ◌+◌, ◌≡◌, List, [], Result, Ok, Err}
use Rattle.text.specs.Bytes.{bytes}
use Rattle.lines.specs.declared.Top.{Top}
use Rattle.lines.specs.declared.FaultyLine.{FaultyLine}
use Rattle.lines.specs.Lines.{measure_line, decimal_line}
use Rattle.lines.specs.Top.{line_then, top_of}
use Rattle.reader.specs.Rules.{most_of}
use Rattle.reader.specs.Edges.{Edges, edges_from, Stored}
use Rattle.reader.specs.declared.Head.{Head}

-- The first fault of lines 2 to 7 decides; else the reading goes on with what they say.
abbrev pub top_then : {A : Type 0} → Result (Top × ℕ) FaultyLine → (Top → ℕ → Result A FaultyLine) → Result A FaultyLine
top_then (Ok x) go = go x.0 x.1
top_then (Err fault) go = Err (record { number = fault.number + 2 })

-- The head: line 1 names the measure, lines 2 to 7 are the settings, line 8 is the number of edges. The first faulty line decides.
unfoldable pub head_of : List ℕ → Result (Head × ℕ) FaultyLine
head_of s =
    line_then (measure_line (bytes "measure=") s 0) 1 (λ measure a.
    top_then (top_of (most_of measure) s a) (λ top b.
    line_then (decimal_line (bytes "edges=") s b) 8 (λ edges c.
    Ok (record { measure = measure; top = top; edges = edges }, c))))

-- the edges that follow a head; after a faulty line none
abbrev pub edges_after : List ℕ → Result (Head × ℕ) FaultyLine → Edges
edges_after s (Ok x) = edges_from s x.0.edges 0 x.1
edges_after s (Err fault) = record { given = []; read = Err fault }

-- the edges of a text up to its first faulty line, and that line where one is faulty
unfoldable pub edges_of : List ℕ → Edges
edges_of s = edges_after s (head_of s)

-- what a head asks, if no line of it or of the edges is faulty
abbrev pub job_to : Result (Head × ℕ) FaultyLine → Result (Unit {0}) FaultyLine → Result Head FaultyLine
job_to (Ok x) (Ok u) = Ok x.0
job_to (Ok x) (Err fault) = Err fault
job_to (Err fault) read = Err fault

-- the job of a text, or its first faulty line
unfoldable pub job_of : List ℕ → Result Head FaultyLine
job_of s = job_to (head_of s) (edges_of s).read

-- What reading a text leaves: the job, and in the slices the edges before the first faulty line.
pub record Taken (s from₀ to₀ bits₀ : List ℕ) (job : Result Head FaultyLine) (from to bits : List ℕ) : Type 0 where
  pub job_is : job ≡ job_of s
  pub stored : Stored (edges_of s).given from₀ to₀ bits₀ from to bits
