-- The used front of a workspace: how many numbers of each of its three slices a call uses (document 01). Definitions only.
use Rattle.std.specs.Prelude.{ℕ, ◌+◌, ◌*◌}
use Rattle.graph.specs.declared.Fronts.{Fronts}

-- 8n+8m+8 numbers of 32 bits, 2n of 64 bits and 6n+4m f64, for n nodes and m edges
abbrev pub usual_fronts : ℕ → ℕ → Fronts
usual_fronts n m = record { narrow = 8 * n + 8 * m + 8; wide = 2 * n; floats = 6 * n + 4 * m }

-- of a call that takes no workspace
abbrev pub no_fronts : Fronts
no_fronts = record { narrow = 0; wide = 0; floats = 0 }
