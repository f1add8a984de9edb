-- How long the measures' names are.
-- Assumes nothing.
use Prim.Native.Nat.{◌≤◌}
use native.Mathlib.Omega.{arith}
use lib.ListN.{length}
use Rattle.lines.specs.declared.Measure.{Measure}
use Rattle.lines.specs.declared.Measure.TheVariants.{Betweenness, Pagerank, Personalized, Eigenvector, Katz, Reaching, Voterank, Laplacian, Degree}
use Rattle.lines.specs.Names.{name_of}

-- no name has more than 12 bytes
pub name_long : (measure : Measure) → length (name_of measure) ≤ 12
name_long Betweenness = omega arith
name_long Pagerank = omega arith
name_long Personalized = omega arith
name_long Eigenvector = omega arith
name_long Katz = omega arith
name_long Reaching = omega arith
name_long Voterank = omega arith
name_long Laplacian = omega arith
name_long Degree = omega arith
