-- `reader::weights_of` meets its contract. Assumes nothing.
use mathlib.Core.Path.{◌≡◌}
use mathlib.Core.List.{map}
use lib.ListN.{drop}
use lib.Seq.{sets}
use lib.Ieee.{binary64, of_bits}
use Rattle.reader.proofs.weights_of.Given as goal

abbrev pub invariant-loop-k : goal.invariant-loop-k
invariant-loop-k l = sets l.weights l.k (map (of_bits binary64) (drop l.k l.bits)) ≡ sets l.initial.weights 0 (map (of_bits binary64) l.bits)
