-- `roots::abs` meets its contract: the mask clears the sign's bit. Assumes nothing.
use mathlib.Core.Path.{sym, subst}
use lib.Dec.{T}
use lib.Bits.{and_mask}
use lib.Ieee.{binary64, fits, to_bits}
use Rattle.roots.proofs.Doubles.{masked}
use Rattle.roots.proofs.Absolute.{nan_of, abs_nan, abs_of_lem, small_bits}
use Rattle.roots.proofs.abs.Goals as goal
use Rattle.roots.proofs.abs.Goals.{Start}

held : (c : goal.Start) → T (fits binary64 c.args.x)
held c = subst T (sym c.well_formed.0.1) tt

pub returns-then-is_nan : goal.returns-then-is_nan
returns-then-is_nan c = abs_nan c.args.x (nan_of c.args.x c.if-is_nan.ensures.value)

pub float_from_bits-result : goal.float_from_bits-result
float_from_bits-result c = let x = c.args.x in masked _ _ (small_bits x (held (goal.at.float_from_bits-result c).Start) c.if-is_nan.ensures.not_nan)

pub returns : goal.returns
returns c = let x = c.args.x in abs_of_lem x _ (held (goal.at.returns c).Start) c.if-is_nan.ensures.not_nan (and_mask (to_bits binary64 x) 63)
