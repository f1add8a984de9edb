-- `lines::value_of` meets its contract. Assumes nothing.
use mathlib.Core.Path.{◌∙◌}
use native.Mathlib.Omega.{arith}
use lib.ListN.{length}
use Rattle.std.proofs.lemmas.Slice.{between_to_end}
use Rattle.lines.proofs.Values.{a_value}
use Rattle.lines.proofs.value_of.Goals as goal

pub returns : goal.returns
returns c =
    let s = c.args.s.now in
    let cases = c.in_ok-value.ensures.cases in
    a_value _ _ _ (c.in_ok-rest.ensures.lookup.0.2 ∙ between_to_end s c.args.at (length s) (omega arith)) c.in_ok-end.ensures cases.0 cases.1
