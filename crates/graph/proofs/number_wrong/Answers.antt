-- `graph::number_wrong` meets its contract: some number is not finite. Assumes nothing.
use mathlib.Core.Path.{◌∙◌}
use mathlib.Core.Bool.{not}
use Rattle.std.proofs.Common.{rules, tests}
use lib.Ieee.Scale.{finite}
use Rattle.std.proofs.lemmas.Iterator.{YieldsList-from_slice}
use Rattle.std.proofs.lemmas.Iterator.Search.{any_from_yields_List}
use Rattle.graph.specs.Checks.{number_wrong}
use Rattle.graph.proofs.Checks.{odd_any}
use Rattle.graph.proofs.number_wrong.Goals as goal

pub returns : goal.returns
unfolding number_wrong
returns c =
    let xs = c.args.numbers.now in
    any_from_yields_List (λ x. not (finite x)) _ _ _ c.any.ensures.ran (YieldsList-from_slice xs cc) (λ x b q k. search (rules, tests)) ∙ odd_any 0 xs
