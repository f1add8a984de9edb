-- `pagerank::none_dangles` meets its contract: every out-weight of the region is tested. Assumes nothing.
use Rattle.std.proofs.Common.{ℕ, ◌*◌, rules, refl, ap, ◌∙◌, arith}
use Rattle.std.proofs.lemmas.Iterator.{YieldsList-from_slice}
use Rattle.std.proofs.lemmas.Iterator.Search.{all_from_yields_List}
use lib.ListN.{take, drop}
use lib.Ieee.{ne, binary64, of_bits}
use Rattle.regions.specs.Region.{part}
use Rattle.pagerank.proofs.Nodes.{all_dangle_not}
use Rattle.pagerank.proofs.none_dangles.Goals as goal

pub returns : goal.returns
unfolding part
returns c =
    all_dangle_not c.args.nodes c.args.wf.now _ c.requires
    (c.iter.ensures.rest ∙ ap (λ (m : ℕ). take m (drop (2 * c.args.nodes) c.args.wf.now)) (omega arith))
    (all_from_yields_List (λ x. ne x (of_bits binary64 0)) _ _ _ c.all.ensures.ran (YieldsList-from_slice _ refl) (λ x b q k. search rules))
