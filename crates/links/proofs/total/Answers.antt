-- `links::total` meets its contract: a fold that adds the entries. Assumes nothing.
use Rattle.std.proofs.Common.{◌≡◌, rules, refl, ap, ◌∙◌, length}
use Rattle.std.proofs.lemmas.Fn.{fold_over, fronts}
use Rattle.std.proofs.lemmas.Iterator.{YieldsList-from_slice}
use lib.Ieee.{Float, nan, binary64, add, of_bits}
use Rattle.regions.specs.Region.{zero_f}
use Rattle.rounds.specs.Rounds.{after}
use Rattle.rounds.proofs.Rounds.{after_none, folded_more}
use Rattle.links.specs.Links.{with_entry, sum_of}
use Rattle.links.proofs.total.Goals as goal

pub returns : goal.returns
unfolding of_bits sum_of
returns c =
    fold_over fronts (λ y. y.now) _ (λ ys a. a ≡ after (with_entry ys) (length ys) zero_f) _
    (λ ys a x b f' j k.
    let e : b ≡ add binary64 a x.now = search rules in
    (e ∙ ap (λ (z : Float). add binary64 z x.now) j ∙ folded_more (add binary64) nan ys x.now zero_f, refl))
    c.iter.result c.args.vector.now _ _ (YieldsList-from_slice c.args.vector.now c.iter.ensures.rest).runs (after_none _ _) c.fold.ensures.ran
