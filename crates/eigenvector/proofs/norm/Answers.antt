-- `eigenvector::norm` meets its contract: a fold that adds the squares. Assumes nothing.
use Rattle.std.proofs.Common.{◌≡◌, ℕ, rules, refl, ap, ◌∙◌, length, arith}
use Rattle.std.proofs.lemmas.Fn.{fold_over, fronts}
use Rattle.std.proofs.lemmas.Iterator.{YieldsList-from_slice}
use lib.ListN.{take, drop}
use lib.Ieee.{Float, nan, binary64, add, of_bits}
use Rattle.regions.specs.Region.{zero_f, part}
use Rattle.regions.proofs.Parts.{part_long}
use Rattle.roots.specs.Root.{sqrt_of}
use Rattle.rounds.specs.Rounds.{after}
use Rattle.rounds.specs.Vectors.{squared, next_in}
use Rattle.rounds.proofs.Rounds.{after_none, folded_more}
use Rattle.eigenvector.specs.Eigenvector.{with_square, norm_of}
use Rattle.eigenvector.proofs.norm.Goals as goal

-- the region is the next vector
pub returns : goal.returns
unfolding norm_of of_bits part
returns c =
    let n = c.args.nodes in
    let wf = c.args.wf.now in
    c.sqrt.ensures.0
    ∙ ap sqrt_of
    (fold_over fronts (λ y. y.now) _ (λ ys a. a ≡ after (with_square ys) (length ys) zero_f) _
    (λ ys a x b f' j k.
    let e : b ≡ add binary64 a (squared x.now) = search rules in
    (e ∙ ap (λ (z : Float). add binary64 z (squared x.now)) j ∙ folded_more (λ s y. add binary64 s (squared y)) nan ys x.now zero_f, refl))
    c.iter.result (next_in n wf) _ _
    (YieldsList-from_slice (next_in n wf) (c.iter.ensures.rest ∙ ap (λ (m : ℕ). take m (drop n wf)) (omega arith))).runs (after_none _ _) c.fold.ensures.ran
    ∙ ap (λ (k : ℕ). after (with_square (next_in n wf)) k zero_f) (part_long wf n n c.requires))
