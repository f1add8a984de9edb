-- `links::prepare` meets its contract: what the lists leave is what the definition reads. Assumes nothing.
use Rattle.links.proofs.Ending.{build_pre, out_pre, copy_pre, prepared}
use Rattle.links.proofs.prepare.Goals as goal

pub build_lists-requires : goal.build_lists-requires
build_lists-requires c = build_pre _ c.args.graph.directed _ _ _ _ _ c.requires

pub out_weights-requires : goal.out_weights-requires
out_weights-requires c = rw c.requires.sound.sized.weights (out_pre _ c.args.graph.directed _ _ _ _ _ c.requires _ c.build_lists.ensures)

pub copy_weights-requires : goal.copy_weights-requires
copy_weights-requires c = copy_pre _ c.args.graph.directed _ _ _ _ _ c.requires _ c.build_lists.ensures _ (rw c.requires.sound.sized.weights at c.out_weights.ensures)

pub returns : goal.returns
returns c = prepared _ _ _ _ _ _ _ c.requires _ c.build_lists.ensures _ (rw c.requires.sound.sized.weights at c.out_weights.ensures) _ c.copy_weights.ensures
