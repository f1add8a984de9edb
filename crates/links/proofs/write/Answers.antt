-- `links::write` meets its contract. Assumes nothing.
use Rattle.links.proofs.Ending.{wrote}
use Rattle.links.proofs.write.Goals as goal

pub wipe-requires : goal.wipe-requires
wipe-requires c = rw c.usual_fronts-front.ensures c.requires.1.roomy

pub returns : goal.returns
returns c = wrote _ _ _ _ _ _ _ c.copy_out.ensures (rw c.usual_fronts-front.ensures at c.wipe.ensures)
