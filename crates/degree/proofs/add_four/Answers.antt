-- `degree::add_four` meets its contract: both ends of four edges add one, in the edges' order. Assumes nothing.
use Rattle.degree.proofs.Pairs.{from_four}
use Rattle.degree.proofs.add_four.Goals as goal

pub returns : goal.returns
returns c =
    from_four c.args.from.now c.args.to.now c.args.i c.args.scores.now _ _ _ _ _ _ _ _ _ _ _ _ c.requires.0.some c.requires.1.some
    c.end_at-first_from.ensures
    c.end_at-second_from.ensures
    c.end_at-third_from.ensures
    c.end_at-fourth_from.ensures
    c.end_at-first_to.ensures
    c.end_at-second_to.ensures
    c.end_at-third_to.ensures
    c.end_at-fourth_to.ensures
    c.add_edge.ensures
    c.add_edge-2.ensures
    c.add_edge-3.ensures
    c.add_edge-4.ensures
