-- `links::give` meets its contract: fours of its entries, then the rest. Assumes nothing.
use Rattle.std.proofs.Common.{arith}
use Rattle.links.proofs.Giving.{give_pre, give_part, given_then}
use Rattle.links.proofs.give.Goals as goal

pub give_fours-k-requires : goal.give_fours-k-requires
give_fours-k-requires c = give_pre c.requires.0 c.args.v c.requires.1

pub give_rest-requires : goal.give_rest-requires
give_rest-requires c = let fours = c.give_fours-k.ensures in
    give_part (give_pre c.requires.0 c.args.v c.requires.1) _ _ fours.0 fours.1 (omega arith) fours.2.front.long

pub returns : goal.returns
returns c = let fours = c.give_fours-k.ensures in
    given_then c.args.nodes c.args.contribution c.args.w.now fours.0 fours.1 fours.2 c.give_rest.ensures
