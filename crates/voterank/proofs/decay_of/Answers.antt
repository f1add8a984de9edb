-- `voterank::decay_of` meets its contract. Assumes nothing.
use Rattle.std.proofs.Common.{◌≡◌, ℕ, pos, length, ap}
use lib.Ieee.{binary64, of_bits, of_int}
use Rattle.voterank.specs.VoteRank.{total_degree, decay_of}
use Rattle.voterank.proofs.decay_of.Goals as goal
use Rattle.voterank.proofs.decay_of.Goals.{then-graph, else-graph}

pub returns : goal.returns
unfolding decay_of of_bits
returns c =
    let g = c.args.graph in
    let total : c.if-graph.total ≡ total_degree g.directed (length g.from.now) =
    elim c.if-graph.branch [
      | then-graph w ↦ rw w.if-graph.true w.total-is
      | else-graph w ↦ rw w.if-graph.false w.total-is
    ] in
    cc (ap (λ (k : ℕ). of_int binary64 (pos k)) total)
