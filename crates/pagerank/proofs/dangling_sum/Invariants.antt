-- `pagerank::dangling_sum` meets its contract: nothing is added where no node dangles, else after i nodes the dangling ones among them are. Assumes nothing.
use Rattle.std.proofs.Common.{◌≡◌}
use Rattle.regions.specs.Region.{zero_f}
use Rattle.rounds.specs.Rounds.{after}
use Rattle.rounds.specs.Vectors.{current_in}
use Rattle.links.specs.Links.{outs_in}
use Rattle.pagerank.specs.PageRank.{with_dangling}
use Rattle.pagerank.proofs.dangling_sum.Given as goal

abbrev pub invariant-loop-i : goal.invariant-loop-i
invariant-loop-i l = l.dangling ≡ after (with_dangling (outs_in l.nodes l.wf) (current_in l.nodes l.wf)) l.i zero_f
