-- `personalized_pagerank::begin` meets its contract. Assumes nothing.
use Rattle.std.proofs.Common.{refl, arith}
use Rattle.personalized_pagerank.proofs.Personal.{begin_divide_pre, begin_apart, begin_room, personal_begun}
use Rattle.personalized_pagerank.proofs.begin.Goals as goal

pub overflow_mul-base : goal.overflow_mul-base
overflow_mul-base c = omega (arith, c.requires.room)

pub divide-requires : goal.divide-requires
divide-requires c = begin_divide_pre c.args.nodes c.args.damping c.args.given c.args.vector.now c.args.wf.now c.requires c.divisor-sum.ensures c.counts-counts.ensures refl

pub copy_within-requires : goal.copy_within-requires
copy_within-requires c = begin_apart c.args.nodes c.args.damping c.args.given c.args.vector.now c.args.wf.now c.requires c.divisor-sum.ensures c.counts-counts.ensures c.chosen.ensures c.divide.ensures

pub bases-requires : goal.bases-requires
bases-requires c =
    begin_room c.args.nodes c.args.damping c.args.given c.args.vector.now c.args.wf.now c.requires c.divisor-sum.ensures c.counts-counts.ensures c.chosen.ensures c.divide.ensures c.copy_within.ensures

pub returns : goal.returns
returns c =
    personal_begun c.args.nodes c.args.damping c.args.given c.args.vector.now c.args.wf.now c.requires c.divisor-sum.ensures c.counts-counts.ensures c.chosen.ensures c.divide.ensures c.copy_within.ensures c.bases.ensures
