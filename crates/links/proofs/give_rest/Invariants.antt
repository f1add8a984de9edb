-- `links::give_rest` meets its contract: at k the entries before it have given. Assumes nothing.
use Rattle.links.specs.Steps.{Given}
use Rattle.links.proofs.give_rest.Given as goal

abbrev pub invariant-loop-k : goal.invariant-loop-k
invariant-loop-k l = Given l.nodes l.contribution l.w l.first l.k l.initial.wf l.wf
