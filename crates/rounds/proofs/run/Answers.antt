-- `rounds::run` meets its contract: each return by the round that led to it. Assumes nothing.
use Rattle.std.proofs.Common.{◌≡◌, rules, refl, arith}
use Rattle.rounds.specs.Runs.{begun, further}
use Rattle.rounds.proofs.run.Goals as goal

pub returns-then-before : goal.returns-then-before
returns-then-before g c = record {
  kept = refl;
  at_once = λ e. (refl, refl, refl);
  met = λ e. absurd (cc);
  ran_out = λ e. absurd (cc);
}

pub loop-k-init : goal.loop-k-init
loop-k-init g c = begun

pub round-requires : goal.round-requires
round-requires g c = let a : _ = c.requires c.loop-k.k c.loop-k.wf c.loop-k.invariant in search (rules, a)

pub loop-k-preserved : goal.loop-k-preserved
loop-k-preserved g c = further c.loop-k.invariant refl (rw c.if-round.false at c.round.ensures) refl

pub returns-then-round : goal.returns-then-round
returns-then-round g c = record {
  kept = refl;
  at_once = λ e. absurd (cc);
  met = λ e s. record {
    earlier = c.loop-k.k;
    last = c.loop-k.wf;
    lent = _;
    left = _;
    counted = refl;
    within = c.loop-k-test.true;
    reached = c.loop-k.invariant;
    shows = refl;
    met = rw c.if-round.true at c.round.ensures;
    leaves = refl;
  };
  ran_out = λ e s. absurd (cc);
}

pub returns : goal.returns
returns g c = record {
  kept = refl;
  at_once = λ e. absurd (cc);
  met = λ e s. absurd (cc);
  ran_out = λ e s. let all : c.loop-k.k ≡ c.args.settings.limit = omega arith in (refl, rw all at c.loop-k.invariant);
}
