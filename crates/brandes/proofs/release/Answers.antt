-- `brandes::release` meets its contract: after i turns the first i nodes of the queue are released. Assumes nothing.
use Rattle.std.proofs.Common.{◌≡◌, ℕ, subst, arith}
use lib.Ieee.{of_bits}
use Rattle.brandes.specs.Steps.{Released}
use Rattle.brandes.proofs.Releasing.{released_more}
use Rattle.brandes.proofs.release.Goals as goal
use Rattle.brandes.proofs.release.Goals.{In-loop-i}

pub loop-i-preserved : goal.loop-i-preserved
unfolding of_bits
loop-i-preserved c = released_more c.requires c.loop-i.invariant (omega arith)

pub returns : goal.returns
returns c =
    let e : c.loop-i.i ≡ c.args.found = omega arith in
    subst (λ (k : ℕ). Released c.args.tracks k c.args.w32.now c.args.wf.now c.loop-i.w32 c.loop-i.wf) e c.loop-i.invariant
