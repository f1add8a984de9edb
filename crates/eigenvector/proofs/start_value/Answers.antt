-- `eigenvector::start_value` meets its contract. Assumes nothing.
use Rattle.std.proofs.Common.{ap, ◌∙◌}
use lib.Ieee.{Float, binary64, div}
use Rattle.regions.specs.Doubles.{one}
use Rattle.roots.specs.Root.{sqrt_of}
use Rattle.eigenvector.specs.Eigenvector.{start_of}
use Rattle.eigenvector.proofs.start_value.Goals as goal

pub returns : goal.returns
unfolding start_of
returns c = ap (λ (x : Float). div binary64 one x) c.sqrt.ensures.0 ∙ ap (λ (x : Float). div binary64 one (sqrt_of x)) c.nearest_u64_to_f64.ensures
