-- A root that passes a stop rule's test is that of a finite double. Assumes nothing.
use mathlib.Core.Path.{◌≡◌}
use mathlib.Core.Bool.{true, false, false≢true}
use lib.Dec.{T}
use lib.Ieee.{Float, nan, inf, fin, lt}
use lib.Ieee.Scale.{finite}
use Rattle.roots.specs.Root.{sqrt_of}

-- neither NaN nor +infinity is less than anything
nan_less : (t : Float) → lt nan t ≡ true → ⊥
unfolding lt
nan_less t h = false≢true h

inf_less : (t : Float) → lt (inf false) t ≡ true → ⊥
unfolding lt
inf_less nan h = false≢true h
inf_less (inf s) h = false≢true h
inf_less (fin s m e) h = false≢true h

pub root_less : (x t : Float) → lt (sqrt_of x) t ≡ true → T (finite x)
unfolding sqrt_of
root_less nan t h = absurd (nan_less t h)
root_less (inf true) t h = absurd (nan_less t h)
root_less (inf false) t h = absurd (inf_less t h)
root_less (fin s m e) t h = tt
