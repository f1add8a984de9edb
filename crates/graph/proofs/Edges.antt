-- Laws of `edges_from`: its length, and its edges by their place. Assumes nothing.
use mathlib.Core.Path.{◌≡◌, refl, sym, ap, ◌∙◌}
use mathlib.Core.List.{List, [], ◌∷◌}
use Prim.Native.Nat.{ℕ, zero, suc, ◌+◌, ◌<◌}
use native.Mathlib.Nat.{not-suc-le-zero, le_of_suc-le-suc, suc-add, add-suc, zero-add, add-zero}
use native.Mathlib.Omega.{arith}
use lib.ListN.{length, get_or, drop}
use lib.Seq.{drop-cons}
use lib.Ieee.{Float, nan}
use Rattle.graph.specs.Edges.{Edge, edge, edges_from, edges_of}
use Rattle.graph.specs.Pres.{Sized}

-- the slices behind their first places are of one length too
sized_tail : {f t : ℕ} {x : Float} {fs ts : List ℕ} {xs : List Float} → Sized (f ∷ fs) (t ∷ ts) (x ∷ xs) → Sized fs ts xs
sized_tail s = record { tos = omega (arith, s.tos); weights = omega (arith, s.weights) }

from_long : (k : ℕ) (fs ts : List ℕ) (xs : List Float) → Sized fs ts xs → length (edges_from k fs ts xs) ≡ length fs
unfolding edges_from
from_long k [] ts xs s = refl
from_long k (f ∷ fs) [] xs s = absurd (omega (arith, s.tos))
from_long k (f ∷ fs) (t ∷ ts) [] s = absurd (omega (arith, s.weights))
from_long k (f ∷ fs) (t ∷ ts) (x ∷ xs) s = ap suc (from_long (suc k) fs ts xs (sized_tail s))

pub edges_long : (fs ts : List ℕ) (xs : List Float) → Sized fs ts xs → length (edges_of fs ts xs) ≡ length fs
edges_long fs ts xs s = from_long 0 fs ts xs s

from_at : (k : ℕ) (fs ts : List ℕ) (xs : List Float) (d : Edge) (i : ℕ) → Sized fs ts xs → i < length fs
    → get_or (edges_from k fs ts xs) i d ≡ edge (k + i) (get_or fs i 0) (get_or ts i 0) (get_or xs i nan)
unfolding edges_from
from_at k [] ts xs d i s l = absurd (not-suc-le-zero l)
from_at k (f ∷ fs) [] xs d i s l = absurd (omega (arith, s.tos))
from_at k (f ∷ fs) (t ∷ ts) [] d i s l = absurd (omega (arith, s.weights))
from_at k (f ∷ fs) (t ∷ ts) (x ∷ xs) d zero s l = ap (λ (j : ℕ). edge j f t x) (sym (add-zero k))
from_at k (f ∷ fs) (t ∷ ts) (x ∷ xs) d (suc i) s l =
    from_at (suc k) fs ts xs d i (sized_tail s) (le_of_suc-le-suc l)
    ∙ ap (λ (j : ℕ). edge j (get_or fs i 0) (get_or ts i 0) (get_or xs i nan)) (suc-add k i ∙ sym (add-suc k i))

-- the ith edge
pub edges_at : (fs ts : List ℕ) (xs : List Float) (d : Edge) (i : ℕ) → Sized fs ts xs → i < length fs
    → get_or (edges_of fs ts xs) i d ≡ edge i (get_or fs i 0) (get_or ts i 0) (get_or xs i nan)
edges_at fs ts xs d i s l = from_at 0 fs ts xs d i s l ∙ ap (λ (j : ℕ). edge j (get_or fs i 0) (get_or ts i 0) (get_or xs i nan)) (zero-add i)

abbrev pub no_edge : Edge
no_edge = edge 0 0 0 nan

-- the edges from the ith on: the ith, and those after it
pub edges_from_lem : (fs ts : List ℕ) (xs : List Float) (i : ℕ) → Sized fs ts xs → i < length fs
    → drop i (edges_of fs ts xs) ≡ edge i (get_or fs i 0) (get_or ts i 0) (get_or xs i nan) ∷ drop (suc i) (edges_of fs ts xs)
edges_from_lem fs ts xs i s l =
    drop-cons (edges_of fs ts xs) i no_edge (omega (arith, edges_long fs ts xs s))
    ∙ ap (λ (e : Edge). e ∷ drop (suc i) (edges_of fs ts xs)) (edges_at fs ts xs no_edge i s l)
