-- What was stored from the beginning of a slice is found there. Assumes nothing.
use mathlib.Core.Path.{◌≡◌, refl, ap, ◌∙◌}
use mathlib.Core.List.{List, map}
use Prim.Native.Nat.{ℕ, ◌+◌, ◌≤◌}
use native.Mathlib.Omega.{arith}
use lib.ListN.{length, take, drop, replicate, length-replicate, length-map}
use lib.Seq.{sets, sets-eq, take_at}
use lib.Ieee.{Float, binary64, of_bits}
use Rattle.regions.specs.Region.{zero_f}
use Rattle.lines.specs.declared.Measure.{Measure}
use Rattle.lines.specs.declared.Top.{Top}
use Rattle.text.specs.Written.{Written}
use Rattle.scoring.specs.Scored.{scored_text, on_zeros, doubles}

pub stored_front : {A : Type 0} (w xs : List A) (m : ℕ) → length xs ≡ m → m ≤ length w → take m (sets w 0 xs) ≡ xs
stored_front w xs m e h = ap (take m) (sets-eq xs w 0 (omega arith)) ∙ take_at xs (drop (0 + length xs) w) m e

-- as many edges as a job has, of slices that hold the most
pub stored_ends : {A B : Type 0} (f : A → B) (z : B) (edges : List A) (m : ℕ) {w : List B} → length edges ≡ m → m ≤ 1024 → w ≡ sets (replicate 1024 z) 0 (map f edges) → take m w ≡ map f edges
stored_ends f z edges m e h q =
    ap (take m) q ∙ stored_front (replicate 1024 z) (map f edges) m (length-map edges f ∙ e) (omega (arith, length-replicate 1024 z))

pub doubled : (bits : List ℕ) {w : List Float} → w ≡ sets (replicate 1024 zero_f) 0 (map (of_bits binary64) bits) → length bits ≤ 1024 → take (length bits) w ≡ doubles bits
doubled bits q h = stored_ends (of_bits binary64) zero_f bits (length bits) refl h q

-- the text of a measure on weights that are the doubles of their bits
pub on_doubles : (measure : Measure) (top : Top) (from to bits : List ℕ) {weights : List Float} {before after : List ℕ} {r : ℕ}
    → weights ≡ doubles bits → Written (scored_text measure top (on_zeros from to weights)) before 0 after r → Written (scored_text measure top (on_zeros from to (doubles bits))) before 0 after r
on_doubles measure top from to bits e w = rw e at w
