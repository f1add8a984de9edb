-- The totals of edge betweenness as they are scaled: times a factor one after the other, or as they are. Assumes nothing.
use Rattle.std.proofs.Common.{◌≡◌, ℕ, ◌+◌, ◌-◌, ◌*◌, ◌<◌, ◌≤◌, Bool, true, false, cond, ◌&&◌, ltb, List, length, get_or, take, drop, length-take, length-drop, sym, ap, ◌∙◌, arith, lt-ltb}
use mathlib.Core.Logic.{⊎_elim}
use borrow.Rule.Slice.PartMut.{put_mid}
use lib.Lanes.{put_chunk}
use lib.Seq.{get_or-take, get_or-drop}
use Rattle.std.proofs.lemmas.Simd.{put_chunk_is, length-put_chunk, get_or-put_chunk_below, get_or-put_chunk_at, get_or-put_chunk_above}
use lib.Ieee.{Float, nan, binary64, mul, div}
use Rattle.regions.specs.Doubles.{double, one, two}
use Rattle.regions.proofs.Cases.{below_or_not}
use Rattle.regions.proofs.Frames.{frame_none, frame_by}
use Rattle.graph.specs.Layout.{totals_at}
use Rattle.crossings.specs.Totals.{scaled_total}
use Rattle.edge_totals.specs.Writes.{Multiplied, TotalsScaled}

-- ---- the floats of a part, each times the factor

-- of the part xs the floats before i have been multiplied
pub record Times (xs : List Float) (factor : Float) (i : ℕ) (ys : List Float) : Type 0 where
  pub done : (j : ℕ) → j < i → get_or ys j nan ≡ mul binary64 (get_or xs j nan) factor
  pub rest : (j : ℕ) → i ≤ j → get_or ys j nan ≡ get_or xs j nan

-- the part stands in its place again
pub part_multiplied : {f ys : List Float} {base len k i : ℕ} {factor : Float} → base + len ≤ length f → k ≡ len → i ≡ len → length ys ≡ length (take k (drop base f)) → Times (take k (drop base f)) factor i ys
    → Multiplied f base len factor (put_mid base k f ys)
part_multiplied {f} {ys} {base} {len} {k} {i} {factor} room ek ei long T =
    let many : length ys ≡ len = long ∙ simp (length-take, length-drop) (omega arith) in
    let whole : put_mid base k f ys ≡ put_chunk base f ys = ap (λ (j : ℕ). put_mid base j f ys) (ek ∙ sym many) ∙ sym (put_chunk_is base f ys (omega (arith, many))) in
    record {
      frame = frame_by nan (ap length whole ∙ length-put_chunk base f ys)
          (λ j out. ap (λ (l : List Float). get_or l j nan) whole ∙ ⊎_elim
          (λ q. get_or-put_chunk_below base f ys j nan q)
          (λ q. get_or-put_chunk_above base f ys j nan (omega (arith, many, out q)))
          (below_or_not j base));
      at = λ j l.
          ap (λ (x : List Float). get_or x (base + j) nan) whole
          ∙ get_or-put_chunk_at base f ys j nan (omega (arith, many)) (omega (arith, many))
          ∙ T.done j (omega arith)
          ∙ ap (λ (y : Float). mul binary64 y factor) (get_or-take k (drop base f) j nan (omega arith) ∙ get_or-drop base f j nan);
    }

-- ---- the totals

module _ (n : ℕ) (directed normalized : Bool) (many : ℕ) {f f' : List Float} where
  -- normalized and n > 1
  pub scaled_by : {factor : Float} → normalized ≡ true → 1 < n → factor ≡ div binary64 (cond directed one two) (double (n * (n - 1))) → Multiplied f (totals_at n) many factor f'
      → TotalsScaled n directed normalized many f f'
  unfolding scaled_total
  scaled_by {factor} q l e M =
      let t : (normalized && ltb 1 n) ≡ true = ap (λ (b : Bool). b && ltb 1 n) q ∙ lt-ltb 1 n l in
      record {
        frame = M.frame;
        at = λ p h.
            let x = get_or f (totals_at n + p) nan in
            M.at p h ∙ ap (mul binary64 x) e ∙ ap (λ (b : Bool). cond b (mul binary64 x (div binary64 (cond directed one two) (double (n * (n - 1))))) x) (sym t);
      }

-- else
pub not_scaled : (n : ℕ) (directed normalized : Bool) (many : ℕ) (f : List Float) → (normalized && ltb 1 n) ≡ false → TotalsScaled n directed normalized many f f
unfolding scaled_total
not_scaled n directed normalized many f t =
    record {
      frame = frame_none f (totals_at n) many;
      at = λ p h.
          let x = get_or f (totals_at n + p) nan in
          ap (λ (b : Bool). cond b (mul binary64 x (div binary64 (cond directed one two) (double (n * (n - 1))))) x) (sym t);
    }
