-- The scores as they are written: scaled by the case that holds. Assumes nothing.
use Rattle.std.proofs.Common.{◌≡◌, ℕ, ◌-◌, ◌*◌, ◌<◌, ◌≤◌, Bool, true, false, cond, List, map, length, get_or, sym, ap, ◌∙◌, zero-add, arith, ext_get_or, le-ltb, lt-ltb}
use lib.ListN.{length-map, get_or-map}
use lib.Ieee.{Float, nan, binary64, mul, div}
use Rattle.regions.specs.Doubles.{double, one}
use Rattle.regions.specs.Region.{over, list_of, part}
use Rattle.regions.proofs.Fronts.{list_long, list_same}
use Rattle.regions.proofs.Parts.{list_at_lem, part_is}
use Rattle.betweenness.specs.Betweenness.{half, scaled}
use Rattle.starts.specs.Starts.{Scored}

module _ (n : ℕ) (directed normalized : Bool) (f scores : List Float) {written : List Float} where
  pub times_pairs : {factor : Float} → normalized ≡ true → 2 < n → factor ≡ double ((n - 1) * (n - 2)) → written ≡ over (list_of (λ v. mul binary64 (get_or f v nan) (div binary64 one factor)) n) scores
      → written ≡ over (list_of (λ v. scaled n directed normalized (get_or f v nan)) n) scores
  unfolding scaled
  times_pairs {factor} q l e p =
      p ∙ ap (λ (t : List Float). over t scores)
      (list_same (λ v. mul binary64 (get_or f v nan) (div binary64 one factor)) (λ v. scaled n directed normalized (get_or f v nan)) n
      (λ v h. ap (λ (x : Float). mul binary64 (get_or f v nan) (div binary64 one x)) e ∙ sym (one_case v)))
    where
      one_case : (v : ℕ) → scaled n directed normalized (get_or f v nan) ≡ mul binary64 (get_or f v nan) (div binary64 one (double ((n - 1) * (n - 2))))
      one_case v =
          ap (λ (b : Bool). scaled n directed b (get_or f v nan)) q
          ∙ ap (λ (b : Bool). cond b (mul binary64 (get_or f v nan) (div binary64 one (double ((n - 1) * (n - 2))))) (get_or f v nan)) (lt-ltb 2 n l)

  pub times_half : normalized ≡ false → directed ≡ false → written ≡ over (list_of (λ v. mul binary64 (get_or f v nan) half) n) scores → written ≡ over (list_of (λ v. scaled n directed normalized (get_or f v nan)) n) scores
  unfolding scaled
  times_half q d p =
      p ∙ ap (λ (t : List Float). over t scores)
      (list_same (λ v. mul binary64 (get_or f v nan) half) (λ v. scaled n directed normalized (get_or f v nan)) n (λ v h. sym (one_case v)))
    where
      one_case : (v : ℕ) → scaled n directed normalized (get_or f v nan) ≡ mul binary64 (get_or f v nan) half
      one_case v = ap (λ (b : Bool). scaled n directed b (get_or f v nan)) q ∙ ap (λ (b : Bool). cond b (get_or f v nan) (mul binary64 (get_or f v nan) half)) d

  -- as they are
  plain : n ≤ length f → ((x : Float) → scaled n directed normalized x ≡ x) → written ≡ over (part f 0 n) scores → written ≡ over (list_of (λ v. scaled n directed normalized (get_or f v nan)) n) scores
  plain h e p =
      p ∙ ap (λ (t : List Float). over t scores)
      (part_is nan f 0 n (λ v. scaled n directed normalized (get_or f v nan)) (omega arith)
      (λ i l. ap (λ (k : ℕ). get_or f k nan) (zero-add i) ∙ sym (e (get_or f i nan))))

  pub as_few : n ≤ length f → normalized ≡ true → n ≤ 2 → written ≡ over (part f 0 n) scores → written ≡ over (list_of (λ v. scaled n directed normalized (get_or f v nan)) n) scores
  unfolding scaled
  as_few h q l p =
      plain h
      (λ x. ap (λ (b : Bool). scaled n directed b x) q ∙ ap (λ (b : Bool). cond b (mul binary64 x (div binary64 one (double ((n - 1) * (n - 2))))) x) (le-ltb 2 n l)) p

  pub as_directed : n ≤ length f → normalized ≡ false → directed ≡ true → written ≡ over (part f 0 n) scores → written ≡ over (list_of (λ v. scaled n directed normalized (get_or f v nan)) n) scores
  unfolding scaled
  as_directed h q d p = plain h (λ x. ap (λ (b : Bool). scaled n directed b x) q ∙ ap (λ (b : Bool). cond b x (mul binary64 x half)) d) p

-- each score of a list scaled
pub scaled_all : (h : Float → Float) {n : ℕ} {f scores : List Float} → Scored n f scores → list_of (λ v. h (get_or f v nan)) n ≡ map h scores
scaled_all h {n} {f} {scores} C =
    let long : length (list_of (λ v. h (get_or f v nan)) n) ≡ n = list_long (λ v. h (get_or f v nan)) n in
    ext_get_or (h nan) (list_of (λ v. h (get_or f v nan)) n) (map h scores) (long ∙ sym C.long ∙ sym (length-map scores h))
    (λ i l. list_at_lem (λ v. h (get_or f v nan)) n (h nan) i (omega arith) ∙ ap h (C.at i (omega arith)) ∙ sym (get_or-map h scores i nan))
