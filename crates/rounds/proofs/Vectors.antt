-- The two vectors in the workspace: what a store into one of them does to both, and a pass over both. Assumes nothing.
use mathlib.Core.Path.{◌≡◌, refl, sym, ap, ◌∙◌}
use mathlib.Core.Logic.{⊎_elim}
use mathlib.Core.Bool.{Bool, true, false}
use mathlib.Core.List.{List}
use Prim.Native.Nat.{ℕ, ◌+◌, ◌≤◌, ◌<◌}
use native.Mathlib.Nat.{zero-add}
use native.Mathlib.Omega.{arith}
use borrow.Author.Tests.{eq-eqb, ne_eqb}
use lib.ListN.{length, get_or, set, length-set}
use lib.Seq.{ext_get_or, get_or-set_same, get_or-set_other}
use lib.Ieee.{Float, nan, binary64, add, mul}
use Rattle.regions.specs.Region.{part, list_of}
use Rattle.regions.proofs.Cases.{same_or_not}
use Rattle.regions.proofs.Parts.{part_long, part_at, list_of_places}
use Rattle.regions.proofs.Fronts.{front_none, front_set, front_then}
use Rattle.regions.proofs.Frames.{frame_none, frame_set, frame_part}
use Rattle.rounds.specs.Vectors.{entry, gains, spreads, current_in, next_in, Vectors, SpreadPre}

-- a store into a region is a store into the list it holds
pub part_set : {A : Type 0} (d : A) (w : List A) (b n i : ℕ) (v : A) → b + n ≤ length w → i < n → part (set w (b + i) v) b n ≡ set (part w b n) i v
part_set d w b n i v l h =
    let p : length (part w b n) ≡ n = part_long w b n l in
    let q : length (part (set w (b + i) v) b n) ≡ n = part_long (set w (b + i) v) b n (omega (arith, length-set w (b + i) v)) in
    ext_get_or d (part (set w (b + i) v) b n) (set (part w b n) i v) (q ∙ sym (length-set (part w b n) i v ∙ p))
    (λ k m.
    let r : k < n = omega arith in
    part_at (set w (b + i) v) b n d k r
    ∙ ⊎_elim
    (λ e. rw e (get_or-set_same w (b + i) v d (omega arith) ∙ sym (get_or-set_same (part w b n) i v d (omega arith))))
    (λ e. get_or-set_other w (b + i) (b + k) v d (λ z. e (omega arith)) ∙ sym (part_at w b n d k r) ∙ sym (get_or-set_other (part w b n) i k v d (λ z. e z)))
    (same_or_not k i))

module _ (n : ℕ) (w : List Float) where
  -- an entry of either vector, by its place in the workspace
  pub current_at : (i : ℕ) → i < n → get_or w i nan ≡ entry (current_in n w) i
  current_at i l = sym (part_at w 0 n nan i l ∙ ap (λ (k : ℕ). get_or w k nan) (zero-add i))

  pub next_at_lem : (i : ℕ) → i < n → get_or w (n + i) nan ≡ entry (next_in n w) i
  next_at_lem i l = sym (part_at w n n nan i l)

  -- a store into the next vector
  pub next_set : (i : ℕ) (v : Float) → n + n ≤ length w → i < n → Vectors n w (current_in n w) (set (next_in n w) i v) (set w (n + i) v)
  next_set i v l h =
      record {
        front = front_set (n + i) v (front_none w (n + n)) (omega arith);
        current = frame_part nan 0 n (frame_set (n + i) v (frame_none w n n) (omega arith) (omega arith)) (omega arith) (λ k m p q. omega arith);
        next = part_set nan w n n i v l h;
      }

-- one step after another
pub vectors_then : {n : ℕ} {w x y w' x' y' w'' : List Float} → Vectors n w x y w' → Vectors n w' x' y' w'' → Vectors n w x' y' w''
vectors_then a b = record { front = front_then a.front b.front; current = b.current; next = b.next }

-- the same vectors in other words
pub vectors_are : {n : ℕ} {w x y x' y' w' : List Float} → x ≡ x' → y ≡ y' → Vectors n w x y w' → Vectors n w x' y' w'
vectors_are e f v = record { front = v.front; current = v.current ∙ e; next = v.next ∙ f }

-- ---- the turns of `spread`
module _ (n : ℕ) (directed : Bool) (factor : Float) (row col : ℕ) (w : List Float) (pre : SpreadPre n w row col) where
  abbrev pub gained : ℕ → ℕ → List Float → List Float
  gained r c u = set u (n + r) (add binary64 (get_or u (n + r) nan) (mul binary64 factor (get_or u c nan)))

  gain : (r c : ℕ) (u : List Float) → n + n ≤ length u → r < n → c < n → Vectors n u (current_in n u) (gains factor (current_in n u) (next_in n u) r c) (gained r c u)
  gain r c u l hr hc =
      vectors_are refl
      (ap (λ (v : Float). set (next_in n u) r (add binary64 v (mul binary64 factor (get_or u c nan)))) (next_at_lem n u r hr)
      ∙ ap (λ (v : Float). set (next_in n u) r (add binary64 (entry (next_in n u) r) (mul binary64 factor v))) (current_at n u c hc))
      (next_set n u r (add binary64 (get_or u (n + r) nan) (mul binary64 factor (get_or u c nan))) l hr)

  abbrev Spread : List Float → Type 0
  Spread w' = Vectors n w (current_in n w) (spreads directed factor (current_in n w) (next_in n w) row col) w'

  there : Vectors n w (current_in n w) (gains factor (current_in n w) (next_in n w) row col) (gained row col w)
  there = gain row col w pre.room pre.row_in pre.col_in

  pub spread_directed : directed ≡ true → Spread (gained row col w)
  unfolding spreads
  spread_directed e = rw e there

  pub spread_loop : directed ≡ false → row ≡ col → Spread (gained row col w)
  unfolding spreads
  spread_loop e h = rw (e, eq-eqb row col h) there

  pub spread_both : directed ≡ false → (row ≡ col → ⊥) → Spread (gained col row (gained row col w))
  unfolding spreads
  spread_both e h =
      let u = gained row col w in
      let b : Vectors n u (current_in n u) (gains factor (current_in n u) (next_in n u) col row) (gained col row u)
      = gain col row u (omega (arith, pre.room, there.front.long)) pre.col_in pre.row_in in
      rw (e, ne_eqb row col h)
      (vectors_then there
      (vectors_are there.current
      (ap (λ (x : List Float). gains factor x (next_in n u) col row) there.current
      ∙ ap (λ (y : List Float). gains factor (current_in n w) y col row) there.next)
      b))

-- a vector in the workspace is the list of its entries
pub next_list : (n : ℕ) (w : List Float) → n + n ≤ length w → list_of (entry (next_in n w)) n ≡ next_in n w
next_list n w l = ap (list_of (entry (next_in n w))) (sym (part_long w n n l)) ∙ list_of_places nan (next_in n w)
