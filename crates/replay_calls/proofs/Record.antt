-- Laws of when a record can be replayed and of what the replay answers. Assumes nothing.
use Rattle.std.proofs.Common.{◌≡◌, ℕ, ◌+◌, ◌<◌, ◌≤◌, min, Bool, true, false, cond, not, ◌&&◌, ◌||◌, eqb, ltb, List, [], ◌∷◌, length, get_or, drop, sym, refl, ap, ◌∙◌, add-one, arith, drop_of_length-le, drop-cons, ltb-false, le-ltb, lt-ltb}
use Rattle.words.specs.declared.Places.{Places}
use Rattle.words.specs.Words.{word_at, places_of}
use Rattle.replay_calls.specs.Record.{longer_from, is_longer, edges_within, fits_in, Compares, Answers, Replays}

-- The limits that are left, after one more.
module _ (ws : List ℕ) (place : ℕ) (most : List ℕ) (i n : ℕ) (same : n ≡ word_at ws place i) where
  step : i < length most → longer_from ws place i (drop i most) ≡ (ltb (get_or most i 0) n || longer_from ws place (i + 1) (drop (i + 1) most))
  unfolding longer_from
  step h = rw (drop-cons most i 0 h, same, add-one)

  pub more : i < length most → get_or most i 0 < n → longer_from ws place i (drop i most) ≡ true
  more h l = step h ∙ rw (lt-ltb (get_or most i 0) n l)

  pub no_more : i < length most → n ≤ get_or most i 0 → longer_from ws place i (drop i most) ≡ longer_from ws place (i + 1) (drop (i + 1) most)
  no_more h l = step h ∙ rw (le-ltb (get_or most i 0) n l)

-- No limit is left.
pub no_limit : (ws : List ℕ) (place : ℕ) (most : List ℕ) (i : ℕ) → length most ≤ i → longer_from ws place i (drop i most) ≡ false
unfolding longer_from
no_limit ws place most i h = rw (drop_of_length-le most h)

-- The first of two tests did not hold.
neither : (a b : Bool) → (a || b) ≡ false → a ≡ false
neither true b h = h
neither false b h = refl

-- Edge slices that are not longer.
pub edges_fit : (ws : List ℕ) (n : ℕ) (r : Bool) → r ≡ is_longer ws 3 (n ∷ n ∷ n ∷ []) → r ≡ false → word_at ws 3 0 ≤ n
unfolding longer_from
edges_fit ws n r e f = ltb-false n (word_at ws 3 0) (neither (ltb n (word_at ws 3 0)) _ (sym e ∙ f))

-- Both of two tests hold.
both : (a b : Bool) → (a && b) ≡ true → (a ≡ true) × (b ≡ true)
both true b h = (refl, h)
both false b h = absurd (omega (arith, ap {B = ℕ} (λ (x : Bool). cond x 1 0) h))

-- A record that fits has no longer edge slices than are lent.
pub record_edges : (ws : List ℕ) (p : Places) (f : Bool) → f ≡ fits_in ws p → f ≡ true → word_at ws 3 0 ≤ 32769
unfolding fits_in
record_edges ws p f e t =
    let all = both (eqb p.end (length ws)) _ (sym e ∙ t) in
    let edges = both (edges_within ws 32769) _ all.1 in
    edges_fit ws 32769 (is_longer ws 3 (32769 ∷ 32769 ∷ 32769 ∷ [])) refl (no (is_longer ws 3 (32769 ∷ 32769 ∷ 32769 ∷ [])) edges.0)
  where
    no : (a : Bool) → not a ≡ true → a ≡ false
    no true h = sym h
    no false h = refl

-- A comparison by the same places and as many edges.
pub moved : {r : Bool} {ws : List ℕ} {p q : Places} {m n : ℕ} → Compares r ws p m → p ≡ q → m ≡ n → Compares r ws q n
moved k same same2 = record { left = k.left; reports = k.reports; finds = rw (same, same2) at k.finds }

-- What is answered of a record that fits.
pub replayed :
    (r : Bool) (ws : List ℕ) (p : Places) (f : Bool) (n : ℕ) → p ≡ places_of ws → f ≡ fits_in ws p → f ≡ true → word_at ws 3 0 ≤ n → Compares r ws p (min (word_at ws 3 0) n) → Replays r ws
replayed r ws p f n same e t h k = answers _ (sym (e ∙ ap (fits_in ws) same) ∙ t) (moved k same (omega arith))
  where
    answers : (b : Bool) → b ≡ true → Compares r ws (places_of ws) (word_at ws 3 0) → Answers b r ws
    answers true u c = c
    answers false u c = absurd (omega (arith, ap {B = ℕ} (λ (x : Bool). cond x 1 0) u))

-- what a loop over limits asks
pub ruleset limits = (more, no_more, no_limit)
