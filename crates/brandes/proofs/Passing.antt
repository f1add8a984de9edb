-- The shares of a node's predecessor entries, taken one after the other. Assumes nothing.
use Rattle.std.proofs.Common.{◌≡◌, ℕ, ◌+◌, ◌-◌, ◌<◌, List, [], ◌∷◌, length, get_or, take, drop, sym, ap, ap₂, ◌∙◌, arith, eq-eqb, ne_eqb}
use Rattle.std.proofs.lemmas.List.{take_more}
use mathlib.Core.List.{foldl, foldl-append}
use lib.Ieee.{Float, nan, binary64, add}
use Rattle.regions.specs.Doubles.{one}
use Rattle.regions.specs.Region.{part}
use Rattle.regions.proofs.Parts.{part_long, part_at}
use Rattle.predecessors.specs.declared.Tracks.{Tracks}
use Rattle.brandes.specs.Shares.{share, grow}
use Rattle.brandes.specs.Steps.{held_count, passed_back, held_predecessors, left_by, LeavePre}

-- one entry's share
abbrev step : ℕ → List ℕ → Float → Float → List Float → ℕ → List Float
step n counts ways grown f v = grow f (n + v) (share (held_count counts v) ways grown)

pub pass_more : (n : ℕ) (counts : List ℕ) (ways grown : Float) (floats f : List Float) (vs : List ℕ) (k : ℕ) (x : Float) → k < length vs
    → x ≡ held_count counts (get_or vs k 0)
    → f ≡ passed_back n counts ways grown floats (take k vs)
    → grow f (n + get_or vs k 0) (share x ways grown) ≡ passed_back n counts ways grown floats (take (k + 1) vs)
unfolding passed_back
pass_more n counts ways grown floats f vs k x h ex e =
    ap (λ (y : Float). grow f (n + get_or vs k 0) (share y ways grown)) ex
    ∙ ap (λ (t : List Float). step n counts ways grown t (get_or vs k 0)) e
    ∙ sym (foldl-append (step n counts ways grown) floats (take k vs) (get_or vs k 0 ∷ []))
    ∙ ap (foldl (step n counts ways grown) floats) (sym (take_more vs k 0 h))

-- ---- a node leaves

-- the places between a node's offset and its end
pub held_slice : (t : Tracks) (w32 : List ℕ) (w : ℕ) → take (t.base + get_or w32 (t.last + w) 0 - (t.base + get_or w32 (t.first + w) 0)) (drop (t.base + get_or w32 (t.first + w) 0) w32) ≡ held_predecessors t w32 w
unfolding part
held_slice t w32 w =
    let l : t.base + get_or w32 (t.last + w) 0 - (t.base + get_or w32 (t.first + w) 0) ≡ get_or w32 (t.last + w) 0 - get_or w32 (t.first + w) 0 = omega arith in
    ap (λ (k : ℕ). take k (drop (t.base + get_or w32 (t.first + w) 0) w32)) l

-- they hold nodes
pub held_in : {t : Tracks} {w : ℕ} {w32 w64 : List ℕ} {wf : List Float} → LeavePre t w w32 w64 wf → {vs : List ℕ} → vs ≡ held_predecessors t w32 w → (p : ℕ) → p < length vs → get_or vs p 0 < t.places.nodes
held_in {t} {w} {w32} pre {vs} ev p h =
    let k = pre.kept in
    let a : ℕ = t.base + get_or w32 (t.first + w) 0 in
    let n : ℕ = get_or w32 (t.last + w) 0 - get_or w32 (t.first + w) 0 in
    let long : length (held_predecessors t w32 w) ≡ n = part_long w32 a n (omega (arith, k.ordered w pre.node, k.inside w pre.node)) in
    let inside : p < n = omega (arith, ap length ev) in
    let e : a + p ≡ t.base + (get_or w32 (t.first + w) 0 + p) = omega arith in
    let at : get_or vs p 0 ≡ get_or w32 (t.base + (get_or w32 (t.first + w) 0 + p)) 0 = ap (λ (l : List ℕ). get_or l p 0) ev ∙ part_at w32 a n 0 p inside ∙ ap (λ (i : ℕ). get_or w32 i 0) e in
    omega (arith, at, k.nodes w (get_or w32 (t.first + w) 0 + p) pre.node (omega arith) (omega arith))

module _ (n : ℕ) (counts : List ℕ) (t : Tracks) (w32 : List ℕ) (s w : ℕ) (floats f : List Float) {vs : List ℕ} {ways : Float}
    (ev : vs ≡ held_predecessors t w32 w) (ew : ways ≡ held_count counts w)
    (p : f ≡ passed_back n counts ways (add binary64 one (get_or floats (n + w) nan)) floats vs) where
  passed_all : f ≡ passed_back n counts (held_count counts w) (add binary64 one (get_or floats (n + w) nan)) floats (held_predecessors t w32 w)
  passed_all = p ∙ ap₂ (λ (x : Float) (l : List ℕ). passed_back n counts x (add binary64 one (get_or floats (n + w) nan)) floats l) ew ev

  pub left_start : w ≡ s → f ≡ left_by n counts (held_predecessors t w32) s w floats
  unfolding left_by
  left_start q = passed_all ∙ simp (eq-eqb w s q)

  pub left_other : (w ≡ s → ⊥) → grow f w (get_or floats (n + w) nan) ≡ left_by n counts (held_predecessors t w32) s w floats
  unfolding left_by
  left_other q = ap (λ (x : List Float). grow x w (get_or floats (n + w) nan)) passed_all ∙ simp (ne_eqb w s q)
