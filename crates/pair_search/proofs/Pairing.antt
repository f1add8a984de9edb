-- The pairs of the predecessor entries: none changes but with its own entry. Assumes nothing.
use mathlib.Core.Path.{◌≡◌, sym, ap, ◌∙◌, subst}
use mathlib.Core.Logic.{◌≢◌, ◌⊎◌, inl, inr}
use mathlib.Core.List.{List, [], ◌∷◌, ◌++◌}
use Prim.Native.Nat.{ℕ, ◌+◌, ◌≤◌, ◌<◌}
use native.Mathlib.Omega.{arith}
use lib.ListN.{length, get_or, length-append, get_or-append}
use lib.Seq.{get_or_at}
use Rattle.regions.proofs.Cases.{below_or_not}
use Rattle.graph.specs.Edges.{Graph}
use Rattle.hops.specs.Search.{RowsOf}
use Rattle.hops.proofs.Sums.{eq_or_ne}
use Rattle.predecessors.specs.Tracks.{leading, Slots, Holding, Stays}
use Rattle.predecessors.proofs.Holding.{before_next, elsewhere}
use Rattle.pairs.specs.Numbers.{Numbered}
use Rattle.pair_search.specs.declared.PairTracks.{PairTracks}
use Rattle.pair_search.specs.Pairs.{Paired, HeldPairs}

-- ---- what a search leaves as it was

pub paired_after : {n : ℕ} {pt : PairTracks} {w c w' c' : List ℕ} → n + 1 ≤ pt.tracks.places.distances → pt.tracks.first + n < pt.tracks.last → Stays n pt.tracks w c w' c' → Paired n pt w → Paired n pt w'
paired_after {n} {pt} h l S P =
    record {
      before = λ v k. omega (arith, P.before v k, S.rows (v + 1) (omega arith));
      lasts = P.lasts;
      ends = omega (arith, P.ends, S.offsets (pt.tracks.first + n) (omega arith) l);
    }

pub numbered_after : {g : Graph} (number : ℕ → ℕ → ℕ) {pt : PairTracks} {w c w' c' : List ℕ} → g.nodes + 1 ≤ pt.tracks.places.distances → RowsOf g w pt.tracks.places.distances → Stays g.nodes pt.tracks w c w' c'
    → Paired g.nodes pt w → Numbered g number w pt.table.beside → Numbered g number w' pt.table.beside
numbered_after {g} number {pt} {w} {c} {w'} h R S P N v j hv l =
    ap (λ (o : ℕ). get_or w' (pt.table.beside + (o + j)) 0) (S.rows v (omega arith))
    ∙ S.rows (pt.table.beside + (get_or w v 0 + j)) (omega (arith, R.long v hv, P.before v hv))
    ∙ N v j hv l

pub pairs_same : {n : ℕ} (pt : PairTracks) (number : ℕ → ℕ → ℕ) (w : List ℕ) (lists lists' : ℕ → List ℕ) → HeldPairs n pt number w lists → ((x : ℕ) → x < n → lists' x ≡ lists x) → HeldPairs n pt number w lists'
pairs_same pt number w lists lists' H e x k h l =
    H x k h (subst (λ (t : List ℕ). k < length t) (e x h) l) ∙ ap (λ (t : List ℕ). number (get_or t k 0) x) (sym (e x h))

-- ---- one entry

module _ (pt : PairTracks) {g : Graph} {w : List ℕ} (S : Slots g pt.tracks w) {lists : ℕ → List ℕ} (H : Holding g.nodes pt.tracks w lists)
    (most : (y : ℕ) → y < g.nodes → length (lists y) ≤ leading g y) (number : ℕ → ℕ → ℕ) (P : HeldPairs g.nodes pt number w lists)
    (w' : List ℕ) (offset : (y : ℕ) → y < g.nodes → get_or w' (pt.tracks.first + y) 0 ≡ get_or w (pt.tracks.first + y) 0) where
  -- an entry lies before the end of all
  inside : (y i : ℕ) → y < g.nodes → i < length (lists y) → get_or w (pt.tracks.first + y) 0 + i < get_or w (pt.tracks.first + g.nodes) 0
  inside y i h l = omega (arith, most y h, before_next S y g.nodes h (omega arith))

  -- no pair changes
  pub pairs_after : ((i : ℕ) → i < get_or w (pt.tracks.first + g.nodes) 0 → get_or w' (pt.pairs + i) 0 ≡ get_or w (pt.pairs + i) 0) → HeldPairs g.nodes pt number w' lists
  pairs_after old y i h l =
      ap (λ (o : ℕ). get_or w' (pt.pairs + (o + i)) 0) (offset y h) ∙ old (get_or w (pt.tracks.first + y) 0 + i) (inside y i h l) ∙ P y i h l

  -- v is pushed behind the entries of x, and its pair stands beside it
  module _ {lists' : ℕ → List ℕ} (v x : ℕ) (hx : x < g.nodes) (free : length (lists x) < leading g x)
      (own : lists' x ≡ lists x ++ (v ∷ [])) (others : (y : ℕ) → y < g.nodes → y ≢ x → lists' y ≡ lists y)
      (new : get_or w' (pt.pairs + get_or w (pt.tracks.last + x) 0) 0 ≡ number v x) (old : (i : ℕ) → i < get_or w (pt.tracks.first + g.nodes) 0 → i ≢ get_or w (pt.tracks.last + x) 0 → get_or w' (pt.pairs + i) 0 ≡ get_or w (pt.pairs + i) 0) where
    kept_own : (i : ℕ) → i < length (lists x) + 1 → (i < length (lists x)) ⊎ (length (lists x) ≤ i) → get_or w' (pt.pairs + (get_or w (pt.tracks.first + x) 0 + i)) 0 ≡ number (get_or (lists x ++ (v ∷ [])) i 0) x
    kept_own i l (inl q) =
        old (get_or w (pt.tracks.first + x) 0 + i) (inside x i hx q) (λ e. omega (arith, H.filled x hx)) ∙ P x i hx q ∙ ap (λ (t : ℕ). number t x) (sym (get_or-append (lists x) (v ∷ []) 0 i q))
    kept_own i l (inr q) =
        let e : i ≡ length (lists x) = omega arith in
        let p : get_or w (pt.tracks.first + x) 0 + i ≡ get_or w (pt.tracks.last + x) 0 = omega (arith, H.filled x hx) in
        ap (λ (t : ℕ). get_or w' (pt.pairs + t) 0) p ∙ new ∙ ap (λ (t : ℕ). number t x) (sym (get_or_at (lists x) v [] 0 i (sym e)))

    kept' : (y i : ℕ) → y < g.nodes → i < length (lists' y) → (y ≡ x) ⊎ (y ≢ x) → get_or w' (pt.pairs + (get_or w' (pt.tracks.first + y) 0 + i)) 0 ≡ number (get_or (lists' y) i 0) y
    kept' y i h l (inl e) =
        let l' : i < length (lists x) + 1 = omega (arith, ap (λ (z : ℕ). length (lists' z)) e, ap length own, length-append (lists x) (v ∷ [])) in
        subst (λ (z : ℕ). get_or w' (pt.pairs + (get_or w' (pt.tracks.first + z) 0 + i)) 0 ≡ number (get_or (lists' z) i 0) z) (sym e)
        (ap (λ (t : ℕ). get_or w' (pt.pairs + (t + i)) 0) (offset x hx) ∙ kept_own i l' (below_or_not i (length (lists x))) ∙ ap (λ (t : List ℕ). number (get_or t i 0) x) (sym own))
    kept' y i h l (inr n) =
        let l' : i < length (lists y) = subst (λ (t : List ℕ). i < length t) (others y h n) l in
        ap (λ (t : ℕ). get_or w' (pt.pairs + (t + i)) 0) (offset y h)
        ∙ old (get_or w (pt.tracks.first + y) 0 + i) (inside y i h l') (elsewhere S H most v x hx free own others y i h n l')
        ∙ P y i h l'
        ∙ ap (λ (t : List ℕ). number (get_or t i 0) y) (sym (others y h n))

    pub pairs_push : HeldPairs g.nodes pt number w' lists'
    pairs_push y i h l = kept' y i h l (eq_or_ne y x)
