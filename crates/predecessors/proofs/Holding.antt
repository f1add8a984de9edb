-- Predecessor entries in the workspace: where each node's places lie, and one entry more. Assumes nothing.
use mathlib.Core.Path.{◌≡◌, refl, sym, ap, ◌∙◌, subst}
use mathlib.Core.Logic.{◌≢◌, ◌⊎◌, inl, inr}
use mathlib.Core.List.{List, [], ◌∷◌, ◌++◌}
use Prim.Native.Nat.{ℕ, zero, suc, ◌+◌, ◌-◌, ◌≤◌, ◌<◌}
use native.Mathlib.Omega.{arith}
use lib.ListN.{length, get_or, set, length-append, length-set, get_or-append}
use lib.Seq.{get_or_at}
use Rattle.regions.proofs.Fronts.{hit, miss}
use Rattle.regions.proofs.Cases.{below_or_not}
use Rattle.graph.specs.Edges.{Graph}
use Rattle.hops.proofs.Sums.{eq_or_ne}
use Rattle.predecessors.specs.declared.Tracks.{Tracks}
use Rattle.predecessors.specs.Tracks.{leading, Slots, Holding, pushed, PushPre}

module _ {g : Graph} {w : List ℕ} {tr : Tracks} (S : Slots g tr w) where
  rise_by : (x k : ℕ) → x + k ≤ g.nodes → get_or w (tr.first + x) 0 ≤ get_or w (tr.first + (x + k)) 0
  rise_by x zero h = let e : x + 0 ≡ x = omega arith in omega (arith, ap (λ (i : ℕ). get_or w (tr.first + i) 0) e)
  rise_by x (suc k) h =
      let e : x + suc k ≡ x + k + 1 = omega arith in
      omega (arith, rise_by x k (omega arith), S.places (x + k) (omega arith), ap (λ (i : ℕ). get_or w (tr.first + i) 0) e)

  -- the offsets rise
  pub rise : (x y : ℕ) → x ≤ y → y ≤ g.nodes → get_or w (tr.first + x) 0 ≤ get_or w (tr.first + y) 0
  rise x y l h =
      let e : x + (y - x) ≡ y = omega arith in
      omega (arith, rise_by x (y - x) (omega arith), ap (λ (i : ℕ). get_or w (tr.first + i) 0) e)

  -- a node's places end before the next one's begin, and before the end
  pub before_next : (x y : ℕ) → x < y → y ≤ g.nodes → get_or w (tr.first + x) 0 + leading g x ≤ get_or w (tr.first + y) 0
  before_next x y l h = omega (arith, S.places x (omega arith), rise (x + 1) y (omega arith) h)

  pub slots_after : (w' : List ℕ) → length w' ≡ length w → ((i : ℕ) → tr.first ≤ i → i < tr.last → get_or w' i 0 ≡ get_or w i 0) → Slots g tr w'
  slots_after w' long same =
      record {
        queue = S.queue;
        firsts = S.firsts;
        lasts = S.lasts;
        inside = omega (arith, S.inside, same (tr.first + g.nodes) (omega arith) (omega (arith, S.firsts)));
        few = omega (arith, S.few, same (tr.first + g.nodes) (omega arith) (omega (arith, S.firsts)));
        places = λ x h. omega (arith, S.places x h, same (tr.first + x) (omega arith) (omega (arith, S.firsts)), same (tr.first + (x + 1)) (omega arith) (omega (arith, S.firsts)));
      }

  -- a place for one entry more
  pub push_room : (lists : ℕ → List ℕ) → Holding g.nodes tr w lists → (x : ℕ) → x < g.nodes → length (lists x) < leading g x → PushPre x tr.last tr.base w
  push_room lists H x hx l =
      let n = before_next x g.nodes hx (omega arith) in
      record {
        end = omega (arith, S.lasts, S.inside);
        slot = omega (arith, H.filled x hx, S.inside);
        few = omega (arith, H.filled x hx, S.few);
      }

pub holding_same : {n : ℕ} {w : List ℕ} {tr : Tracks} {lists lists' : ℕ → List ℕ} → Holding n tr w lists → ((x : ℕ) → x < n → lists' x ≡ lists x) → Holding n tr w lists'
holding_same {n} {w} {tr} {lists} {lists'} H e =
    record {
      filled = λ x h. H.filled x h ∙ ap (λ (l : List ℕ). get_or w (tr.first + x) 0 + length l) (sym (e x h));
      kept = λ x k h l. H.kept x k h (subst (λ (t : List ℕ). k < length t) (e x h) l) ∙ ap (λ (t : List ℕ). get_or t k 0) (sym (e x h));
    }

pub holding_after : {n : ℕ} {w : List ℕ} {tr : Tracks} {lists : ℕ → List ℕ} (w' : List ℕ) → tr.first + n ≤ tr.last → tr.last + n ≤ tr.base → ((i : ℕ) → tr.first ≤ i → get_or w' i 0 ≡ get_or w i 0)
    → Holding n tr w lists → Holding n tr w' lists
holding_after {n} {w} {tr} {lists} w' a b same H =
    record {
      filled = λ x h. omega (arith, H.filled x h, same (tr.first + x) (omega arith), same (tr.last + x) (omega arith));
      kept = λ x k h l.
          ap (λ (o : ℕ). get_or w' (tr.base + (o + k)) 0) (same (tr.first + x) (omega arith)) ∙ same (tr.base + (get_or w (tr.first + x) 0 + k)) (omega arith) ∙ H.kept x k h l;
    }

-- v is pushed behind the entries of x
module _ {g : Graph} {w : List ℕ} {tr : Tracks} (S : Slots g tr w) {lists lists' : ℕ → List ℕ} (H : Holding g.nodes tr w lists)
    (most : (y : ℕ) → y < g.nodes → length (lists y) ≤ leading g y) (v x : ℕ) (hx : x < g.nodes) (free : length (lists x) < leading g x)
    (own : lists' x ≡ lists x ++ (v ∷ [])) (others : (y : ℕ) → y < g.nodes → y ≢ x → lists' y ≡ lists y) where
  P : PushPre x tr.last tr.base w
  P = push_room S lists H x hx free

  pub push_long : length (pushed v x tr.last tr.base w) ≡ length w
  push_long = length-set (set w (tr.base + get_or w (tr.last + x) 0) v) (tr.last + x) (get_or w (tr.last + x) 0 + 1) ∙ length-set w (tr.base + get_or w (tr.last + x) 0) v

  pub push_low : (i : ℕ) → i < tr.last → get_or (pushed v x tr.last tr.base w) i 0 ≡ get_or w i 0
  push_low i l =
      miss (set w (tr.base + get_or w (tr.last + x) 0) v) (tr.last + x) _ i (λ e. omega arith)
      ∙ miss w (tr.base + get_or w (tr.last + x) 0) v i (λ e. omega (arith, S.lasts))

  ends_self : get_or (pushed v x tr.last tr.base w) (tr.last + x) 0 ≡ get_or w (tr.last + x) 0 + 1
  ends_self = hit (set w (tr.base + get_or w (tr.last + x) 0) v) (tr.last + x) _ (tr.last + x) refl (omega (arith, P.end, length-set w (tr.base + get_or w (tr.last + x) 0) v))

  ends_other : (y : ℕ) → y < g.nodes → y ≢ x → get_or (pushed v x tr.last tr.base w) (tr.last + y) 0 ≡ get_or w (tr.last + y) 0
  ends_other y h n =
      miss (set w (tr.base + get_or w (tr.last + x) 0) v) (tr.last + x) _ (tr.last + y) (λ e. n (omega arith))
      ∙ miss w (tr.base + get_or w (tr.last + x) 0) v (tr.last + y) (λ e. omega (arith, S.lasts))

  in_base : (i : ℕ) → tr.base + i ≢ tr.last + x
  in_base i e = omega (arith, S.lasts)

  entry_new : get_or (pushed v x tr.last tr.base w) (tr.base + get_or w (tr.last + x) 0) 0 ≡ v
  entry_new =
      miss (set w (tr.base + get_or w (tr.last + x) 0) v) (tr.last + x) _ (tr.base + get_or w (tr.last + x) 0) (in_base (get_or w (tr.last + x) 0))
      ∙ hit w (tr.base + get_or w (tr.last + x) 0) v (tr.base + get_or w (tr.last + x) 0) refl P.slot

  entry_old : (i : ℕ) → i ≢ get_or w (tr.last + x) 0 → get_or (pushed v x tr.last tr.base w) (tr.base + i) 0 ≡ get_or w (tr.base + i) 0
  entry_old i n =
      miss (set w (tr.base + get_or w (tr.last + x) 0) v) (tr.last + x) _ (tr.base + i) (in_base i)
      ∙ miss w (tr.base + get_or w (tr.last + x) 0) v (tr.base + i) (λ e. n (omega arith))

  offset : (y : ℕ) → y < g.nodes → get_or (pushed v x tr.last tr.base w) (tr.first + y) 0 ≡ get_or w (tr.first + y) 0
  offset y h = push_low (tr.first + y) (omega (arith, S.firsts))

  filled' : (y : ℕ) → y < g.nodes → (y ≡ x) ⊎ (y ≢ x) → get_or (pushed v x tr.last tr.base w) (tr.last + y) 0 ≡ get_or (pushed v x tr.last tr.base w) (tr.first + y) 0 + length (lists' y)
  filled' y h (inl e) =
      subst (λ (z : ℕ). get_or (pushed v x tr.last tr.base w) (tr.last + z) 0 ≡ get_or (pushed v x tr.last tr.base w) (tr.first + z) 0 + length (lists' z)) (sym e)
      (omega (arith, ends_self, offset x hx, H.filled x hx, ap length own, length-append (lists x) (v ∷ [])))
  filled' y h (inr n) = omega (arith, ends_other y h n, offset y h, H.filled y h, ap length (others y h n))

  -- another node's entry stands elsewhere
  pub elsewhere : (y i : ℕ) → y < g.nodes → y ≢ x → i < length (lists y) → get_or w (tr.first + y) 0 + i ≢ get_or w (tr.last + x) 0
  elsewhere y i h n l e = go (below_or_not x y)
    where
      go : (x < y) ⊎ (y ≤ x) → ⊥
      go (inl q) = omega (arith, H.filled x hx, before_next S x y q (omega arith))
      go (inr q) = omega (arith, H.filled x hx, most y h, before_next S y x (omega (arith, n)) (omega arith))

  kept_own : (i : ℕ) → i < length (lists x) + 1 → (i < length (lists x)) ⊎ (length (lists x) ≤ i) → get_or (pushed v x tr.last tr.base w) (tr.base + (get_or w (tr.first + x) 0 + i)) 0 ≡ get_or (lists x ++ (v ∷ [])) i 0
  kept_own i l (inl q) =
      entry_old (get_or w (tr.first + x) 0 + i) (λ e. omega (arith, H.filled x hx)) ∙ H.kept x i hx q ∙ sym (get_or-append (lists x) (v ∷ []) 0 i q)
  kept_own i l (inr q) =
      let e : i ≡ length (lists x) = omega arith in
      let p : get_or w (tr.first + x) 0 + i ≡ get_or w (tr.last + x) 0 = omega (arith, H.filled x hx) in
      ap (λ (t : ℕ). get_or (pushed v x tr.last tr.base w) (tr.base + t) 0) p ∙ entry_new ∙ sym (get_or_at (lists x) v [] 0 i (sym e))

  kept' : (y i : ℕ) → y < g.nodes → i < length (lists' y) → (y ≡ x) ⊎ (y ≢ x) → get_or (pushed v x tr.last tr.base w) (tr.base + (get_or (pushed v x tr.last tr.base w) (tr.first + y) 0 + i)) 0 ≡ get_or (lists' y) i 0
  kept' y i h l (inl e) =
      let l' : i < length (lists x) + 1 = omega (arith, ap (λ (z : ℕ). length (lists' z)) e, ap length own, length-append (lists x) (v ∷ [])) in
      ap (λ (t : ℕ). get_or (pushed v x tr.last tr.base w) (tr.base + (t + i)) 0) (offset y h ∙ ap (λ (z : ℕ). get_or w (tr.first + z) 0) e)
      ∙ kept_own i l' (below_or_not i (length (lists x)))
      ∙ ap (λ (t : List ℕ). get_or t i 0) (sym (ap lists' e ∙ own))
  kept' y i h l (inr n) =
      let l' : i < length (lists y) = subst (λ (t : List ℕ). i < length t) (others y h n) l in
      ap (λ (t : ℕ). get_or (pushed v x tr.last tr.base w) (tr.base + (t + i)) 0) (offset y h)
      ∙ entry_old (get_or w (tr.first + y) 0 + i) (elsewhere y i h n l')
      ∙ H.kept y i h l'
      ∙ ap (λ (t : List ℕ). get_or t i 0) (sym (others y h n))

  pub push_holding : Holding g.nodes tr (pushed v x tr.last tr.base w) lists'
  push_holding = record { filled = λ y h. filled' y h (eq_or_ne y x); kept = λ y i h l. kept' y i h l (eq_or_ne y x) }
