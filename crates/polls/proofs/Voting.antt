-- The turns of an election's loops: votes edge by edge, the elected silenced one by one, the first highest, a row's entries weakened. Assumes nothing.
use mathlib.Core.Path.{◌≡◌, refl, sym, ap, ◌∙◌}
use mathlib.Core.Bool.{Bool, true, false, ◌||◌, cond}
use mathlib.Core.Logic.{⊎_elim}
use mathlib.Core.List.{List, [], ◌∷◌, ◌++◌, foldl, foldl-append}
use Prim.Native.Nat.{ℕ, zero, suc, ◌+◌, ◌-◌, ◌*◌, ◌≤◌, ◌<◌}
use native.Mathlib.Numerals.{add-one}
use native.Mathlib.Omega.{arith}
use borrow.Author.Tests.{eqb-true, eqb-false}
use lib.Dec.{eqb}
use lib.ListN.{length, get_or, set, take}
use lib.Seq.{take-suc, take-length}
use lib.Ieee.{Float, binary64, nan, add, sub, lt}
use Rattle.regions.specs.Region.{zero_f, Frame, Filled}
use Rattle.regions.proofs.Cases.{bool_cases}
use Rattle.regions.proofs.Fronts.{hit_d, miss_d}
use Rattle.regions.proofs.Frames.{frame_none, frame_set, frame_then}
use Rattle.roots.specs.Maximum.{max_of}
use Rattle.graph.specs.Edges.{listed, Edge, edge, edges_from, edges_of}
use Rattle.graph.specs.Pres.{Sized, Inside}
use Rattle.graph.proofs.Edges.{edges_long, edges_at, no_edge}
use Rattle.polls.specs.Votes.{gains, votes, first_highest, weaker}
use Rattle.polls.specs.Steps.{VotePre, gained, voted, TallyPre, CountPre, Tallied, Silenced}

-- ---- one edge
module _ (n : ℕ) (w : List Float) (room : 2 * n ≤ length w) where
  gained_frame : (v x : ℕ) → v < n → Frame w n n (gained n v x w)
  gained_frame v x l = frame_set (n + v) (add binary64 (get_or w (n + v) nan) (get_or w x nan)) (frame_none w n n) (omega arith) (omega arith)

  gained_at : (v x u : ℕ) → v < n → u < n → get_or (gained n v x w) (n + u) nan ≡ cond (eqb v u) (add binary64 (get_or w (n + u) nan) (get_or w x nan)) (get_or w (n + u) nan)
  gained_at v x u lv lu =
      ⊎_elim
      (λ b.
      let q : v ≡ u = eqb-true v u b in
      rw b
      (hit_d w (n + v) (add binary64 (get_or w (n + v) nan) (get_or w x nan)) (n + u) nan (omega arith) (omega arith)
      ∙ ap (λ (k : ℕ). add binary64 (get_or w (n + k) nan) (get_or w x nan)) q))
      (λ b. rw b (miss_d w (n + v) (add binary64 (get_or w (n + v) nan) (get_or w x nan)) (n + u) nan (λ q. eqb-false v u b (omega arith))))
      (bool_cases (eqb v u))

module _ (n : ℕ) (directed : Bool) (f t : ℕ) (w : List Float) (p : VotePre n f t w) where
  once : Frame w n n (gained n f t w)
  once = gained_frame n w p.room f t p.from

  long : 2 * n ≤ length (gained n f t w)
  long = omega (arith, p.room, once.long)

  pub voted_frame : Frame w n n (voted n directed f t w)
  unfolding voted
  voted_frame = go directed
    where
      go : (d : Bool) → Frame w n n (cond d (gained n f t w) (gained n t f (gained n f t w)))
      go true = once
      go false = frame_then once (gained_frame n (gained n f t w) long t f p.to)

  -- what u has after the edge
  pub voted_at : (k : ℕ) (x : Float) (u : ℕ) → u < n → get_or (voted n directed f t w) (n + u) nan ≡ gains directed (λ v. get_or w v nan) u (get_or w (n + u) nan) (edge k f t x)
  unfolding voted
  voted_at k x u l = go directed
    where
      go : (d : Bool) → get_or (cond d (gained n f t w) (gained n t f (gained n f t w))) (n + u) nan ≡ gains d (λ v. get_or w v nan) u (get_or w (n + u) nan) (edge k f t x)
      go true = gained_at n w p.room f t u p.from l
      go false =
          gained_at n (gained n f t w) long t f u p.to l
          ∙ ap (λ (y : Float). cond (eqb t u) (add binary64 y (get_or (gained n f t w) f nan)) y) (gained_at n w p.room f t u p.from l)
          ∙ ap (λ (y : Float). let first = cond (eqb f u) (add binary64 (get_or w (n + u) nan) (get_or w t nan)) (get_or w (n + u) nan) in cond (eqb t u) (add binary64 first y) first) (once.rest nan f (λ a b. omega (arith, p.from)))

-- ---- abilities that agree for each node give the same votes
gains_same : (directed : Bool) (a b : ℕ → Float) (v : ℕ) (sum : Float) (e : Edge) → a e.from ≡ b e.from → a e.to ≡ b e.to → gains directed a v sum e ≡ gains directed b v sum e
gains_same directed a b v sum e p q = cc

ends_same : (directed : Bool) (a b : ℕ → Float) (n k : ℕ) (fs ts : List ℕ) (xs : List Float) (v : ℕ) (sum : Float)
    → ((u : ℕ) → u < n → a u ≡ b u) → ((i : ℕ) → i < length fs → get_or fs i 0 < n) → ((i : ℕ) → i < length fs → get_or ts i 0 < n)
    → foldl (gains directed a v) sum (edges_from k fs ts xs) ≡ foldl (gains directed b v) sum (edges_from k fs ts xs)
unfolding edges_from
ends_same directed a b n k [] ts xs v sum h p q = refl
ends_same directed a b n k (f ∷ fs) [] xs v sum h p q = refl
ends_same directed a b n k (f ∷ fs) (t ∷ ts) [] v sum h p q = refl
ends_same directed a b n k (f ∷ fs) (t ∷ ts) (x ∷ xs) v sum h p q =
    ap (λ (s : Float). foldl (gains directed a v) s (edges_from (suc k) fs ts xs)) (gains_same directed a b v sum (edge k f t x) (h f (p 0 (omega arith))) (h t (q 0 (omega arith))))
    ∙ ends_same directed a b n (suc k) fs ts xs v (gains directed b v sum (edge k f t x)) h (λ i l. p (suc i) (omega arith)) (λ i l. q (suc i) (omega arith))

pub votes_same : (directed : Bool) (a b : ℕ → Float) (n : ℕ) (from to : List ℕ) (weight : List Float) → Sized from to weight → Inside n from to → (v : ℕ)
    → ((u : ℕ) → u < n → a u ≡ b u) → votes directed a (edges_of from to weight) v ≡ votes directed b (edges_of from to weight) v
unfolding votes
votes_same directed a b n from to weight s i v h = ends_same directed a b n 0 from to weight v zero_f h i.froms i.tos

-- ---- all edges
-- the votes of the first i edges stand behind the abilities
pub record Voting (n : ℕ) (directed : Bool) (from to : List ℕ) (weight : List Float) (w₀ : List Float) (i : ℕ) (w : List Float) : Type 0 where
  pub some : i ≤ length from
  pub frame : Frame w₀ n n w
  pub at : (v : ℕ) → v < n → get_or w (n + v) nan ≡ foldl (gains directed (λ u. get_or w₀ u nan) v) zero_f (take i (edges_of from to weight))

module _ (n : ℕ) (directed : Bool) (from to : List ℕ) (weight w₀ : List Float) (p : CountPre n from to weight w₀) where
  pub voting_none : Voting n directed from to weight w₀ 0 w₀
  voting_none = record { some = omega arith; frame = frame_none w₀ n n; at = p.clear }

  module _ (i : ℕ) (w : List Float) (l : i < length from) (C : Voting n directed from to weight w₀ i w) where
    pub vote_pre : VotePre n (get_or from i 0) (get_or to i 0) w
    vote_pre = record { from = p.pre.ends.froms i l; to = p.pre.ends.tos i l; room = omega (arith, p.pre.room, C.frame.long) }

    ability : (u : ℕ) → u < n → get_or w u nan ≡ get_or w₀ u nan
    ability u h = C.frame.rest nan u (λ a b. omega arith)

    -- the ith edge, from abilities that agree at its ends
    pub voting_more : (w' : List Float) → w' ≡ voted n directed (get_or from i 0) (get_or to i 0) w → Voting n directed from to weight w₀ (i + 1) w'
    voting_more w' e =
        record {
          some = omega arith;
          frame = rw e (frame_then C.frame (voted_frame n directed (get_or from i 0) (get_or to i 0) w vote_pre));
          at = λ v h.
              ap (λ (x : List Float). get_or x (n + v) nan) e
              ∙ voted_at n directed (get_or from i 0) (get_or to i 0) w vote_pre i (get_or weight i nan) v h
              ∙ cc (ability (get_or from i 0) vote_pre.from, ability (get_or to i 0) vote_pre.to, C.at v h)
              ∙ ap (gains directed (λ u. get_or w₀ u nan) v (foldl (gains directed (λ u. get_or w₀ u nan) v) zero_f (take i (edges_of from to weight)))) (sym (edges_at from to weight no_edge i p.pre.sized l))
              ∙ sym (foldl-append (gains directed (λ u. get_or w₀ u nan) v) zero_f (take i (edges_of from to weight)) (get_or (edges_of from to weight) i no_edge ∷ []))
              ∙ ap (foldl (gains directed (λ u. get_or w₀ u nan) v) zero_f) (sym (take-suc (edges_of from to weight) i no_edge (omega (arith, edges_long from to weight p.pre.sized))))
              ∙ ap (λ (k : ℕ). foldl (gains directed (λ u. get_or w₀ u nan) v) zero_f (take k (edges_of from to weight))) (sym (add-one i));
        }

  pub voting_all : (i : ℕ) (w : List Float) → i ≡ length from → Voting n directed from to weight w₀ i w → Tallied n directed from to weight w₀ w
  unfolding votes
  voting_all i w e C =
      record {
        frame = C.frame;
        at = λ v h. C.at v h ∙ ap (foldl (gains directed (λ u. get_or w₀ u nan) v) zero_f) (ap (λ (k : ℕ). take k (edges_of from to weight)) (e ∙ sym (edges_long from to weight p.pre.sized)) ∙ take-length (edges_of from to weight));
      }

-- the votes are counted from nothing
module _ (n : ℕ) (directed : Bool) (from to : List ℕ) (weight w w1 : List Float) (p : TallyPre n from to weight w) (e : Filled w n n zero_f w1) where
  pub tally_clear : CountPre n from to weight w1
  tally_clear = record { pre = record { sized = p.sized; ends = p.ends; room = omega (arith, p.room, e.frame.long) }; clear = e.at nan }

  -- the abilities are as they were
  pub tally_all : (w2 : List Float) → Tallied n directed from to weight w1 w2 → Tallied n directed from to weight w w2
  tally_all w2 t =
      record {
        frame = frame_then e.frame t.frame;
        at = λ v h. t.at v h ∙ votes_same directed (λ u. get_or w1 u nan) (λ u. get_or w u nan) n from to weight p.sized p.ends v (λ u l. e.frame.rest nan u (λ a b. omega arith));
      }

-- ---- the elected
listed_more : (v : ℕ) (xs : List ℕ) (x : ℕ) → listed v (xs ++ (x ∷ [])) ≡ eqb x v || listed v xs
unfolding listed
listed_more v [] x = refl
listed_more v (y ∷ ys) x = ap (λ (b : Bool). eqb y v || b) (listed_more v ys x) ∙ swap (eqb y v) (eqb x v) (listed v ys)
  where
    swap : (a b c : Bool) → (a || (b || c)) ≡ (b || (a || c))
    swap true true c = refl
    swap true false c = refl
    swap false true c = refl
    swap false false c = refl

pub silenced_none : (n : ℕ) (elected : List ℕ) (w : List Float) → Silenced n 0 elected w w
unfolding listed
silenced_none n elected w = record { frame = frame_none w n n; at = λ v h. refl }

pub silenced_more : (n : ℕ) (elected : List ℕ) (w₀ w : List Float) (i : ℕ) → i < length elected → get_or elected i 0 < n → 2 * n ≤ length w₀ → Silenced n i elected w₀ w → Silenced n (i + 1) elected w₀ (set w (n + get_or elected i 0) zero_f)
silenced_more n elected w₀ w i l h room S = record { frame = frame_set (n + get_or elected i 0) zero_f S.frame (omega arith) (omega arith); at = at }
  where
    longer : take (i + 1) elected ≡ take i elected ++ (get_or elected i 0 ∷ [])
    longer = ap (λ (k : ℕ). take k elected) (add-one i) ∙ take-suc elected i 0 l

    is : (v : ℕ) → cond (listed v (take (i + 1) elected)) zero_f (get_or w₀ (n + v) nan) ≡ cond (eqb (get_or elected i 0) v || listed v (take i elected)) zero_f (get_or w₀ (n + v) nan)
    is v = ap (λ (b : Bool). cond b zero_f (get_or w₀ (n + v) nan)) (ap (listed v) longer ∙ listed_more v (take i elected) (get_or elected i 0))

    now : (v : ℕ) {c : Bool} → eqb (get_or elected i 0) v ≡ c → cond (eqb (get_or elected i 0) v || listed v (take i elected)) zero_f (get_or w₀ (n + v) nan) ≡ cond (c || listed v (take i elected)) zero_f (get_or w₀ (n + v) nan)
    now v e = ap (λ (c : Bool). cond (c || listed v (take i elected)) zero_f (get_or w₀ (n + v) nan)) e

    at : (v : ℕ) → v < n → get_or (set w (n + get_or elected i 0) zero_f) (n + v) nan ≡ cond (listed v (take (i + 1) elected)) zero_f (get_or w₀ (n + v) nan)
    at v q =
        ⊎_elim
        (λ b. hit_d w (n + get_or elected i 0) zero_f (n + v) nan (omega (arith, eqb-true (get_or elected i 0) v b)) (omega (arith, S.frame.long)) ∙ sym (is v ∙ now v b))
        (λ b. miss_d w (n + get_or elected i 0) zero_f (n + v) nan (λ e. eqb-false (get_or elected i 0) v b (omega arith)) ∙ S.at v q ∙ sym (is v ∙ now v b))
        (bool_cases (eqb (get_or elected i 0) v))

-- ---- the first highest
pub highest_none : (s : ℕ → Float) → ◌≡◌ {A = ℕ} 0 (first_highest s 0)
unfolding first_highest
highest_none s = refl

-- v is the next one
pub highest_more : (s : ℕ → Float) (v b r : ℕ) → 1 ≤ v → b ≡ first_highest s (v - 1) → r ≡ cond (lt (s b) (s v)) v b → r ≡ first_highest s (v + 1 - 1)
unfolding first_highest
highest_more s zero b r l e q = absurd (omega arith)
highest_more s (suc k) b r l e q =
    let p : suc k - 1 ≡ k = omega arith in
    let n : suc k + 1 - 1 ≡ suc k = omega arith in
    rw n (q ∙ ap (λ (x : ℕ). cond (lt (s x) (s (suc k))) (suc k) x) (e ∙ ap (first_highest s) p))

pub highest_among : (s : ℕ → Float) (k : ℕ) → first_highest s k ≤ k
unfolding first_highest
highest_among s zero = omega arith
highest_among s (suc k) = ⊎_elim (λ b. rw b (omega arith)) (λ b. rw b (omega (arith, highest_among s k))) (bool_cases (lt (s (first_highest s k)) (s (suc k))))

pub highest_same : (s t : ℕ → Float) (k : ℕ) → ((v : ℕ) → v ≤ k → s v ≡ t v) → first_highest s k ≡ first_highest t k
unfolding first_highest
highest_same s t zero h = refl
highest_same s t (suc k) h =
    let b : first_highest s k ≡ first_highest t k = highest_same s t k (λ v l. h v (omega arith)) in
    cc (b, h (first_highest s k) (omega (arith, highest_among s k)), h (suc k) (omega arith))

-- ---- the neighbours
pub weaker_more : (decay : Float) (row : List ℕ) (w₀ w : List Float) (k u : ℕ) (x : Float) → k < length row → w ≡ foldl (weaker decay) w₀ (take k row)
    → u ≡ get_or row k 0 → x ≡ max_of (sub binary64 (get_or w u nan) decay) zero_f → set w u x ≡ foldl (weaker decay) w₀ (take (k + 1) row)
weaker_more decay row w₀ w k u x l e eu ex =
    ap (set w u) ex
    ∙ ap (weaker decay w) eu
    ∙ ap (λ (y : List Float). weaker decay y (get_or row k 0)) e
    ∙ sym
    (ap (λ (j : ℕ). foldl (weaker decay) w₀ (take j row)) (add-one k)
    ∙ ap (foldl (weaker decay) w₀) (take-suc row k 0 l)
    ∙ foldl-append (weaker decay) w₀ (take k row) (get_or row k 0 ∷ []))
