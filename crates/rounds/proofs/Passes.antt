-- Loops over the two vectors in the workspace: one over the edges that grows the next vector, and one over the nodes that rewrites both. Assumes nothing.
use mathlib.Core.Path.{◌≡◌, refl, sym, ap, ◌∙◌}
use mathlib.Core.Logic.{◌⊎◌, inl, inr}
use mathlib.Core.List.{List, foldl}
use Prim.Native.Nat.{ℕ, suc, ◌+◌, ◌≤◌, ◌<◌}
use native.Mathlib.Numerals.{add-one}
use native.Mathlib.Omega.{arith}
use lib.ListN.{length, get_or, set, drop, length-set}
use lib.Seq.{drop-length, get_or-set_same, get_or-set_other}
use lib.Ieee.{Float, nan, binary64, add, sub}
use Rattle.regions.specs.Region.{zero_f, list_of, Front}
use Rattle.regions.proofs.Cases.{same_or_not}
use Rattle.regions.proofs.Parts.{part_is}
use Rattle.regions.proofs.Fronts.{front_none, front_set, front_then}
use Rattle.graph.specs.Edges.{Edge, edge, edges_of}
use Rattle.graph.specs.Pres.{Sized}
use Rattle.graph.proofs.Edges.{edges_long, edges_from_lem}
use Rattle.rounds.specs.Rounds.{after}
use Rattle.rounds.specs.Vectors.{entry, squared, with_change, current_in, next_in, Vectors}
use Rattle.rounds.proofs.Rounds.{after_more}
use Rattle.rounds.proofs.Vectors.{current_at, next_at_lem}

-- ---- a loop over the edges: `grown x y e` is what the edge e makes of the next vector y, x being the current one
module _ (n : ℕ) (grown : List Float → List Float → Edge → List Float) (fs ts : List ℕ) (xs : List Float) (w : List Float) where
  -- all edges, from a next vector y
  abbrev pub grown_by : List Float → List Edge → List Float
  grown_by y es = foldl (grown (current_in n w)) y es

  -- after the first i edges: what the others make of the next vector is what all make of the first
  pub record Growing (i : ℕ) (w' : List Float) : Type 0 where
    pub front : Front w (n + n) w'
    pub current : current_in n w' ≡ current_in n w
    pub rest : grown_by (next_in n w') (drop i (edges_of fs ts xs)) ≡ grown_by (next_in n w) (edges_of fs ts xs)

  pub growing_none : Growing 0 w
  growing_none = record { front = front_none w (n + n); current = refl; rest = refl }

  pub growing_more : {i : ℕ} {w' w'' : List Float} → Sized fs ts xs → i < length fs → Growing i w'
      → Vectors n w' (current_in n w') (grown (current_in n w') (next_in n w') (edge i (get_or fs i 0) (get_or ts i 0) (get_or xs i nan))) w'' → Growing (i + 1) w''
  growing_more {i} {w'} {w''} s l g v =
      let e = edge i (get_or fs i 0) (get_or ts i 0) (get_or xs i nan) in
      record {
        front = front_then g.front v.front;
        current = v.current ∙ g.current;
        rest = ap (λ (k : ℕ). grown_by (next_in n w'') (drop k (edges_of fs ts xs))) (add-one i)
            ∙ ap (λ (y : List Float). grown_by y (drop (suc i) (edges_of fs ts xs))) (v.next ∙ ap (λ (x : List Float). grown x (next_in n w') e) g.current)
            ∙ sym (ap (grown_by (next_in n w')) (edges_from_lem fs ts xs i s l))
            ∙ g.rest;
      }

  pub growing_done : {i : ℕ} {w' : List Float} → Sized fs ts xs → i ≡ length fs → Growing i w' → Vectors n w (current_in n w) (grown_by (next_in n w) (edges_of fs ts xs)) w'
  growing_done {i} {w'} s e g =
      record {
        front = g.front;
        current = g.current;
        next = sym
            (ap (grown_by (next_in n w'))
            (ap (λ (k : ℕ). drop k (edges_of fs ts xs)) (e ∙ sym (edges_long fs ts xs s)) ∙ drop-length (edges_of fs ts xs)))
            ∙ g.rest;
      }

-- ---- a loop over the nodes: entry i becomes fx i in the current vector and fy i in the next
module _ (n : ℕ) (fx fy : ℕ → Float) (w : List Float) where
  -- after the first i nodes
  pub record Rewritten (i : ℕ) (w' : List Float) : Type 0 where
    pub front : Front w (n + n) w'
    pub current : (k : ℕ) → k < i → get_or w' (0 + k) nan ≡ fx k
    pub next : (k : ℕ) → k < i → get_or w' (n + k) nan ≡ fy k
    pub current_left : (k : ℕ) → i ≤ k → k < n → get_or w' k nan ≡ entry (current_in n w) k
    pub next_left : (k : ℕ) → i ≤ k → k < n → get_or w' (n + k) nan ≡ entry (next_in n w) k

  pub rewritten_none : Rewritten 0 w
  rewritten_none =
      record {
        front = front_none w (n + n);
        current = λ k h. absurd (omega arith);
        next = λ k h. absurd (omega arith);
        current_left = λ k l h. current_at n w k h;
        next_left = λ k l h. next_at_lem n w k h;
      }

  pub rewritten_more : {i : ℕ} {w' : List Float} {a b : Float} → n + n ≤ length w → i < n → a ≡ fx i → b ≡ fy i → Rewritten i w' → Rewritten (i + 1) (set (set w' i a) (n + i) b)
  rewritten_more {i} {w'} {a} {b} room l ea eb r =
      let u = set w' i a in
      let p : length w' ≡ length w = r.front.long in
      let q : length u ≡ length w = length-set w' i a ∙ p in
      record {
        front = front_set (n + i) b (front_set i a r.front (omega arith)) (omega arith);
        current = λ k h. get_or-set_other u (n + i) (0 + k) b nan (λ e. omega arith) ∙ first k h (same_or_not k i);
        next = λ k h. second q k h (same_or_not k i);
        current_left = λ k m h. get_or-set_other u (n + i) k b nan (λ e. omega arith) ∙ get_or-set_other w' i k a nan (λ e. omega arith) ∙ r.current_left k (omega arith) h;
        next_left = λ k m h. get_or-set_other u (n + i) (n + k) b nan (λ e. omega arith) ∙ get_or-set_other w' i (n + k) a nan (λ e. omega arith) ∙ r.next_left k (omega arith) h;
      }
    where
      first : (k : ℕ) → k < i + 1 → (k ≡ i) ⊎ (k ≡ i → ⊥) → get_or (set w' i a) (0 + k) nan ≡ fx k
      first k h (inl e) =
          let z : 0 + k ≡ i = omega arith in
          ap (λ (j : ℕ). get_or (set w' i a) j nan) z ∙ get_or-set_same w' i a nan (omega (arith, r.front.long)) ∙ ea ∙ ap fx (sym e)
      first k h (inr e) = get_or-set_other w' i (0 + k) a nan (λ z. e (omega arith)) ∙ r.current k (omega arith)

      second : length (set w' i a) ≡ length w → (k : ℕ) → k < i + 1 → (k ≡ i) ⊎ (k ≡ i → ⊥) → get_or (set (set w' i a) (n + i) b) (n + k) nan ≡ fy k
      second q k h (inl e) =
          ap (λ (j : ℕ). get_or (set (set w' i a) (n + i) b) (n + j) nan) e ∙ get_or-set_same (set w' i a) (n + i) b nan (omega arith) ∙ eb ∙ ap fy (sym e)
      second q k h (inr e) =
          get_or-set_other (set w' i a) (n + i) (n + k) b nan (λ z. e (omega arith)) ∙ get_or-set_other w' i (n + k) a nan (λ z. omega arith) ∙ r.next k (omega arith)

  pub rewritten_done : {i : ℕ} {w' : List Float} → n + n ≤ length w → i ≡ n → Rewritten i w' → Vectors n w (list_of fx n) (list_of fy n) w'
  rewritten_done {i} {w'} room e r =
      record {
        front = r.front;
        current = part_is nan w' 0 n fx (omega (arith, r.front.long)) (λ k l. r.current k (omega arith));
        next = part_is nan w' n n fy (omega (arith, r.front.long)) (λ k l. r.next k (omega arith));
      }

-- the sum with the change of one entry more: a is the entry i of y, and b that of x
pub change_more : (x y : List Float) (i : ℕ) {sum a b : Float} → a ≡ entry y i → b ≡ entry x i → sum ≡ after (with_change x y) i zero_f
    → add binary64 sum (squared (sub binary64 a b)) ≡ after (with_change x y) (i + 1) zero_f
change_more x y i {sum} {a} {b} ea eb es =
    ap (λ (v : Float). add binary64 sum (squared (sub binary64 v b))) ea
    ∙ ap (λ (v : Float). add binary64 sum (squared (sub binary64 (entry y i) v))) eb
    ∙ after_more (with_change x y) i zero_f sum es
