-- The rounds of `pagerank`: what a node does and adds to the dangling sum, the move of the next vector, and a round as it is defined. Assumes nothing.
use Rattle.std.proofs.Common.{◌≡◌, ℕ, zero, suc, ◌+◌, ◌*◌, ◌<◌, ◌≤◌, Bool, true, false, ◌&&◌, List, [], ◌∷◌, length, get_or, set, sym, refl, ap, ◌∙◌, true≢false, zero-add, arith}
use mathlib.Core.List.{foldl}
use borrow.Author.Tests.{not-true}
use Rattle.std.specs.List.{list_all}
use lib.Ieee.{Float, nan, binary64, of_bits, add, sub, mul, div, lt, eq, ne}
use Rattle.regions.specs.Doubles.{double, one}
use Rattle.regions.specs.Region.{zero_f, list_of, Front, Filled, Copied}
use Rattle.regions.proofs.Frames.{frame_front, frame_part, filled_part, copied_none, copied_more}
use Rattle.rounds.specs.Rounds.{after, round}
use Rattle.rounds.specs.Vectors.{entry, current_in, next_in, Vectors}
use Rattle.rounds.proofs.Vectors.{vectors_then, vectors_are, current_at, next_at_lem}
use Rattle.links.specs.Links.{Links, links_in, shares_in, outs_in, gives, settles, with_change, absolute_change}
use Rattle.rounds.specs.Steps.{RoundDone}
use Rattle.links.specs.Steps.{LinksPre, Advanced}
use Rattle.links.proofs.Turns.{vectors_none, links_kept, out_at, distributed, outs_kept}
use Rattle.links.proofs.Rounds.{pre_kept, advanced_round}
use Rattle.pagerank.specs.PageRank.{dangling_sum, pagerank_base, pagerank_node, pagerank_next, pagerank_step, dangles, with_dangling}
use Rattle.roots.specs.Absolute.{abs_of}
use Rattle.regions.proofs.Parts.{part_long, part_is, part_list}
use Rattle.rounds.proofs.Rounds.{after_none, after_more}
use Rattle.pagerank.specs.Steps.{NoneDangles}

-- ---- one node
module _ (n : ℕ) (w : List ℕ) (d : Float) (v : ℕ) (wf : List Float) (l : v < n) where
  abbrev Node : List Float → Type 0
  Node wf' = Vectors n wf (current_in n wf) (pagerank_node (links_in n w wf) d (current_in n wf) v (next_in n wf)) wf'

  pub node_gives : {wf' : List Float} → lt zero_f (get_or wf (2 * n + v) nan) ≡ true
      → Vectors n wf (current_in n wf) (foldl (gives (div binary64 (mul binary64 d (get_or wf v nan)) (get_or wf (2 * n + v) nan))) (next_in n wf) (shares_in n w wf v)) wf' → Node wf'
  unfolding pagerank_node
  node_gives t s =
      let b : lt zero_f (entry (outs_in n wf) v) ≡ true = ap (lt zero_f) (sym (out_at n wf v l)) ∙ t in
      rw b (distributed n w d v wf l s)

  pub node_keeps : lt zero_f (get_or wf (2 * n + v) nan) ≡ false → Node wf
  unfolding pagerank_node
  node_keeps t =
      let b : lt zero_f (entry (outs_in n wf) v) ≡ false = ap (lt zero_f) (sym (out_at n wf v l)) ∙ t in
      rw b (vectors_none n wf refl)

-- what a node adds to the dangling sum
pub dangling_at : (n : ℕ) (wf : List Float) (i : ℕ) (sum : Float) → i < n → dangles (get_or wf (2 * n + i) nan) (get_or wf i nan) sum ≡ with_dangling (outs_in n wf) (current_in n wf) i sum
dangling_at n wf i sum l =
    ap (λ (z : Float). dangles z (get_or wf i nan) sum) (out_at n wf i l)
    ∙ ap (λ (z : Float). dangles (entry (outs_in n wf) i) z sum) (current_at n wf i l)

pub dangling_yes : (out x sum : Float) → eq out zero_f ≡ true → add binary64 sum x ≡ dangles out x sum
dangling_yes out x sum e = rw e

pub dangling_no : (out x sum : Float) → eq out zero_f ≡ false → sum ≡ dangles out x sum
dangling_no out x sum e = rw e

-- where no node dangles the dangling sum is what it begins with
pub none_sum : (outs x : List Float) (n : ℕ) → ((i : ℕ) → i < n → eq (entry outs i) zero_f ≡ false) → zero_f ≡ dangling_sum n outs x
unfolding dangling_sum after
none_sum outs x zero h = refl
none_sum outs x (suc n) h = none_sum outs x n (λ i l. h i (omega arith)) ∙ dangling_no (entry outs n) (entry x n) (after (with_dangling outs x) n zero_f) (h n (omega arith))

and_both : (a b : Bool) → (a && b) ≡ true → (a ≡ true) × (b ≡ true)
and_both true b e = (refl, e)
and_both false b e = absurd (true≢false (sym e))

-- no entry of a list of which all are tested is zero
all_at : (xs : List Float) → list_all (λ x. ne x (of_bits binary64 0)) xs ≡ true → (i : ℕ) → i < length xs → eq (get_or xs i nan) zero_f ≡ false
unfolding of_bits ne
all_at [] e i l = absurd (omega arith)
all_at (x ∷ xs) e zero l = not-true _ (and_both _ _ e).0
all_at (x ∷ xs) e (suc i) l = all_at xs (and_both _ _ e).1 i (omega arith)

-- all out-weights were tested
pub all_dangle_not : (n : ℕ) (wf xs : List Float) → 4 * n ≤ length wf → xs ≡ outs_in n wf → {none : Bool} → none ≡ list_all (λ x. ne x (of_bits binary64 0)) xs → NoneDangles n none (outs_in n wf)
all_dangle_not n wf xs room q {none} e =
    rw (← q) (record { sure = λ t i l. all_at xs (sym e ∙ t) i (omega (arith, ap length q, part_long wf (2 * n) n (omega arith))) })

-- the out-weights are as they were
pub none_kept : (n : ℕ) (w : List ℕ) {none : Bool} {wf wf' : List Float} → 4 * n ≤ length wf → Front wf (n + n) wf' → NoneDangles n none (outs_in n wf) → NoneDangles n none (outs_in n wf')
none_kept n w room front s = record { sure = λ e i l. ap (λ (o : List Float). eq (entry o i) zero_f) (outs_kept n w room front) ∙ s.sure e i l }

-- ---- `advance`
-- after i nodes
pub record Advancing (n : ℕ) (wf₀ : List Float) (i : ℕ) (change : Float) (wf : List Float) : Type 0 where
  pub copied : Copied wf₀ n wf₀ 0 i wf
  pub change_is : change ≡ after (with_change (current_in n wf₀) (next_in n wf₀)) i zero_f

module _ (n : ℕ) (wf₀ : List Float) (room : 4 * n ≤ length wf₀) where
  pub advancing_none : Advancing n wf₀ 0 zero_f wf₀
  advancing_none =
      record {
        copied = copied_none wf₀ n wf₀ 0;
        change_is = after_none (with_change (current_in n wf₀) (next_in n wf₀)) zero_f;
      }

  module _ (i : ℕ) (change : Float) (wf : List Float) (l : i < n) (s : Advancing n wf₀ i change wf) where
    left : (j : ℕ) → i ≤ j → get_or wf j nan ≡ get_or wf₀ j nan
    left j h = s.copied.frame.rest nan j (λ p q. omega arith)

    x_is : get_or wf i nan ≡ entry (current_in n wf₀) i
    x_is = left i (omega arith) ∙ current_at n wf₀ i l

    y_is : get_or wf (n + i) nan ≡ entry (next_in n wf₀) i
    y_is = left (n + i) (omega arith) ∙ next_at_lem n wf₀ i l

    pub advancing_more : {a : Float} → a ≡ abs_of (sub binary64 (get_or wf i nan) (get_or wf (n + i) nan))
        → Advancing n wf₀ (i + 1) (add binary64 change a) (set wf i (get_or wf (n + i) nan))
    advancing_more {a} ea =
        record {
          copied = rw (zero-add i) at (copied_more nan (get_or wf (n + i) nan) s.copied (omega arith) (omega arith) (left (n + i) (omega arith)));
          change_is =
              ap (λ (z : Float). add binary64 change z) (ea ∙ ap (λ (z : Float). abs_of (sub binary64 z (get_or wf (n + i) nan))) x_is ∙ ap (λ (z : Float). abs_of (sub binary64 (entry (current_in n wf₀) i) z)) y_is)
              ∙ after_more (with_change (current_in n wf₀) (next_in n wf₀)) i zero_f change s.change_is;
        }

  pub advancing_done : (i : ℕ) (change : Float) (wf : List Float) → i ≡ n → Advancing n wf₀ i change wf → Advanced n wf₀ change wf
  unfolding absolute_change
  advancing_done i change wf e s =
      record {
        front = frame_front (n + n) (omega arith) s.copied.frame;
        current = part_is nan wf 0 n (λ k. get_or wf₀ (n + k) nan) (omega (arith, s.copied.frame.long)) (λ k h. s.copied.at nan k (omega arith)) ∙ part_list nan wf₀ n n (omega arith);
        changed = s.change_is ∙ ap (λ (k : ℕ). after (with_change (current_in n wf₀) (next_in n wf₀)) k zero_f) e;
      }

-- ---- one round
pub pagerank_is : (l : Links) (d tolerance : Float) (x : List Float) → pagerank_step l d tolerance x ≡ round (pagerank_next l d x) (settles tolerance l.nodes x (pagerank_next l d x))
unfolding pagerank_step
pagerank_is l d tolerance x = refl

pub filled_vectors : (n : ℕ) {wf wf' : List Float} {b : Float} → n + n ≤ length wf → Filled wf n n b wf' → Vectors n wf (current_in n wf) (list_of (λ _. b) n) wf'
filled_vectors n room f =
    record {
      front = frame_front (n + n) (omega arith) f.frame;
      current = frame_part nan 0 n f.frame (omega arith) (λ i k p q. omega arith);
      next = filled_part f room;
    }

module _ (n : ℕ) (w : List ℕ) (d : Float) (wf : List Float) (pre : LinksPre n w wf) where
  module _ {wf1 : List Float} {dangling base : Float} (ed : dangling ≡ dangling_sum n (outs_in n wf) (current_in n wf)) (eb : base ≡ pagerank_base n d dangling) (f : Filled wf n n base wf1) where
    begun : Vectors n wf (current_in n wf) (list_of (λ _. base) n) wf1
    begun = filled_vectors n (omega (arith, pre.room)) f

    pub spread_pre : LinksPre n w wf1
    spread_pre = pre_kept n w pre begun.front

    pub round_done : (tolerance : Float) {wf2 wf3 : List Float} {change bound : Float} → Vectors n wf1 (current_in n wf1) (after (pagerank_node (links_in n w wf1) d (current_in n wf1)) n (next_in n wf1)) wf2 → Advanced n wf2 change wf3
        → bound ≡ mul binary64 tolerance (double n) → RoundDone n (pagerank_step (links_in n w wf) d tolerance) wf (lt change bound) wf3
    unfolding pagerank_next
    round_done tolerance s a =
        advanced_round n (pagerank_next (links_in n w wf) d) (pagerank_step (links_in n w wf) d tolerance) tolerance (pagerank_is (links_in n w wf) d tolerance)
        (vectors_then begun
        (vectors_are begun.current
        (ap (λ (l : Links). after (pagerank_node l d (current_in n wf1)) n (next_in n wf1)) (links_kept n w pre.room begun.front)
        ∙ ap (λ (x : List Float). after (pagerank_node (links_in n w wf) d x) n (next_in n wf1)) begun.current
        ∙ ap (after (pagerank_node (links_in n w wf) d (current_in n wf)) n) begun.next
        ∙ ap (λ (b : Float). after (pagerank_node (links_in n w wf) d (current_in n wf)) n (list_of (λ _. b) n)) (eb ∙ ap (pagerank_base n d) ed))
        s))
        a

-- q is n in its nearest double
pub base_is : (n : ℕ) (d dangling : Float) {q : Float} → q ≡ double n → add binary64 (div binary64 (sub binary64 one d) q) (mul binary64 dangling (div binary64 d q)) ≡ pagerank_base n d dangling
unfolding pagerank_base
base_is n d dangling e = rw e

-- ---- rounds
-- what a round asks of the floats, and that it reads the links that the first one read
pub record Ready (n : ℕ) (none : Bool) (w : List ℕ) (wf₀ wf : List Float) : Type 0 where
  pub pre : LinksPre n w wf
  pub dangles_none : NoneDangles n none (outs_in n wf)
  pub links_same : links_in n w wf ≡ links_in n w wf₀

-- a round keeps that
pub ready_kept : (n : ℕ) (none : Bool) (w : List ℕ) (wf₀ : List Float) (d tolerance : Float) {wf wf' : List Float} {met : Bool} → Ready n none w wf₀ wf
    → RoundDone n (pagerank_step (links_in n w wf) d tolerance) wf met wf' → RoundDone n (pagerank_step (links_in n w wf₀) d tolerance) wf met wf' × Ready n none w wf₀ wf'
ready_kept n none w wf₀ d tolerance {wf} {wf'} {met} s r = (
  rw s.links_same at r,
  record {
    pre = pre_kept n w s.pre r.front;
    dangles_none = none_kept n w s.pre.room r.front s.dangles_none;
    links_same = links_kept n w s.pre.room r.front ∙ s.links_same;
  },
)
