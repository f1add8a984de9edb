-- How a degree call ends: what its steps leave is the outcome. Assumes nothing.
use mathlib.Core.Path.{◌≡◌, sym, ap, ◌∙◌}
use mathlib.Core.Bool.{Bool, true, false, cond}
use mathlib.Core.List.{List, [], foldl}
use Prim.Native.Nat.{ℕ, ◌+◌, ◌≤◌, ◌<◌}
use native.Mathlib.Omega.{arith}
use borrow.Author.Tests.{ltb-false}
use lib.Dec.{ltb}
use lib.IntN.{pos}
use lib.ListN.{length, get_or, take}
use lib.Seq.{take-length}
use lib.Ieee.{Float, binary64, nan, of_int}
use Rattle.regions.specs.Region.{over, list_of, cleared, zero_f}
use Rattle.regions.proofs.Fronts.{list_long, cleared_none}
use Rattle.regions.proofs.Parts.{list_at_lem, over_is}
use Rattle.answers.specs.Answers.{done}
use Rattle.graph.specs.Fronts.{no_fronts}
use Rattle.graph.specs.Given.{Given, edges_in}
use Rattle.graph.specs.Left.{left, wiped_by}
use Rattle.graph.specs.Pres.{Passed, Sound}
use Rattle.graph.specs.Refusals.{Tests, ends_tests}
use Rattle.graph.proofs.Checks.{or_left}
use Rattle.graph.proofs.Left.{went_on}
use Rattle.graph.proofs.Refusals.{sound}
use Rattle.degree.specs.Degree.{end_score, end_scores, ends_outcome}
use Rattle.degree.specs.Tally.{plus_one, tally, in_turn, pair_tally, TallyPre}
use Rattle.degree.proofs.Counting.{count_in, Counts, counts_none, count_all, in_turn_count, in_turn_long, in_turn_inside, ends_counted}

-- the rows of the table that can hold of a degree call
abbrev pub tests : Given (List Float) → Tests
tests g = ends_tests g.nodes g.from g.to g.weight false false (ltb (length g.results) g.nodes)

module _ (g : Given (List Float)) (ok : Passed (tests g)) where
  fine : Sound g.nodes g.from g.to g.weight
  fine = sound g.nodes g.from g.to g.weight ok.size (or_left _ false ok.node)

  pub fits : g.nodes ≤ length g.results
  fits = ltb-false _ _ ok.room

  ends_to : (i : ℕ) → i < length g.to → get_or g.to i 0 < g.nodes
  ends_to i l = fine.ends.tos i (omega (arith, fine.sized.tos))

  -- w holds the numbers of ends that count: it is what the call leaves
  counted : (froms tos : Bool) (c : ℕ → ℕ) (w : List Float) → ((v : ℕ) → c v ≡ count_in v (cond froms g.from []) + count_in v (cond tos g.to [])) → Counts g.results g.nodes c w
      → left (done (tt {0})) w g.w32 g.w64 g.wf ≡ ends_outcome froms tos g
  unfolding ends_outcome end_scores
  counted froms tos c w h C =
      let n : length (list_of (end_score froms tos (edges_in g)) g.nodes) ≡ g.nodes = list_long (end_score froms tos (edges_in g)) g.nodes in
      let scored : w ≡ over (end_scores froms tos g) g.results =
      over_is nan (list_of (end_score froms tos (edges_in g)) g.nodes) g.results w (omega (arith, n, fits)) C.front.long
      (λ i l.
      let k : i < g.nodes = omega (arith, n) in
      C.at i k ∙ ap (λ (x : ℕ). of_int binary64 (pos x)) (h i ∙ sym (ends_counted froms tos g.from g.to g.weight i fine.sized)) ∙ sym (list_at_lem (end_score froms tos (edges_in g)) g.nodes nan i k))
      (λ j l. C.front.rest nan j (omega (arith, n))) in
      let x = cleared_none 0 g.w32 in
      let y = cleared_none 0 g.w64 in
      let z = cleared_none zero_f g.wf in
      let did : left (done (tt {0})) w g.w32 g.w64 g.wf ≡ wiped_by no_fronts g (done (tt {0})) (over (end_scores froms tos g) g.results) = cc (x, y, z, scored) in
      did ∙ went_on g (tests g) (wiped_by no_fronts g (done (tt {0})) (over (end_scores froms tos g) g.results)) ok

  -- w is cleared
  module _ (w : List Float) (e : w ≡ cleared zero_f g.nodes g.results) where
    begun : Counts g.results g.nodes (λ _. 0) w
    begun = rw e (counts_none g.results g.nodes fits)

    -- what the walks ask: every end has a score
    pub froms_pre : TallyPre g.from (length g.from) w
    froms_pre = record { some = omega arith; inside = λ i l. omega (arith, fine.ends.froms i l, fits, begun.front.long) }

    pub tos_pre : TallyPre g.to (length g.to) w
    tos_pre = record { some = omega arith; inside = λ i l. omega (arith, ends_to i l, fits, begun.front.long) }

    pub pairs_pre : TallyPre g.from (length g.from) w × TallyPre g.to (length g.from) w
    pairs_pre = (froms_pre, record { some = omega (arith, fine.sized.tos); inside = λ i l. omega (arith, fine.ends.tos i l, fits, begun.front.long) })

    -- a walk over ends that are nodes
    walked : (es : List ℕ) (w2 : List Float) → ((i : ℕ) → i < length es → get_or es i 0 < g.nodes) → length es ≤ 65536 → w2 ≡ foldl plus_one w es → Counts g.results g.nodes (λ v. 0 + count_in v es) w2
    walked es w2 h few q = rw q (count_all g.results g.nodes fits es (λ _. 0) w h (λ v. omega arith) begun)

    whole : (es : List ℕ) (w2 : List Float) → w2 ≡ tally es (length es) w → w2 ≡ foldl plus_one w es
    unfolding tally
    whole es w2 q = q ∙ ap (foldl plus_one w) (take-length es)

    whole_pairs : (w2 : List Float) → w2 ≡ pair_tally g.from g.to (length g.from) w → w2 ≡ foldl plus_one w (in_turn g.from g.to)
    unfolding pair_tally
    whole_pairs w2 q =
        q
        ∙ ap (λ (l : List ℕ). foldl plus_one w (in_turn l (take (length g.from) g.to))) (take-length g.from)
        ∙ ap (λ (l : List ℕ). foldl plus_one w (in_turn g.from l)) (ap (λ (k : ℕ). take k g.to) (sym fine.sized.tos) ∙ take-length g.to)

    pub both_ended : {froms tos : Bool} (w2 : List Float) → froms ≡ true → tos ≡ true → w2 ≡ pair_tally g.from g.to (length g.from) w → left (done (tt {0})) w2 g.w32 g.w64 g.wf ≡ ends_outcome froms tos g
    both_ended w2 f t q =
        rw (f, t)
        (counted true true (λ v. 0 + count_in v (in_turn g.from g.to)) w2 (λ v. omega (arith, in_turn_count v g.from g.to fine.sized.tos))
        (walked (in_turn g.from g.to) w2 (in_turn_inside g.nodes g.from g.to fine.ends.froms ends_to) (omega (arith, in_turn_long g.from g.to, fine.limits.edges)) (whole_pairs w2 q)))

    pub froms_ended : {froms tos : Bool} (w2 : List Float) → froms ≡ true → tos ≡ false → w2 ≡ tally g.from (length g.from) w → left (done (tt {0})) w2 g.w32 g.w64 g.wf ≡ ends_outcome froms tos g
    froms_ended w2 f t q =
        rw (f, t)
        (counted true false (λ v. 0 + count_in v g.from) w2 (λ v. omega arith) (walked g.from w2 fine.ends.froms (omega (arith, fine.limits.edges)) (whole g.from w2 q)))

    pub tos_ended : {froms tos : Bool} (w2 : List Float) → froms ≡ false → tos ≡ true → w2 ≡ tally g.to (length g.to) w → left (done (tt {0})) w2 g.w32 g.w64 g.wf ≡ ends_outcome froms tos g
    tos_ended w2 f t q =
        rw (f, t)
        (counted false true (λ v. 0 + count_in v g.to) w2 (λ v. omega arith) (walked g.to w2 ends_to (omega (arith, fine.limits.edges, fine.sized.tos)) (whole g.to w2 q)))

    pub none_ended : {froms tos : Bool} → froms ≡ false → tos ≡ false → left (done (tt {0})) w g.w32 g.w64 g.wf ≡ ends_outcome froms tos g
    none_ended f t = rw (f, t) (counted false false (λ _. 0) w (λ v. omega arith) begun)
