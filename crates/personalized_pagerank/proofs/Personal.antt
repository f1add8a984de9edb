-- The rounds of `personalized_pagerank`: its turns over the workspace, a round as it is defined, and how the call begins and ends. Assumes nothing.
use Rattle.std.proofs.Common.{◌≡◌, ℕ, ◌+◌, ◌*◌, ◌<◌, ◌≤◌, Bool, true, false, cond, eqb, ltb, List, [], length, get_or, set, sym, refl, ap, ◌∙◌, true≢false, arith}
use mathlib.Core.List.{foldl}
use lib.Ieee.{Float, nan, binary64, add, sub, mul, div, lt}
use Rattle.regions.specs.Doubles.{double, one}
use Rattle.roots.specs.Absolute.{abs_of}
use Rattle.regions.specs.Region.{zero_f, list_of, Front, Copied, Apart}
use Rattle.regions.proofs.Parts.{part_at, part_is, part_list}
use Rattle.regions.proofs.Fronts.{miss_d, front_then, front_wide}
use Rattle.regions.proofs.Frames.{frame_front, frame_part}
use Rattle.std.specs.Prelude.{Result}
use Rattle.answers.specs.declared.Refusal.{Refusal}
use Rattle.answers.specs.declared.Settings.{Settings}
use Rattle.answers.specs.declared.Rounds.{Rounds}
use Rattle.answers.specs.Answers.{Said, refused_if}
use Rattle.graph.specs.declared.Fronts.{Fronts}
use Rattle.graph.specs.Fronts.{usual_fronts}
use Rattle.graph.specs.Given.{Given, graph_in}
use Rattle.graph.specs.Left.{Left}
use Rattle.graph.specs.Pres.{Ready, Passed}
use Rattle.graph.specs.Refusals.{first_refusal}
use Rattle.graph.proofs.Left.{went_on}
use Rattle.lists.specs.Lists.{Share}
use Rattle.rounds.specs.Rounds.{after, Round, round, outcome}
use Rattle.rounds.specs.declared.Own.{Own}
use Rattle.rounds.specs.Steps.{RoundDone, RoundsDone}
use Rattle.rounds.specs.Tests.{reads_wrong, length_wrong, own_tests}
use Rattle.rounds.specs.Ending.{scored}
use Rattle.rounds.specs.Vectors.{entry, current_in, next_in, Vectors}
use Rattle.rounds.proofs.Rounds.{after_more}
use Rattle.rounds.proofs.Vectors.{current_at, next_at_lem, next_set, next_list, vectors_are}
use Rattle.rounds.proofs.Passes.{Rewritten, rewritten_done}
use Rattle.rounds.proofs.Tests.{checked, iterative_ready, iterative_fits, length_right}
use Rattle.links.specs.Links.{Links, links_of, links_in, shares_in, outs_in, gives, sum_of, divisor_of, divided_at, divided, settles, with_change, absolute_change}
use Rattle.links.specs.Steps.{Prepared, written_by, DividePre, Divided, Advanced}
use Rattle.links.proofs.Turns.{region_kept, shares_kept, links_kept, out_at, distributed, nodes_more}
use Rattle.links.proofs.Rounds.{advanced_round, links_pre_long, pre_kept}
use Rattle.links.proofs.Ending.{written}
use Rattle.personalized_pagerank.specs.Personalized.{personal_in, personal_base, gains_part, spreads_personal, personal_node, personal_next, personal_step, counts_of, personal_of, personal_rounds, damping_wrong, personal_own, personal_tests, personalized_outcome}
use Rattle.personalized_pagerank.specs.Steps.{bases_in, RoundPre, PersonalPre, PersonalBegun}

-- ---- the personalization in the workspace
pub personal_at_lem : (n : ℕ) (wf : List Float) (j : ℕ) → j < n → get_or wf (3 * n + j) nan ≡ entry (personal_in n wf) j
personal_at_lem n wf j l = sym (part_at wf (3 * n) n nan j l)

pub personal_kept : (n : ℕ) {wf wf' : List Float} → 4 * n ≤ length wf → Front wf (n + n) wf' → personal_in n wf' ≡ personal_in n wf
personal_kept n {wf} room front = region_kept n [] room front (3 * n) (omega arith) (omega arith)

-- ---- `dangle`
module _ (n : ℕ) (c : Float) (wf₀ : List Float) (room : 4 * n ≤ length wf₀) where
  pub dangle_more : (j : ℕ) (wf : List Float) → j < n → Vectors n wf₀ (current_in n wf₀) (after (gains_part c (personal_in n wf₀)) j (next_in n wf₀)) wf
      → Vectors n wf₀ (current_in n wf₀) (after (gains_part c (personal_in n wf₀)) (j + 1) (next_in n wf₀)) (set wf (n + j) (add binary64 (get_or wf (n + j) nan) (mul binary64 c (get_or wf (3 * n + j) nan))))
  dangle_more j wf l s =
      let v = add binary64 (get_or wf (n + j) nan) (mul binary64 c (get_or wf (3 * n + j) nan)) in
      nodes_more n (gains_part c (personal_in n wf₀)) wf₀ s (next_set n wf j v (omega (arith, s.front.long)) l) refl
      (ap (λ (z : Float). set (next_in n wf) j (add binary64 z (mul binary64 c (get_or wf (3 * n + j) nan)))) (next_at_lem n wf j l)
      ∙ ap (λ (z : Float). set (next_in n wf) j (add binary64 (entry (next_in n wf) j) (mul binary64 c z))) (personal_at_lem n wf j l)
      ∙ ap (λ (p : List Float). gains_part c p j (next_in n wf)) (personal_kept n room s.front))

-- ---- one node
module _ (n : ℕ) (w : List ℕ) (d : Float) (v : ℕ) (wf : List Float) (l : v < n) where
  abbrev Node : List Float → Type 0
  Node wf' = Vectors n wf (current_in n wf) (personal_node (links_in n w wf) d (personal_in n wf) (current_in n wf) v (next_in n wf)) wf'

  pub personal_gives : {wf' : List Float} → lt zero_f (get_or wf (2 * n + v) nan) ≡ true
      → Vectors n wf (current_in n wf) (foldl (gives (div binary64 (mul binary64 d (get_or wf v nan)) (get_or wf (2 * n + v) nan))) (next_in n wf) (shares_in n w wf v)) wf' → Node wf'
  unfolding personal_node
  personal_gives t s =
      let b : lt zero_f (entry (outs_in n wf) v) ≡ true = ap (lt zero_f) (sym (out_at n wf v l)) ∙ t in
      rw b (distributed n w d v wf l s)

  pub personal_dangles : {wf' : List Float} → lt zero_f (get_or wf (2 * n + v) nan) ≡ false
      → Vectors n wf (current_in n wf) (after (gains_part (mul binary64 d (get_or wf v nan)) (personal_in n wf)) n (next_in n wf)) wf' → Node wf'
  unfolding personal_node spreads_personal
  personal_dangles t s =
      let b : lt zero_f (entry (outs_in n wf) v) ≡ false = ap (lt zero_f) (sym (out_at n wf v l)) ∙ t in
      rw b (vectors_are refl (ap (λ (x : Float). after (gains_part (mul binary64 d x) (personal_in n wf)) n (next_in n wf)) (current_at n wf v l)) s)

-- ---- `advance`
module _ (n : ℕ) (d : Float) (wf₀ : List Float) where
  abbrev pub moving : ℕ → Float → Float
  moving = with_change (current_in n wf₀) (next_in n wf₀)

  -- the base of another round, read after the entry i of the current vector was written
  pub base_again : {wf : List Float} (i : ℕ) (a : Float) → i < n → Front wf₀ (n + n) wf
      → add binary64 zero_f (mul binary64 (sub binary64 one d) (get_or (set wf i a) (3 * n + i) nan)) ≡ personal_base d (personal_in n wf₀) i
  base_again {wf} i a l front =
      ap (λ (z : Float). add binary64 zero_f (mul binary64 (sub binary64 one d) z))
      (miss_d wf i a (3 * n + i) nan (λ e. omega arith) ∙ front.rest nan (3 * n + i) (omega arith) ∙ personal_at_lem n wf₀ i l)

  -- x and y are the entries i of the two vectors, a their difference without its sign
  pub change_again : (i : ℕ) {change a x y : Float} → a ≡ abs_of (sub binary64 x y) → x ≡ entry (current_in n wf₀) i → y ≡ entry (next_in n wf₀) i → change ≡ after moving i zero_f
      → add binary64 change a ≡ after moving (i + 1) zero_f
  change_again i {change} {a} {x} {y} ea ex ey e =
      ap (add binary64 change) (ea ∙ ap (λ (z : Float). abs_of (sub binary64 z y)) ex ∙ ap (λ (z : Float). abs_of (sub binary64 (entry (current_in n wf₀) i) z)) ey)
      ∙ after_more moving i zero_f change e

  pub renewed : {i : ℕ} {change : Float} {wf : List Float} → 4 * n ≤ length wf₀ → i ≡ n → Rewritten n (entry (next_in n wf₀)) (personal_base d (personal_in n wf₀)) wf₀ i wf → change ≡ after moving i zero_f
      → Advanced n wf₀ change wf × (next_in n wf ≡ bases_in n d wf₀)
  unfolding absolute_change
  renewed room e r s =
      let v = rewritten_done n (entry (next_in n wf₀)) (personal_base d (personal_in n wf₀)) wf₀ (omega arith) e r in (
        record { front = v.front; current = v.current ∙ next_list n wf₀ (omega arith); changed = s ∙ ap (λ (k : ℕ). after moving k zero_f) e },
        v.next,
      )

-- ---- one round
pub bases_kept : (n : ℕ) (d : Float) {wf wf' : List Float} → 4 * n ≤ length wf → Front wf (n + n) wf' → bases_in n d wf' ≡ bases_in n d wf
bases_kept n d room front = ap (λ (p : List Float). list_of (personal_base d p) n) (personal_kept n room front)

pub personal_is : (l : Links) (d tolerance : Float) (p x : List Float) → personal_step l d tolerance p x ≡ round (personal_next l d p x) (settles tolerance l.nodes x (personal_next l d p x))
unfolding personal_step
personal_is l d tolerance p x = refl

module _ (n : ℕ) (w : List ℕ) (d : Float) (wf : List Float) (pre : RoundPre n w d wf) where
  pub personal_round_done : (tolerance : Float) {wf2 wf3 : List Float} {change bound : Float}
      → Vectors n wf (current_in n wf) (after (personal_node (links_in n w wf) d (personal_in n wf) (current_in n wf)) n (next_in n wf)) wf2 → Advanced n wf2 change wf3 × (next_in n wf3 ≡ bases_in n d wf2)
      → bound ≡ mul binary64 tolerance (double n)
      → RoundDone n (personal_step (links_in n w wf) d tolerance (personal_in n wf)) wf (lt change bound) wf3 × (next_in n wf3 ≡ bases_in n d wf)
  unfolding personal_next
  personal_round_done tolerance s a eb = (
    advanced_round n (personal_next (links_in n w wf) d (personal_in n wf)) (personal_step (links_in n w wf) d tolerance (personal_in n wf)) tolerance (personal_is (links_in n w wf) d tolerance (personal_in n wf))
        (vectors_are refl (ap (after (personal_node (links_in n w wf) d (personal_in n wf) (current_in n wf)) n) pre.begun) s)
        a.0
        eb,
    a.1 ∙ bases_kept n d pre.links.room s.front,
  )

-- ---- rounds
-- what a round asks of the floats, and that it reads the links and the personalization that the first one read
pub record Asked (n : ℕ) (w : List ℕ) (d : Float) (wf₀ wf : List Float) : Type 0 where
  pub pre : RoundPre n w d wf
  pub links_same : links_in n w wf ≡ links_in n w wf₀
  pub personal_same : personal_in n wf ≡ personal_in n wf₀

-- a round keeps that
pub asked_kept : (n : ℕ) (w : List ℕ) (d tolerance : Float) (wf₀ : List Float) {wf wf' : List Float} {met : Bool} → Asked n w d wf₀ wf
    → RoundDone n (personal_step (links_in n w wf) d tolerance (personal_in n wf)) wf met wf' × (next_in n wf' ≡ bases_in n d wf)
    → RoundDone n (personal_step (links_in n w wf₀) d tolerance (personal_in n wf₀)) wf met wf' × Asked n w d wf₀ wf'
asked_kept n w d tolerance wf₀ {wf} {wf'} {met} s r =
    let room = s.pre.links.room in
    let front = r.0.front in (
      rw (s.links_same, s.personal_same) at r.0,
      record {
        pre = record { links = pre_kept n w s.pre.links front; begun = r.1 ∙ sym (bases_kept n d room front) };
        links_same = links_kept n w room front ∙ s.links_same;
        personal_same = personal_kept n room front ∙ s.personal_same;
      },
    )

-- ---- `begin`
module _ (n : ℕ) (damping : Float) (flag : Bool) (xs wf : List Float) (pre : PersonalPre n flag xs wf) where
  -- sum is what a given vector sums to, b whether that counts
  module _ {sum : Float} {b : Bool} (es : sum ≡ divisor_of flag xs n) (eb : b ≡ counts_of flag sum) where
    counts_are : b ≡ counts_of flag (sum_of xs)
    counts_are = eb ∙ by flag es
      where
        by : (f : Bool) → sum ≡ divisor_of f xs n → counts_of f sum ≡ counts_of f (sum_of xs)
        by true e = ap (lt zero_f) e
        by false e = refl

    only_given : b ≡ true → flag ≡ true
    only_given t = by flag (sym eb ∙ t)
      where
        by : (f : Bool) → counts_of f sum ≡ true → f ≡ true
        by true e = refl
        by false e = absurd (true≢false (sym e))

    pub begin_divide_pre : {base : ℕ} → base ≡ 3 * n → DividePre n b xs base wf
    begin_divide_pre e = record { long = λ t. pre.long (only_given t); room = omega (arith, pre.room) }

    module _ {by : Float} (ec : by ≡ cond b sum (double n)) {wf1 : List Float} (d : Divided n (list_of (divided_at b xs by) n) (3 * n) wf wf1) where
      by_is : by ≡ divisor_of b xs n
      by_is = ec ∙ same b refl
        where
          same : (c : Bool) → b ≡ c → cond c sum (double n) ≡ divisor_of c xs n
          same true t = es ∙ ap (λ (f : Bool). divisor_of f xs n) (only_given t)
          same false t = refl

      personal_there : personal_in n wf1 ≡ personal_of flag xs n
      unfolding divided
      personal_there = d.there ∙ ap (λ (z : Float). list_of (divided_at b xs z) n) by_is ∙ ap (λ (c : Bool). list_of (divided_at c xs (divisor_of c xs n)) n) counts_are

      pub begin_apart : Apart wf1 (3 * n) 0 n
      begin_apart = record { source = omega (arith, pre.room, d.frame.long); target = omega (arith, pre.room, d.frame.long); apart = λ i j l k e. omega arith }

      module _ {wf2 : List Float} (c : Copied wf1 (3 * n) wf1 0 n wf2) where
        pub begin_room : 4 * n ≤ length wf2
        begin_room = omega (arith, pre.room, d.frame.long, c.frame.long)

        pub personal_begun : {wf3 : List Float} → Divided n (bases_in n damping wf2) n wf2 wf3 → PersonalBegun n damping (personal_of flag xs n) wf wf3
        personal_begun {wf3} b =
            let kept : personal_in n wf3 ≡ personal_in n wf2 = frame_part nan (3 * n) n b.frame (omega (arith, begin_room)) (λ i l p q. omega arith) in
            record {
              front = front_then (frame_front (4 * n) (omega arith) d.frame) (front_then (frame_front (4 * n) (omega arith) c.frame) (frame_front (4 * n) (omega arith) b.frame));
              personal = kept ∙ frame_part nan (3 * n) n c.frame (omega (arith, pre.room, d.frame.long)) (λ i l p q. omega arith) ∙ personal_there;
              current =
                  frame_part nan 0 n b.frame (omega (arith, begin_room)) (λ i l p q. omega arith)
                  ∙ part_is nan wf2 0 n (λ k. get_or wf1 (3 * n + k) nan) (omega (arith, begin_room)) (c.at nan)
                  ∙ part_list nan wf1 (3 * n) n (omega (arith, pre.room, d.frame.long))
                  ∙ personal_there;
              begun = b.there ∙ ap (λ (p : List Float). list_of (personal_base damping p) n) (sym kept);
              outs =
                  frame_part nan (2 * n) n b.frame (omega (arith, begin_room)) (λ i l p q. omega arith)
                  ∙ frame_part nan (2 * n) n c.frame (omega (arith, pre.room, d.frame.long)) (λ i l p q. omega arith)
                  ∙ frame_part nan (2 * n) n d.frame (omega (arith, pre.room)) (λ i l p q. omega arith);
            }

-- ---- `personalized_pagerank`
module _ (settings : Settings) (flag : Bool) (vector : List Float) (g : Given (List Float)) where
  -- the tests as the code found them
  pub personal_answered : {x : Result (Unit {0}) Refusal} {l : Fronts} {b c d : Bool} → (l.narrow ≡ length g.w32) × (l.wide ≡ length g.w64) × (l.floats ≡ length g.wf)
      → b ≡ reads_wrong g.weight settings.damping settings.tolerance flag vector → c ≡ length_wrong flag (length vector) g.nodes → d ≡ damping_wrong settings.damping
      → let own : Own = record { number = b; damping = d; rounds = eqb settings.limit 0; lengths = c; start = false } in
      x ≡ refused_if (first_refusal (own_tests g.nodes g.from g.to g.weight true own (ltb (length g.results) g.nodes) l.narrow l.wide l.floats))
      → x ≡ refused_if (first_refusal (personal_tests settings flag vector g))
  personal_answered z eb ec ed e = rw (eb, ec, ed) at (checked g true _ z e)

  module _ (p : Passed (personal_tests settings flag vector g)) where
    pub personal_ready : Ready g
    personal_ready = iterative_ready g true (personal_own settings flag vector g) p

    pub personal_fits : g.nodes ≤ length g.results
    personal_fits = iterative_fits g true (personal_own settings flag vector g) p

    module _ {w1 : List ℕ} {wf1 : List Float} (s1 : Prepared g.nodes g.directed g.from g.to g.weight g.w32 w1 g.wf wf1) where
      pub personal_pre : PersonalPre g.nodes flag vector wf1
      personal_pre = record { long = length_right flag (length vector) g.nodes p.lengths; room = s1.pre.room }

      module _ {wf2 : List Float} (s2 : PersonalBegun g.nodes settings.damping (personal_of flag vector g.nodes) wf1 wf2) where
        pub personal_run_pre : RoundPre g.nodes w1 settings.damping wf2
        personal_run_pre = record { links = links_pre_long s1.pre s2.front.long; begun = s2.begun }

        links : links_in g.nodes w1 wf2 ≡ links_of (graph_in g)
        links =
            ap (λ (o : List Float). record { nodes = g.nodes; outs = o; shares = list_of (shares_in g.nodes w1 wf2) g.nodes }) s2.outs
            ∙ ap (λ (x : List (List Share)). record { nodes = g.nodes; outs = outs_in g.nodes wf1; shares = x }) (shares_kept g.nodes w1 s2.front)
            ∙ s1.links

        abbrev Stepping : Links → List Float → List Float → Round (List Float)
        Stepping l q = personal_step l settings.damping settings.tolerance q

        rounds_are : outcome (eqb g.nodes 0) (Stepping (links_in g.nodes w1 wf2) (personal_in g.nodes wf2)) settings.limit (current_in g.nodes wf2)
            ≡ personal_rounds (links_of (graph_in g)) settings flag vector
        unfolding personal_rounds
        rounds_are =
            ap (λ (l : Links). outcome (eqb g.nodes 0) (Stepping l (personal_in g.nodes wf2)) settings.limit (current_in g.nodes wf2)) links
            ∙ ap (λ (q : List Float). outcome (eqb g.nodes 0) (Stepping (links_of (graph_in g)) q) settings.limit (current_in g.nodes wf2)) s2.personal
            ∙ ap (outcome (eqb g.nodes 0) (Stepping (links_of (graph_in g)) (personal_of flag vector g.nodes)) settings.limit) s2.current

        module _ {wf3 : List Float} {r : Rounds}
            (s3 : RoundsDone g.nodes settings (outcome (eqb g.nodes 0) (Stepping (links_in g.nodes w1 wf2) (personal_in g.nodes wf2)) settings.limit (current_in g.nodes wf2)) wf2 r wf3) where
          pub personal_moved : Front wf1 (4 * g.nodes) wf3
          personal_moved = front_then s2.front (front_wide (4 * g.nodes) (omega arith) s3.front)

          pub personal_ended : {o : Left (Said Rounds) (List Float)} → o ≡ written_by (usual_fronts g.nodes (length g.from)) r (current_in g.nodes wf3) g.results w1 g.w64 wf3
              → o ≡ personalized_outcome settings flag vector g
          unfolding personalized_outcome
          personal_ended e =
              e
              ∙ written g personal_ready personal_fits s1 settings (personal_rounds (links_of (graph_in g)) settings flag vector) r personal_moved s3.settings_kept (s3.ended ∙ rounds_are)
              ∙ went_on g (personal_tests settings flag vector g) (scored g settings (personal_rounds (links_of (graph_in g)) settings flag vector)) p
