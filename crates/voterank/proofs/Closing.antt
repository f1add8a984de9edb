-- How `voterank` ends: what its steps leave is the outcome. Assumes nothing.
use Rattle.std.proofs.Common.{◌≡◌, ℕ, ◌+◌, ◌-◌, ◌<◌, ◌≤◌, false, ltb, List, [], ◌++◌, ⊎_elim, length, get_or, take, replicate, sym, ap, ◌∙◌, zero-add, arith, length-take-le, get_or-take, ext_get_or, ltb-false}
use lib.ListN.{drop, length-replicate, get_or-replicate, length-append, length-drop, get_or-append}
use Rattle.std.proofs.lemmas.List.{get_or-drop, get_or-append_right}
use Rattle.regions.proofs.Cases.{below_or_not}
use lib.Ieee.{Float, nan}
use Rattle.regions.specs.Doubles.{one}
use Rattle.regions.specs.Region.{over, Filled}
use Rattle.regions.proofs.Fronts.{front_none, front_wide, front_then}
use Rattle.regions.proofs.Parts.{over_is}
use Rattle.regions.proofs.Frames.{frame_front}
use Rattle.std.specs.Prelude.{Result, Ok, Err}
use Rattle.answers.specs.declared.Refusal.{Refusal}
use Rattle.graph.specs.declared.Fronts.{Fronts}
use Rattle.answers.specs.Answers.{done, said_by, refused_if}
use Rattle.graph.specs.Given.{Given}
use Rattle.graph.specs.Left.{left, wiped, Wiped}
use Rattle.graph.specs.Pres.{Passed, Ready, Roomy}
use Rattle.graph.specs.Refusals.{Tests, plain_refusal}
use Rattle.graph.proofs.Left.{refused, went_on}
use Rattle.graph.proofs.Refusals.{passed, plain_tests, plain_ready, plain_fits}
use Rattle.rows.specs.Rows.{Built}
use Rattle.laplacian.proofs.Steps.{Lengths, fronts, Used, wipe_pre, wiped_is}
use Rattle.voterank.specs.VoteRank.{Poll, poll, opening, decay_of, seats_of, closing, voterank_outcome}
use Rattle.voterank.specs.Elections.{poll_at, ElectPre, Held}

-- the rows of the table that can hold of a call with so many seats
abbrev pub seat_tests : Given (List ℕ) → ℕ → Tests
seat_tests g seats = plain_tests g false false (ltb (length g.results) seats)

-- what the check of such a call returns
abbrev checked : Given (List ℕ) → ℕ → Fronts → Result (Unit {0}) Refusal
checked g seats l = refused_if (plain_refusal g.nodes g.from g.to g.weight false false (ltb (length g.results) seats) l.narrow l.wide l.floats)

-- it let the call pass
pub seat_passed : (g : Given (List ℕ)) (seats : ℕ) {l : Fronts} {v : Unit {0}} → Lengths g l → Ok v ≡ checked g seats l → Passed (seat_tests g seats)
seat_passed g seats h e = passed (seat_tests g seats) (rw (h.0, h.1, h.2) at e)

module _ (seeds : ℕ) (g : Given (List ℕ)) (seats : ℕ) (es : seats ≡ seats_of g.nodes seeds) where
  -- it found the refusal r, and the call returned it as x
  pub turned_away : {l : Fronts} {x : Result ℕ Refusal} {r : Refusal} → Lengths g l → x ≡ Err r → Err r ≡ checked g seats l
      → left (said_by x) g.results g.w32 g.w64 g.wf ≡ voterank_outcome seeds g
  unfolding voterank_outcome
  turned_away h ex e = refused g (seat_tests g (seats_of g.nodes seeds)) _ ex (rw (h.0, h.1, h.2, es) at e)

  module _ (p : Passed (seat_tests g seats)) where
    pub ready : Ready g
    ready = plain_ready g false false (ltb (length g.results) seats) p

    pub fits : seats ≤ length g.results
    fits = ltb-false _ _ (plain_fits g false false (ltb (length g.results) seats) p)

    pub fill_pre : 0 + g.nodes ≤ length g.wf
    fill_pre = omega (arith, ready.roomy.rf)

    -- the slots of the elected
    abbrev cut : List ℕ
    cut = take seats g.results

    pub cut_long : length cut ≡ seats
    cut_long = length-take-le seats g.results fits

    -- from the rows in w1 and the abilities in v1
    module _ (w1 : List ℕ) (v1 : List Float) (b : Built g.nodes g.directed g.from g.to g.weight g.w32 w1) (f : Filled g.wf 0 g.nodes one v1) where
      pub elect_pre : ElectPre g.nodes g.directed g.from g.to g.weight (length cut) cut w1 v1
      elect_pre =
          record {
            sized = ready.sound.sized;
            ends = ready.sound.ends;
            small = ready.sound.limits.nodes;
            few = omega (arith, es, cut_long);
            seated = omega arith;
            fit = b.fit;
            rows = b.rows;
            room = omega (arith, ready.roomy.rf, f.frame.long);
          }

      opened : poll_at g.nodes 0 cut v1 ≡ opening g.nodes
      opened =
          ap (λ (a : List Float). poll a [])
          (ext_get_or nan (take g.nodes v1) (replicate g.nodes one) (long ∙ sym (length-replicate g.nodes one))
          (λ i l.
          let h : i < g.nodes = omega (arith, long) in
          get_or-take g.nodes v1 i nan h ∙ ap (λ (j : ℕ). get_or v1 j nan) (sym (zero-add i)) ∙ f.at nan i h ∙ sym (get_or-replicate g.nodes i one nan h)))
        where
          long : length (take g.nodes v1) ≡ g.nodes
          long = length-take-le g.nodes v1 (omega (arith, ready.roomy.rf, f.frame.long))

      -- the slots are written over the front of the lent slice
      module _ (decay : Float) (k : ℕ) (slots : List ℕ) (v2 : List Float) (ed : decay ≡ decay_of g.nodes g.directed (length g.from))
          (h : Held g.nodes g.directed g.from g.to g.weight decay (length cut) cut v1 k slots v2) where
        used : Used g ready w1 g.w64 v2
        used =
            record {
              u32 = front_wide _ (omega arith) b.front;
              u64 = front_none _ _;
              uf = front_then (frame_front _ (omega arith) f.frame) (front_wide _ (omega arith) h.front);
            }

        pub roomy : {f : Fronts} → f ≡ fronts g ready → Roomy f (length w1) (length g.w64) (length v2)
        roomy e = wipe_pre g ready used e

        abbrev elected' : List ℕ
        elected' = slots ++ drop seats g.results

        slots_long : length slots ≡ seats
        slots_long = h.slots.long ∙ cut_long

        closed : poll_at g.nodes k slots v2 ≡ closing seeds g
        unfolding closing
        closed = h.polled ∙ cc (ed, cut_long ∙ es, opened)

        most : k ≤ seats
        most = omega (arith, h.most, cut_long)

        taken : length (take k slots) ≡ k
        taken = length-take-le k slots (omega (arith, most, slots_long))

        many : k ≡ length (closing seeds g).elected
        many = sym taken ∙ ap (λ (q : Poll). length q.elected) closed

        -- beyond the elected the slice is as it was
        beyond : (j : ℕ) → k ≤ j → get_or elected' j 0 ≡ get_or g.results j 0
        beyond j l =
            ⊎_elim
            (λ p. get_or-append slots (drop seats g.results) 0 j (omega (arith, slots_long)) ∙ h.slots.rest 0 j l ∙ get_or-take seats g.results j 0 p)
            (λ p.
            let e : seats + (j - seats) ≡ j = omega arith in
            get_or-append_right slots (drop seats g.results) seats j 0 slots_long p
            ∙ get_or-drop seats g.results (j - seats) 0
            ∙ ap (λ (i : ℕ). get_or g.results i 0) e)
            (below_or_not j seats)

        written : elected' ≡ over (closing seeds g).elected g.results
        written =
            over_is 0 (take k slots) g.results elected' (omega (arith, taken, most, fits))
            (length-append slots (drop seats g.results) ∙ omega (arith, slots_long, length-drop seats g.results, fits))
            (λ i l.
            let q : i < k = omega (arith, taken) in
            get_or-append slots (drop seats g.results) 0 i (omega (arith, most, slots_long)) ∙ sym (get_or-take k slots i 0 q))
            (λ j l. beyond j (omega (arith, taken)))
            ∙ ap (λ (q : Poll). over q.elected g.results) closed

        pub ended : {f : Fronts} {w32' w64' : List ℕ} {wf' : List Float} → f ≡ fronts g ready → Wiped f w1 g.w64 v2 w32' w64' wf'
            → left (done k) elected' w32' w64' wf' ≡ voterank_outcome seeds g
        unfolding voterank_outcome
        ended {f} {w32'} {w64'} {wf'} ef z =
            wiped_is g ready used (done k) elected' ef z
            ∙ ap (λ (j : ℕ). wiped g (done j) elected') many
            ∙ ap (λ (r : List ℕ). wiped g (done (length (closing seeds g).elected)) r) written
            ∙ went_on g (seat_tests g (seats_of g.nodes seeds)) (wiped g (done (length (closing seeds g).elected)) (over (closing seeds g).elected g.results)) (rw es at p)
