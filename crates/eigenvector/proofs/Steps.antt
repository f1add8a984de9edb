-- The steps of `eigenvector` put together: a round, the rounds, the call. Assumes nothing.
use Rattle.std.proofs.Common.{◌≡◌, ℕ, ◌+◌, ◌<◌, ◌≤◌, Bool, true, false, not, ◌||◌, eqb, ltb, List, [], ◌∷◌, suc, length, get_or, sym, refl, ap, ◌∙◌, subst, arith, ne_eqb}
use borrow.Author.Tests.{eqb-false}
use mathlib.Core.List.{foldl}
use lib.Ieee.{Float, nan, binary64, div, lt}
use lib.Ieee.Scale.{finite}
use Rattle.regions.specs.Region.{list_of, Filled}
use Rattle.regions.proofs.Fronts.{front_then}
use Rattle.regions.proofs.Frames.{frame_front}
use Rattle.regions.proofs.Parts.{list_at_lem, part_is}
use Rattle.roots.specs.Root.{sqrt_of}
use Rattle.std.specs.Prelude.{Result}
use Rattle.answers.specs.declared.Refusal.{Refusal}
use Rattle.answers.specs.declared.Settings.{Settings}
use Rattle.answers.specs.declared.Rounds.{Rounds}
use Rattle.graph.specs.declared.Fronts.{Fronts}
use Rattle.answers.specs.Answers.{Said, refused_if}
use Rattle.graph.specs.Checks.{number_wrong}
use Rattle.graph.specs.Edges.{edges_from, edges_of, graph_from}
use Rattle.graph.specs.Fronts.{usual_fronts}
use Rattle.graph.specs.Given.{Given, graph_in}
use Rattle.graph.specs.Refusals.{first_refusal}
use Rattle.graph.specs.Pres.{Passed, Ready, Sound}
use Rattle.graph.specs.Left.{left}
use Rattle.graph.proofs.Edges.{edges_long}
use Rattle.graph.proofs.Left.{went_on}
use Rattle.rounds.specs.Rounds.{Round, round, outcome}
use Rattle.rounds.specs.declared.Own.{Own}
use Rattle.rounds.specs.Tests.{own_tests}
use Rattle.rounds.specs.Ending.{settled_only, settled_by, WritePre}
use Rattle.rounds.specs.Vectors.{entry, spreads, squared_change, settles, current_in, next_in, Vectors}
use Rattle.rounds.specs.Steps.{SpreadsPre, edge_spread, EdgesSpread, RoundDone, RoundsDone}
use Rattle.rounds.proofs.Vectors.{vectors_are}
use Rattle.rounds.proofs.Tests.{checked, iterative_ready, iterative_fits}
use Rattle.rounds.proofs.Ending.{vectors_room, write_pre, settled_ends}
use Rattle.eigenvector.specs.Eigenvector.{tiny, start_of, uniform, eigen_edge, grown, norm_of, scaled, eigen_end, eigen_step, eigen_rounds, eigen_own, eigen_tests, eigen_outcome}
use Rattle.eigenvector.specs.Steps.{RoundPre}

-- ---- the turns of the loops
abbrev pub scaled_at : Float → List Float → ℕ → Float
scaled_at norm y i = div binary64 (entry y i) norm

pub scaled_entry : (n : ℕ) (norm : Float) (y : List Float) (i : ℕ) → i < n → entry (scaled n norm y) i ≡ scaled_at norm y i
unfolding scaled
scaled_entry n norm y i l = list_at_lem (scaled_at norm y) n nan i l

-- both vectors filled with one value
pub filled_vectors : (n : ℕ) (v : Float) {w w' : List Float} → n + n ≤ length w → Filled w 0 (n + n) v w' → Vectors n w (list_of (λ _. v) n) (list_of (λ _. v) n) w'
filled_vectors n v {w} {w'} l f =
    record {
      front = frame_front (n + n) (omega arith) f.frame;
      current = part_is nan w' 0 n (λ _. v) (omega (arith, f.frame.long)) (λ i h. f.at nan i (omega arith));
      next = part_is nan w' n n (λ _. v) (omega (arith, f.frame.long)) (λ i h. let e : n + i ≡ 0 + (n + i) = omega arith in ap (λ (k : ℕ). get_or w' k nan) e ∙ f.at nan (n + i) (omega arith));
    }

-- ---- the edges, each turned round
pub spreads_turned : {n : ℕ} {from to : List ℕ} {weight w : List Float} → SpreadsPre n from to weight w → SpreadsPre n to from weight w
spreads_turned s =
    let z = s.sound.sized in
    record {
      sound = record {
        sized = record { tos = sym z.tos; weights = z.weights ∙ sym z.tos };
        limits = record { nodes = s.sound.limits.nodes; edges = omega (arith, s.sound.limits.edges, z.tos) };
        ends = record { froms = λ i l. s.sound.ends.tos i (omega (arith, z.tos)); tos = λ i l. s.sound.ends.froms i (omega (arith, z.tos)) };
      };
      room = s.room;
    }

same_edges : (directed : Bool) (x : List Float) (k : ℕ) (fs ts : List ℕ) (xs y : List Float)
    → foldl (edge_spread (λ w. w) directed x) y (edges_from k ts fs xs) ≡ foldl (eigen_edge directed x) y (edges_from k fs ts xs)
unfolding edges_from
same_edges directed x k [] [] xs y = refl
same_edges directed x k [] (t ∷ ts) xs y = refl
same_edges directed x k (f ∷ fs) [] xs y = refl
same_edges directed x k (f ∷ fs) (t ∷ ts) [] y = refl
same_edges directed x k (f ∷ fs) (t ∷ ts) (z ∷ xs) y = same_edges directed x (suc k) fs ts xs (spreads directed z x y t f)

-- what they add
pub turned : (n : ℕ) (directed : Bool) (from to : List ℕ) (weight : List Float) {w w1 : List Float} → EdgesSpread (λ x. x) n directed to from weight w w1
    → Vectors n w (current_in n w) (foldl (eigen_edge directed (current_in n w)) (next_in n w) (edges_of from to weight)) w1
turned n directed from to weight {w} s = vectors_are refl (same_edges directed (current_in n w) 0 from to weight (next_in n w)) s

-- ---- a round: the edges made w1 of w
module _ (n : ℕ) (directed : Bool) (from to : List ℕ) (weight : List Float) (tolerance : Float) {w w1 : List Float} (begun : next_in n w ≡ current_in n w)
    (s : Vectors n w (current_in n w) (foldl (eigen_edge directed (current_in n w)) (next_in n w) (edges_of from to weight)) w1)
  where
    abbrev Step : List Float → Round (List Float)
    Step = eigen_step (graph_from n directed from to weight) tolerance

    made : Step (current_in n w) ≡ eigen_end n tolerance (current_in n w) (next_in n w1)
    unfolding eigen_step grown
    made =
        ap (eigen_end n tolerance (current_in n w))
        (ap (λ (y : List Float). foldl (eigen_edge directed (current_in n w)) y (edges_of from to weight)) (sym begun) ∙ sym s.next)

    -- a tiny norm
    pub round_tiny : {start norm : Float} {w2 : List Float} → n + n ≤ length w1 → start ≡ start_of n → norm ≡ norm_of n (next_in n w1) → lt norm tiny ≡ true
        → Filled w1 0 (n + n) start w2 → RoundDone n Step w true w2 × (next_in n w2 ≡ current_in n w2)
    unfolding eigen_end
    round_tiny {start} {norm} {w2} l es en t f =
        let v : Vectors n w1 (list_of (λ _. start) n) (list_of (λ _. start) n) w2 = filled_vectors n start l f in (
          record {
            front = front_then s.front v.front;
            stepped = made ∙ rw (← en, t) (ap (λ (x : List Float). round x true) (sym (v.current ∙ ap (λ (a : Float). list_of (λ _. a) n) es)));
          },
          v.next ∙ sym v.current,
        )

    -- any other
    pub round_scaled : {norm change root : Float} {w2 : List Float} → norm ≡ norm_of n (next_in n w1) → lt norm tiny ≡ false
        → change ≡ squared_change n (current_in n w1) (scaled n norm (next_in n w1))
        → Vectors n w1 (scaled n norm (next_in n w1)) (scaled n norm (next_in n w1)) w2
        → root ≡ sqrt_of change
        → RoundDone n Step w (lt root tolerance) w2 × (next_in n w2 ≡ current_in n w2)
    unfolding eigen_end settles
    round_scaled {norm} {change} {root} {w2} en t ec v er =
        let z = scaled n norm (next_in n w1) in
        let met : lt (sqrt_of (squared_change n (current_in n w) z)) tolerance ≡ lt root tolerance
        = ap (λ (x : List Float). lt (sqrt_of (squared_change n x z)) tolerance) (sym s.current)
        ∙ ap (λ (d : Float). lt (sqrt_of d) tolerance) (sym ec)
        ∙ ap (λ (r : Float). lt r tolerance) (sym er) in (
          record {
            front = front_then s.front v.front;
            stepped = made ∙ rw (← en, t) (ap (λ (b : Bool). round z b) met ∙ ap (λ (x : List Float). round x (lt root tolerance)) (sym v.current));
          },
          v.next ∙ sym v.current,
        )

-- ---- the rounds: w1 is w with both vectors uniform
module _ (n : ℕ) (directed : Bool) (from to : List ℕ) (weight : List Float) (sound : Sound n from to weight) (settings : Settings) {start : Float} {w w1 : List Float}
    (room : n + n ≤ length w) (es : start ≡ start_of n) (f : Filled w 0 (n + n) start w1)
  where
    abbrev Done : Rounds → List Float → Type 0
    Done r w' = RoundsDone n settings (eigen_rounds (graph_from n directed from to weight) settings) w r w'

    both : Vectors n w (list_of (λ _. start) n) (list_of (λ _. start) n) w1
    both = filled_vectors n start room f

    begins : current_in n w1 ≡ uniform n
    begins = both.current ∙ ap (λ (a : Float). list_of (λ _. a) n) es

    -- the first round may begin
    pub first_pre : RoundPre n from to weight start w1
    first_pre = record { spreads = record { sound = sound; room = omega (arith, f.frame.long) }; begun = both.next ∙ sym both.current; value = es }

    or_true : (b : Bool) → (b || true) ≡ true
    or_true true = refl
    or_true false = refl

    -- an edge has ends: where there are edges, there are nodes
    before : (b : Bool) → eqb (length from) 0 ≡ b → (eqb n 0 || b) ≡ b
    before true t = or_true (eqb n 0)
    before false e =
        let some : 0 < length from = let h = eqb-false (length from) 0 e in omega arith in
        rw (ne_eqb n 0 (λ h. omega (arith, sound.ends.froms 0 some)))

    before_is : (eqb n 0 || eqb (length (edges_of from to weight)) 0) ≡ eqb (length from) 0
    before_is = ap (λ (k : ℕ). eqb n 0 || eqb k 0) (edges_long from to weight sound.sized) ∙ before (eqb (length from) 0) refl

    -- r and w2 are what the rounds made of w1
    pub run_done : {r : Rounds} {w2 : List Float}
        → RoundsDone n settings (outcome (eqb (length from) 0) (eigen_step (graph_from n directed from to weight) settings.tolerance) settings.limit (current_in n w1)) w1 r w2
        → Done r w2
    unfolding eigen_rounds
    run_done d =
        let step = eigen_step (graph_from n directed from to weight) settings.tolerance in
        record {
          front = front_then both.front d.front;
          settings_kept = d.settings_kept;
          ended = d.ended ∙ ap (outcome (eqb (length from) 0) step settings.limit) begins ∙ ap (λ (b : Bool). outcome b step settings.limit (uniform n)) (sym before_is);
        }

-- a round leaves what the next one asks
pub again_pre : {n : ℕ} {from to : List ℕ} {weight w w' : List Float} {start : Float} {met : Bool} {step : List Float → Round (List Float)} → RoundPre n from to weight start w
    → RoundDone n step w met w' × (next_in n w' ≡ current_in n w') → RoundPre n from to weight start w'
again_pre p r = record { spreads = record { sound = p.spreads.sound; room = omega (arith, p.spreads.room, r.0.front.long) }; begun = r.1; value = p.value }

-- ---- the call
module _ (settings : Settings) (g : Given (List Float)) where
  -- the tests as the code found them
  pub answered : {x : Result (Unit {0}) Refusal} {l : Fronts} {b : Bool} → (l.narrow ≡ length g.w32) × (l.wide ≡ length g.w64) × (l.floats ≡ length g.wf)
      → b ≡ (number_wrong g.weight || not (finite settings.tolerance))
      → let own : Own = record { number = b; damping = false; rounds = false; lengths = false; start = false } in
      x ≡ refused_if (first_refusal (own_tests g.nodes g.from g.to g.weight false own (ltb (length g.results) g.nodes) l.narrow l.wide l.floats))
      → x ≡ refused_if (first_refusal (eigen_tests settings g))
  answered z eb e = rw eb at (checked g false _ z e)

  module _ (p : Passed (eigen_tests settings g)) where
    pub ready : Ready g
    ready = iterative_ready g false (eigen_own settings g) p

    fits : g.nodes ≤ length g.results
    fits = iterative_fits g false (eigen_own settings g) p

    pub run_pre : SpreadsPre g.nodes g.from g.to g.weight g.wf
    run_pre = record { sound = ready.sound; room = vectors_room g ready fits }

    -- wf1 is what the rounds left, and f the fronts
    pub writes : {wf1 : List Float} {r : Rounds} {f : Fronts} → RoundsDone g.nodes settings (eigen_rounds (graph_in g) settings) g.wf r wf1
        → f ≡ usual_fronts g.nodes (length g.from) → WritePre g.nodes f g.results g.w32 g.w64 wf1
    writes {wf1} {r} {f} d ef = subst (λ (h : Fronts). WritePre g.nodes h g.results g.w32 g.w64 wf1) (sym ef) (write_pre g ready fits wf1 d.front)

    pub ended : {wf1 scores' wf' : List Float} {w32' w64' : List ℕ} {r : Rounds} {f : Fronts} {a : Said Rounds}
        → RoundsDone g.nodes settings (eigen_rounds (graph_in g) settings) g.wf r wf1
        → f ≡ usual_fronts g.nodes (length g.from)
        → left a scores' w32' w64' wf' ≡ settled_by f r (current_in g.nodes wf1) g.results g.w32 g.w64 wf1
        → left a scores' w32' w64' wf' ≡ eigen_outcome settings g
    unfolding eigen_outcome
    ended {wf1} {scores'} {wf'} {w32'} {w64'} {r} {f} {a} d ef e =
        e
        ∙ ap (λ (h : Fronts). settled_by h r (current_in g.nodes wf1) g.results g.w32 g.w64 wf1) ef
        ∙ settled_ends g ready fits wf1 d.front settings (eigen_rounds (graph_in g) settings) r (current_in g.nodes wf1) d.settings_kept d.ended
        ∙ went_on g (eigen_tests settings g) (settled_only g settings (eigen_rounds (graph_in g) settings)) p
