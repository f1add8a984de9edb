-- The steps of `katz` put together: a round, the rounds, the call. Assumes nothing.
use mathlib.Core.Path.{◌≡◌, sym, ap, ◌∙◌, subst}
use mathlib.Core.Bool.{Bool, false}
use mathlib.Core.List.{List, foldl}
use Prim.Native.Nat.{ℕ, ◌≤◌}
use native.Mathlib.Omega.{arith}
use lib.Dec.{eqb, ltb}
use lib.ListN.{length}
use lib.Ieee.{Float, lt}
use Rattle.regions.specs.Region.{zero_f, list_of}
use Rattle.regions.proofs.Fronts.{front_then}
use Rattle.roots.specs.Root.{sqrt_of}
use Rattle.std.specs.Prelude.{Result}
use Rattle.answers.specs.declared.Refusal.{Refusal}
use Rattle.answers.specs.declared.Settings.{Settings}
use Rattle.answers.specs.declared.Rounds.{Rounds}
use Rattle.graph.specs.declared.Fronts.{Fronts}
use Rattle.answers.specs.Answers.{Said, refused_if}
use Rattle.graph.specs.Edges.{edges_of, graph_from}
use Rattle.graph.specs.Fronts.{usual_fronts}
use Rattle.graph.specs.Given.{Given, graph_in}
use Rattle.graph.specs.Refusals.{first_refusal}
use Rattle.graph.specs.Pres.{Passed, Ready}
use Rattle.graph.specs.Left.{left}
use Rattle.graph.proofs.Left.{went_on}
use Rattle.rounds.specs.Rounds.{Round, round, outcome}
use Rattle.rounds.specs.Tests.{reads_wrong, length_wrong, own_tests}
use Rattle.rounds.specs.Ending.{settled_only, settled_by, WritePre}
use Rattle.rounds.proofs.Tests.{checked, iterative_ready, iterative_fits, length_right}
use Rattle.rounds.proofs.Ending.{vectors_room, write_pre, settled_ends}
use Rattle.rounds.specs.Vectors.{squared_change, settles, current_in, next_in, Vectors}
use Rattle.katz.specs.Katz.{beta_of, katz_edge, katz_next, katz_step, katz_rounds, katz_own, katz_tests, katz_outcome}
use Rattle.rounds.specs.Steps.{RoundDone, RoundsDone}
use Rattle.katz.specs.Steps.{RunPre, RoundPre}
use Rattle.rounds.specs.declared.Own.{Own}

module _ (n : ℕ) (directed : Bool) (from to : List ℕ) (weight : List Float) where
  -- the edges made w1 of w, and `advance` w2 of that
  pub round_done : (alpha tolerance : Float) {beta w w1 w2 : List Float} {change root : Float} → next_in n w ≡ beta
      → Vectors n w (current_in n w) (foldl (katz_edge directed alpha (current_in n w)) (next_in n w) (edges_of from to weight)) w1
      → change ≡ squared_change n (current_in n w1) (next_in n w1)
      → Vectors n w1 (next_in n w1) beta w2
      → root ≡ sqrt_of change
      → RoundDone n (katz_step (graph_from n directed from to weight) alpha tolerance beta) w (lt root tolerance) w2 × (next_in n w2 ≡ beta)
  unfolding katz_next katz_step settles
  round_done alpha tolerance {beta} {w} {w1} {w2} {change} {root} begun s ec a er =
      (record { front = front_then s.front a.front; stepped = stepped }, a.next)
    where
      made : katz_next (graph_from n directed from to weight) alpha beta (current_in n w) ≡ next_in n w1
      made = ap (λ (y : List Float). foldl (katz_edge directed alpha (current_in n w)) y (edges_of from to weight)) (sym begun) ∙ sym s.next

      met : settles tolerance n (current_in n w) (next_in n w1) ≡ lt root tolerance
      met =
          ap (λ (x : List Float). lt (sqrt_of (squared_change n x (next_in n w1))) tolerance) (sym s.current)
          ∙ ap (λ (d : Float). lt (sqrt_of d) tolerance) (sym ec)
          ∙ ap (λ (r : Float). lt r tolerance) (sym er)

      stepped : katz_step (graph_from n directed from to weight) alpha tolerance beta (current_in n w) ≡ round (current_in n w2) (lt root tolerance)
      stepped =
          ap (λ (y : List Float). round y (settles tolerance n (current_in n w) y)) made
          ∙ ap (λ (b : Bool). round (next_in n w1) b) met
          ∙ ap (λ (y : List Float). round y (lt root tolerance)) (sym a.current)

  module _ (settings : Settings) (flag : Bool) (beta : List Float) {w w1 : List Float} (v : Vectors n w (list_of (λ _. zero_f) n) (beta_of flag beta n) w1) where
    abbrev Done : Rounds → List Float → Type 0
    Done r w' = RoundsDone n settings (katz_rounds (graph_from n directed from to weight) settings flag beta) w r w'

    -- r and w2 are what the rounds made of w1
    pub run_done : {r : Rounds} {w2 : List Float}
        → RoundsDone n settings (outcome (eqb n 0) (katz_step (graph_from n directed from to weight) settings.damping settings.tolerance (beta_of flag beta n)) settings.limit (current_in n w1)) w1 r w2
        → Done r w2
    unfolding katz_rounds
    run_done d =
        let step = katz_step (graph_from n directed from to weight) settings.damping settings.tolerance (beta_of flag beta n) in
        record {
          front = front_then v.front d.front;
          settings_kept = d.settings_kept;
          ended = d.ended ∙ ap (outcome (eqb n 0) step settings.limit) v.current;
        }

module _ {n : ℕ} {from to : List ℕ} {weight : List Float} {flag : Bool} {beta w : List Float} where
  -- the first round may begin
  pub first_pre : {x w1 : List Float} → RunPre n from to weight flag beta w → Vectors n w x (beta_of flag beta n) w1 → RoundPre n from to weight flag beta w1
  first_pre p v = record {
    run = record { sound = p.sound; vectors = record { room = omega (arith, p.vectors.room, v.front.long); long = p.vectors.long } };
    begun = v.next;
  }

  -- a round leaves what the next one asks
  pub again_pre : {w' : List Float} {met : Bool} {step : List Float → Round (List Float)} → RoundPre n from to weight flag beta w
      → RoundDone n step w met w' × (next_in n w' ≡ beta_of flag beta n) → RoundPre n from to weight flag beta w'
  again_pre p r = record {
    run = record { sound = p.run.sound; vectors = record { room = omega (arith, p.run.vectors.room, r.0.front.long); long = p.run.vectors.long } };
    begun = r.1;
  }

-- ---- the call
module _ (settings : Settings) (flag : Bool) (beta : List Float) (g : Given (List Float)) where
  -- the tests as the code found them
  pub answered : {x : Result (Unit {0}) Refusal} {l : Fronts} {b c : Bool} → (l.narrow ≡ length g.w32) × (l.wide ≡ length g.w64) × (l.floats ≡ length g.wf)
      → b ≡ reads_wrong g.weight settings.damping settings.tolerance flag beta → c ≡ length_wrong flag (length beta) g.nodes
      → let own : Own = record { number = b; damping = false; rounds = false; lengths = c; start = false } in
      x ≡ refused_if (first_refusal (own_tests g.nodes g.from g.to g.weight false own (ltb (length g.results) g.nodes) l.narrow l.wide l.floats))
      → x ≡ refused_if (first_refusal (katz_tests settings flag beta g))
  answered z eb ec e = rw (eb, ec) at (checked g false _ z e)

  module _ (p : Passed (katz_tests settings flag beta g)) where
    pub ready : Ready g
    ready = iterative_ready g false (katz_own settings flag beta g) p

    pub fits : g.nodes ≤ length g.results
    fits = iterative_fits g false (katz_own settings flag beta g) p

    pub run_pre : RunPre g.nodes g.from g.to g.weight flag beta g.wf
    run_pre =
        record {
          sound = ready.sound;
          vectors = record { room = vectors_room g ready fits; long = length_right flag (length beta) g.nodes p.lengths };
        }

    -- wf1 is what the rounds left, and f the fronts
    pub writes : {wf1 : List Float} {r : Rounds} {f : Fronts} → RoundsDone g.nodes settings (katz_rounds (graph_in g) settings flag beta) g.wf r wf1
        → f ≡ usual_fronts g.nodes (length g.from) → WritePre g.nodes f g.results g.w32 g.w64 wf1
    writes {wf1} {r} {f} d ef = subst (λ (h : Fronts). WritePre g.nodes h g.results g.w32 g.w64 wf1) (sym ef) (write_pre g ready fits wf1 d.front)

    pub ended : {wf1 scores' wf' : List Float} {w32' w64' : List ℕ} {r : Rounds} {f : Fronts} {a : Said Rounds}
        → RoundsDone g.nodes settings (katz_rounds (graph_in g) settings flag beta) g.wf r wf1
        → f ≡ usual_fronts g.nodes (length g.from)
        → left a scores' w32' w64' wf' ≡ settled_by f r (current_in g.nodes wf1) g.results g.w32 g.w64 wf1
        → left a scores' w32' w64' wf' ≡ katz_outcome settings flag beta g
    unfolding katz_outcome
    ended {wf1} {scores'} {wf'} {w32'} {w64'} {r} {f} {a} d ef e =
        e
        ∙ ap (λ (h : Fronts). settled_by h r (current_in g.nodes wf1) g.results g.w32 g.w64 wf1) ef
        ∙ settled_ends g ready fits wf1 d.front settings (katz_rounds (graph_in g) settings flag beta) r (current_in g.nodes wf1) d.settings_kept d.ended
        ∙ went_on g (katz_tests settings flag beta g) (settled_only g settings (katz_rounds (graph_in g) settings flag beta)) p
