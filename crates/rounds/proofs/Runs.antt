-- From what a loop of rounds promises to the outcome of rounds: a round keeps what the next one asks, and is a step of the definition. Assumes nothing.
use mathlib.Core.Path.{◌≡◌, refl, sym, ap, ◌∙◌, subst}
use mathlib.Core.Bool.{Bool, true, false, cond}
use mathlib.Core.List.{List}
use Prim.Native.Nat.{ℕ, ◌+◌, ◌≤◌}
use native.Mathlib.Nat.{sub-zero}
use native.Mathlib.Omega.{arith}
use denote.Ref.{MutBor}
use lib.Ieee.{Float}
use Rattle.regions.specs.Region.{Front}
use Rattle.regions.proofs.Fronts.{front_none, front_then}
use Rattle.answers.specs.declared.Settings.{Settings}
use Rattle.answers.specs.declared.Rounds.{Rounds}
use Rattle.rounds.specs.Rounds.{Round, Out, out, outcome_from, outcome}
use Rattle.rounds.specs.Runs.{Call, Reached, begun, further, Met, Ended}
use Rattle.rounds.specs.Vectors.{current_in}
use Rattle.rounds.specs.Steps.{RoundDone, RoundsDone}
use Rattle.rounds.proofs.Rounds.{rest, rounds_more, rounds_met, rounds_over}

-- ready: what a round asks of the floats. A round from there leaves them ready, changes the two vectors alone, and is `step` of the current one
module _ {R : Call} (n : ℕ) (step : List Float → Round (List Float)) (ready : List Float → Type 0)
    (made : (p q : MutBor (List Float)) (met : Bool) → ready p.now → R p met q → RoundDone n step p.now met q.now × ready q.now) where
  -- floats that rounds reached are ready
  pub reached_ready : {w : List Float} {k : ℕ} {x : List Float} → ready w → Reached R w k x → ready x
  reached_ready i begun = i
  reached_ready i (further r e h e') = subst ready e' (made _ _ _ (subst ready (sym e) (reached_ready i r)) h).1

  module _ (limit : ℕ) (w : List Float) (begins : ready w) where
    abbrev end : Out (List Float)
    end = outcome_from step limit 0 (current_in n w)

    record Running (k : ℕ) (x : List Float) : Type 0 where
      front : Front w (n + n) x
      holds : ready x
      rounds_left : rest step end limit k (current_in n x) ≡ end

    running : {k : ℕ} {x : List Float} → k ≤ limit → Reached R w k x → Running k x
    running l begun = record { front = front_none w (n + n); holds = begins; rounds_left = ap (λ (j : ℕ). outcome_from step j 0 (current_in n w)) (sub-zero limit) }
    running {k} {x} l (further {k = j} {x = x0} {p = p} {q = q} r e h e') =
        let s : Running j x0 = running (omega arith) r in
        let m = made p q false (subst ready (sym e) s.holds) h in
        let t : Running (j + 1) q.now = record {
          front = front_then s.front (subst (λ (z : List Float). Front z (n + n) q.now) e m.0.front);
          holds = m.1;
          rounds_left = rounds_more step end limit (omega arith) (ap (λ (z : List Float). step (current_in n z)) (sym e) ∙ m.0.stepped) refl s.rounds_left;
        } in
        subst (Running (j + 1)) e' t

    met_done : (settings : Settings) {r : Rounds} {w' : List Float} → r.settings ≡ settings → r.settled ≡ true → Met R limit w r.rounds w' → RoundsDone n settings end w r w'
    met_done settings {r} {w'} es t m =
        let s = running (omega (arith, m.within)) m.reached in
        let d = made _ _ _ (subst ready (sym m.shows) s.holds) m.met in
        record {
          front = subst (Front w (n + n)) m.leaves (front_then s.front (subst (λ (z : List Float). Front z (n + n) m.left.now) m.shows d.0.front));
          settings_kept = es;
          ended = ap (λ (z : List Float). out (current_in n z) r.rounds r.settled) (sym m.leaves)
              ∙ ap (λ (b : Bool). out (current_in n m.left.now) r.rounds b) t
              ∙ ap (λ (k : ℕ). out (current_in n m.left.now) k true) m.counted
              ∙ rounds_met step end limit m.within (ap (λ (z : List Float). step (current_in n z)) (sym m.shows) ∙ d.0.stepped) refl s.rounds_left;
        }

    over_done : (settings : Settings) {r : Rounds} {w' : List Float} → r.settings ≡ settings → r.settled ≡ false → r.rounds ≡ limit → Reached R w r.rounds w' → RoundsDone n settings end w r w'
    over_done settings {r} {w'} es f l h =
        let s = running (omega (arith, l)) h in
        record {
          front = s.front;
          settings_kept = es;
          ended = ap (λ (b : Bool). out (current_in n w') r.rounds b) f ∙ rounds_over step end limit (omega (arith, l)) s.rounds_left;
        }

  -- what a loop of rounds leaves is where the definition's rounds end
  pub ran : {settings : Settings} {before : Bool} {w : List Float} {r : Rounds} {w' : List Float} → ready w → Ended R settings before w r w'
      → RoundsDone n settings (outcome before step settings.limit (current_in n w)) w r w'
  unfolding outcome
  ran {settings} {before} {w} {r} {w'} begins e = start before refl
    where
      by : (b : Bool) → r.settled ≡ b → before ≡ false → RoundsDone n settings (outcome_from step settings.limit 0 (current_in n w)) w r w'
      by true t f = met_done settings.limit w begins settings e.kept t (e.met f t)
      by false g f = let o = e.ran_out f g in over_done settings.limit w begins settings e.kept g o.0 o.1

      start : (b : Bool) → before ≡ b → RoundsDone n settings (cond b (out (current_in n w) 0 true) (outcome_from step settings.limit 0 (current_in n w))) w r w'
      start true t =
          let a = e.at_once t in
          record { front = rw a.2 (front_none w (n + n)); settings_kept = e.kept; ended = rw (a.0, a.1, a.2) }
      start false f = by r.settled refl f
