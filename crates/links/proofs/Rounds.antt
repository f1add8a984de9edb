-- One round: what it keeps, and the next vector made the current one. Assumes nothing.
use Rattle.std.proofs.Common.{◌≡◌, ℕ, ◌+◌, List, length, sym, ap, ◌∙◌, arith}
use lib.Ieee.{Float, binary64, mul, lt}
use Rattle.regions.specs.Doubles.{double}
use Rattle.regions.specs.Region.{Front}
use Rattle.regions.proofs.Fronts.{front_then}
use Rattle.rounds.specs.Rounds.{Round, round}
use Rattle.rounds.specs.Vectors.{current_in, next_in, Vectors}
use Rattle.rounds.specs.Steps.{RoundDone}
use Rattle.links.specs.Links.{absolute_change, settles}
use Rattle.links.specs.Steps.{LinksPre, Advanced}

-- ---- one round
pub links_pre_long : {n : ℕ} {w : List ℕ} {wf wf' : List Float} → LinksPre n w wf → length wf' ≡ length wf → LinksPre n w wf'
links_pre_long p e =
    record { rises = p.rises; entries = p.entries; nodes = p.nodes; weights = λ v l. omega (arith, p.weights v l); room = omega (arith, p.room) }

-- whatever becomes of the two vectors
pub pre_kept : (n : ℕ) (w : List ℕ) {wf wf' : List Float} → LinksPre n w wf → Front wf (n + n) wf' → LinksPre n w wf'
pre_kept n w pre f = links_pre_long pre f.long

-- a round whose next vector became the current one: it met the stop rule if the change is below tolerance*n
pub advanced_round : (n : ℕ) (next : List Float → List Float) (step : List Float → Round (List Float)) (tolerance : Float)
    → ((x : List Float) → step x ≡ round (next x) (settles tolerance n x (next x))) → {wf wf2 wf3 : List Float} {change bound : Float}
    → Vectors n wf (current_in n wf) (next (current_in n wf)) wf2 → Advanced n wf2 change wf3 → bound ≡ mul binary64 tolerance (double n) → RoundDone n step wf (lt change bound) wf3
unfolding settles
advanced_round n next step tolerance is {wf} {wf2} {wf3} {change} {bound} s a eb =
    let moved : current_in n wf3 ≡ next (current_in n wf) = a.current ∙ s.next in
    let changed : change ≡ absolute_change n (current_in n wf) (current_in n wf3)
    = a.changed ∙ ap (λ (x : List Float). absolute_change n x (next_in n wf2)) s.current ∙ ap (absolute_change n (current_in n wf)) (sym a.current) in
    record {
      front = front_then s.front a.front;
      stepped = is (current_in n wf)
          ∙ ap (λ (y : List Float). round y (settles tolerance n (current_in n wf) y)) (sym moved)
          ∙ ap (λ (c : Float). round (current_in n wf3) (lt c (mul binary64 tolerance (double n)))) (sym changed)
          ∙ ap (λ (b : Float). round (current_in n wf3) (lt change b)) (sym eb);
    }
