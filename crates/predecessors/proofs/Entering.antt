-- One entry of a node: touched, and entered among the predecessors where it is one hop further. Assumes nothing.
use mathlib.Core.Path.{◌≡◌, refl, sym, ap, ◌∙◌, subst}
use mathlib.Core.Bool.{Bool, true, false, cond, false≢true}
use mathlib.Core.List.{List}
use Prim.Native.Nat.{ℕ, ◌+◌}
use native.Mathlib.Omega.{arith}
use lib.ListN.{length, get_or, set, length-set}
use Rattle.std.specs.Prelude.{Ok, Err}
use Rattle.regions.proofs.Fronts.{miss}
use Rattle.hops.specs.declared.Step.{Step}
use Rattle.hops.specs.declared.Step.TheVariants.{First, Again, Other}
use Rattle.hops.specs.declared.TooManyPaths.{TooManyPaths}
use Rattle.hops.specs.Search.{Touched}
use Rattle.predecessors.specs.declared.Tracks.{Tracks}
use Rattle.predecessors.specs.Tracks.{enters, pushed, PushPre, EnterPre, EnterPost}

module _ {tr : Tracks} {x further ways place : ℕ} {w c : List ℕ} (w' : List ℕ) where
  -- where a node is pushed there is a place, and `touch` has not changed that
  pub push_pre : (c' : List ℕ) → EnterPre tr x further ways place w c → (r : Step) → Touched x further ways tr.places.limit tr.places.distances place w c w' c' (Ok r) → enters r ≡ true → PushPre x tr.last tr.base w'
  push_pre c' E First T e =
      let P = E.first_slot T.was in
      let long : length w' ≡ length w = ap length T.stored ∙ length-set (set w (tr.places.distances + x) further) place x ∙ length-set w (tr.places.distances + x) further in
      let same : get_or w' (tr.last + x) 0 ≡ get_or w (tr.last + x) 0 =
      ap (λ (l : List ℕ). get_or l (tr.last + x) 0) T.stored
      ∙ miss (set w (tr.places.distances + x) further) place x (tr.last + x) (λ q. omega (arith, E.behind))
      ∙ miss w (tr.places.distances + x) further (tr.last + x) (λ q. omega (arith, E.behind, E.apart))
      in
      record { end = omega (arith, P.end); slot = omega (arith, P.slot); few = omega (arith, P.few) }
  push_pre c' E Again T e = subst (λ (l : List ℕ). PushPre x tr.last tr.base l) (sym T.same) (E.again_slot T.was)
  push_pre c' E Other T e = absurd (false≢true e)

  pub entered_yes : {v : ℕ} {c' w'' : List ℕ} {b : Bool} (r : Step) → Touched x further ways tr.places.limit tr.places.distances place w c w' c' (Ok r) → b ≡ enters r → b ≡ true → w'' ≡ pushed v x tr.last tr.base w'
      → EnterPost tr v x further ways place w c w'' c' (Ok r)
  entered_yes {v} r T eb e p =
      record { between = w'; touched = T; stored = p ∙ ap (λ (t : Bool). cond t (pushed v x tr.last tr.base w') w') (sym (sym eb ∙ e)) }

  pub entered_no : {v : ℕ} {c' : List ℕ} {b : Bool} (r : Step) → Touched x further ways tr.places.limit tr.places.distances place w c w' c' (Ok r) → b ≡ enters r → b ≡ false → EnterPost tr v x further ways place w c w' c' (Ok r)
  entered_no {v} r T eb e = record { between = w'; touched = T; stored = ap (λ (t : Bool). cond t (pushed v x tr.last tr.base w') w') (sym (sym eb ∙ e)) }

  -- the limit is exceeded: nothing enters
  pub entered_err : {v : ℕ} {c' : List ℕ} (e : TooManyPaths) → Touched x further ways tr.places.limit tr.places.distances place w c w' c' (Err e) → EnterPost tr v x further ways place w c w' c' (Err e)
  entered_err e T = record { between = w'; touched = T; stored = refl }
