-- One entry with its pair. Assumes nothing.
use mathlib.Core.Path.{◌≡◌, ap, ◌∙◌}
use mathlib.Core.Logic.{◌≢◌}
use mathlib.Core.List.{List}
use Prim.Native.Nat.{ℕ, ◌+◌, ◌<◌}
use native.Mathlib.Omega.{arith}
use lib.ListN.{length, get_or, set, length-set}
use Rattle.regions.proofs.Fronts.{miss}
use Rattle.std.specs.Prelude.{Result, Ok, Err}
use Rattle.hops.specs.declared.Step.{Step}
use Rattle.hops.specs.declared.Step.TheVariants.{First, Again, Other}
use Rattle.hops.specs.declared.TooManyPaths.{TooManyPaths}
use Rattle.hops.specs.Hops.{unreached}
use Rattle.predecessors.specs.declared.Tracks.{Tracks}
use Rattle.predecessors.specs.Tracks.{EnterPost}

-- an entry changes no length
pub enter_long : {tr : Tracks} {v x further ways place : ℕ} {w c w1 c' : List ℕ} (r : Result Step TooManyPaths) → EnterPost tr v x further ways place w c w1 c' r → length w1 ≡ length w
enter_long {tr} {v} {x} {further} {ways} {place} {w} (Ok First) E =
    ap length E.stored ∙ length-set (set E.between (tr.base + get_or E.between (tr.last + x) 0) v) (tr.last + x) (get_or E.between (tr.last + x) 0 + 1) ∙ length-set E.between (tr.base + get_or E.between (tr.last + x) 0) v
    ∙ ap length E.touched.stored ∙ length-set (set w (tr.places.distances + x) further) place x ∙ length-set w (tr.places.distances + x) further
enter_long {tr} {v} {x} {further} {ways} {place} {w} (Ok Again) E =
    ap length E.stored ∙ length-set (set E.between (tr.base + get_or E.between (tr.last + x) 0) v) (tr.last + x) (get_or E.between (tr.last + x) 0 + 1) ∙ length-set E.between (tr.base + get_or E.between (tr.last + x) 0) v
    ∙ ap length E.touched.same
enter_long (Ok Other) E = ap length E.stored ∙ ap length E.touched.same
enter_long (Err _) E = ap length E.stored ∙ ap length E.touched.same

-- an entry changes one distance, one place of the queue, one end, and what stands from `base`
pub enter_same : {tr : Tracks} {v x further ways place : ℕ} {w c w1 c' : List ℕ} (r : Result Step TooManyPaths) → EnterPost tr v x further ways place w c w1 c' r → (i : ℕ) → i ≢ tr.places.distances + x → (get_or w (tr.places.distances + x) 0 ≡ unreached → i ≢ place) → i ≢ tr.last + x → i < tr.base
    → get_or w1 i 0 ≡ get_or w i 0
enter_same {tr} {v} {x} {further} {ways} {place} {w} (Ok First) E i a b e l =
    let t = E.between in
    ap (λ (k : List ℕ). get_or k i 0) E.stored ∙ miss (set t (tr.base + get_or t (tr.last + x) 0) v) (tr.last + x) (get_or t (tr.last + x) 0 + 1) i e ∙ miss t (tr.base + get_or t (tr.last + x) 0) v i (λ q. omega arith)
    ∙ ap (λ (k : List ℕ). get_or k i 0) E.touched.stored ∙ miss (set w (tr.places.distances + x) further) place x i (b E.touched.was) ∙ miss w (tr.places.distances + x) further i a
enter_same {tr} {v} {x} {further} {ways} {place} {w} (Ok Again) E i a b e l =
    let t = E.between in
    ap (λ (k : List ℕ). get_or k i 0) E.stored ∙ miss (set t (tr.base + get_or t (tr.last + x) 0) v) (tr.last + x) (get_or t (tr.last + x) 0 + 1) i e ∙ miss t (tr.base + get_or t (tr.last + x) 0) v i (λ q. omega arith)
    ∙ ap (λ (k : List ℕ). get_or k i 0) E.touched.same
enter_same (Ok Other) E i a b e l = ap (λ (k : List ℕ). get_or k i 0) E.stored ∙ ap (λ (k : List ℕ). get_or k i 0) E.touched.same
enter_same (Err _) E i a b e l = ap (λ (k : List ℕ). get_or k i 0) E.stored ∙ ap (λ (k : List ℕ). get_or k i 0) E.touched.same
