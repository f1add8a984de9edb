-- What settled rounds of both PageRanks leave: every score is finite. Assumes nothing.
use Rattle.std.proofs.Common.{◌≡◌, ℕ, zero, suc, ◌<◌, Bool, true, false, cond, eqb, List, [], ◌∷◌, length, get_or, sym, refl, ap, ◌∙◌, arith, length-set, eqb-true}
use mathlib.Core.List.{foldl}
use lib.Ieee.{Float, nan, binary64, add, mul, div}
use lib.Ieee.Scale.{finite}
use Rattle.regions.specs.Region.{over}
use Rattle.regions.proofs.Fronts.{list_long}
use Rattle.regions.proofs.Parts.{over_at}
use Rattle.answers.specs.declared.Answer.{Answer}
use Rattle.answers.specs.declared.Settings.{Settings}
use Rattle.answers.specs.declared.Rounds.{Rounds}
use Rattle.answers.specs.Answers.{done, refuses, refused_with}
use Rattle.graph.specs.Given.{Given}
use Rattle.graph.specs.Left.{untouched, unless_refused}
use Rattle.lists.specs.Lists.{Share}
use Rattle.rounds.specs.Rounds.{after, Round, Out, outcome}
use Rattle.rounds.specs.Ending.{reported, scored}
use Rattle.rounds.specs.Vectors.{entry}
use Rattle.rounds.proofs.Rounds.{settled_holds}
use Rattle.rounds.proofs.Reader.{AllFinite, no_values}
use Rattle.links.specs.Links.{Links, gives, distributes, settles, divisor_of, divided_at, divided}
use Rattle.links.proofs.Changes.{settles_finite}

-- ---- lengths

gives_long : (c : Float) (shares : List Share) (y : List Float) → length (foldl (gives c) y shares) ≡ length y
gives_long c [] y = refl
gives_long c (s ∷ shares) y = gives_long c shares (gives c y s) ∙ length-set y s.target (add binary64 (entry y s.target) (mul binary64 c s.weight))

pub distributes_long : (l : Links) (d : Float) (x : List Float) (i : ℕ) (y : List Float) → length (distributes l d x i y) ≡ length y
unfolding distributes
distributes_long l d x i y = gives_long (div binary64 (mul binary64 d (entry x i)) (entry l.outs i)) (get_or l.shares i []) y

pub after_long : (turn : ℕ → List Float → List Float) → ((i : ℕ) (y : List Float) → length (turn i y) ≡ length y) → (n : ℕ) (y : List Float) → length (after turn n y) ≡ length y
unfolding after
after_long turn h zero y = refl
after_long turn h (suc n) y = h n (after turn n y) ∙ after_long turn h n y

pub divided_long : (flag : Bool) (xs : List Float) (n : ℕ) → length (divided flag xs n) ≡ n
unfolding divided
divided_long flag xs n = list_long (divided_at flag xs (divisor_of flag xs n)) n

-- ---- settled rounds leave finite scores
pub rounds_finite : (n : ℕ) (tolerance : Float) (next : List Float → List Float) (step : List Float → Round (List Float)) (limit : ℕ) (start : List Float)
    → ((x : List Float) → (step x).next ≡ next x) → ((x : List Float) → (step x).met ≡ settles tolerance n x (next x)) → ((x : List Float) → length (next x) ≡ n) → length start ≡ n
    → (outcome (eqb n 0) step limit start).settled ≡ true → AllFinite n (outcome (eqb n 0) step limit start).last
rounds_finite n tolerance next step limit start en em long begins =
    settled_holds (AllFinite n) step
    (λ x met. record {
      long = ap length (en x) ∙ long x;
      each = λ i l. ap (λ (y : List Float). finite (entry y i)) (en x) ∙ settles_finite tolerance n x (next x) (sym (em x) ∙ met) i l;
    })
    (eqb n 0) limit start
    (λ none. record { long = begins; each = λ i l. let e : n ≡ 0 = eqb-true n 0 none in absurd (omega arith) })

-- DONE: r is the rounds' report, and the last vector stands in front of the results
done_scored : (g : Given (List Float)) (settings : Settings) (o : Out (List Float)) (a : Answer) {r : Rounds} → (unless_refused g a (scored g settings o)).says ≡ done r
    → ((unless_refused g a (scored g settings o)).results ≡ over o.last g.results) × (reported settings o ≡ r)
done_scored g settings o a {r} = by (refuses a)
  where
    by : (b : Bool) → (cond b (untouched g (refused_with a)) (scored g settings o)).says ≡ done r
        → ((cond b (untouched g (refused_with a)) (scored g settings o)).results ≡ over o.last g.results) × (reported settings o ≡ r)
    by true e = absurd (no_values e)
    by false e = (refl, cc)

pub scores_finite : (g : Given (List Float)) (settings : Settings) (o : Out (List Float)) → (o.settled ≡ true → AllFinite g.nodes o.last) → (a : Answer) {r : Rounds}
    → (unless_refused g a (scored g settings o)).says ≡ done r → r.settled ≡ true → (i : ℕ) → i < g.nodes → finite (get_or (unless_refused g a (scored g settings o)).results i nan) ≡ true
scores_finite g settings o all a {r} e settled i l =
    let d = done_scored g settings o a e in
    let x = all (ap (λ (q : Rounds). q.settled) d.1 ∙ settled) in
    ap (λ (xs : List Float). finite (get_or xs i nan)) d.0 ∙ ap finite (over_at o.last g.results nan i (omega (arith, x.long))) ∙ x.each i l
