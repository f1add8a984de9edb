-- Each score that `laplacian` leaves is a whole number, unrounded: d*d + d + twice the neighbours' d. Assumes nothing.
use Rattle.std.proofs.Common.{◌≡◌, ℕ, ◌+◌, ◌*◌, ◌^◌, ◌<◌, ◌≤◌, Bool, true, false, cond, eqb, List, [], ◌∷◌, ◌++◌, length, get_or, sym, refl, ap, ◌∙◌, subst, mul-le-mul, arith, length-append}
use mathlib.Core.List.{foldl}
use lib.Ieee.{Float, nan, inf, fin, binary64, add, mul}
use lib.Ieee.Exact.{HasValue}
use lib.Ieee.Scale.{finite}
use Rattle.regions.specs.Doubles.{double}
use Rattle.answers.specs.Answers.{done}
use Rattle.graph.specs.Edges.{Edge, newest_first, only, enters_from, gives_out, gives_in, neighbours}
use Rattle.graph.specs.Given.{Given, edges_in}
use Rattle.graph.specs.Pres.{Passed}
use Rattle.graph.proofs.Edges.{edges_long}
use Rattle.laplacian.specs.Laplacian.{with_neighbour, laplacian_score, laplacian_scores, laplacian_outcome}
use Rattle.laplacian.proofs.Steps.{score_tests, ready, done_passed, done_at}
use Rattle.laplacian.proofs.Whole.{double_value, add_whole, mul_whole, two_is}

-- ---- the whole number

-- the entries of the nodes of a list, together
unfoldable pub entries_of : (ℕ → List ℕ) → List ℕ → ℕ
entries_of rows [] = 0
entries_of rows (u ∷ us) = length (rows u) + entries_of rows us

-- d*d + d + twice the neighbours' d, for the node v
abbrev pub whole_score : (ℕ → List ℕ) → ℕ → ℕ
whole_score rows v = length (rows v) * length (rows v) + length (rows v) + 2 * entries_of rows (rows v)

-- ---- rows of at most 65,536 entries, twice the most edges
module _ (rows : ℕ → List ℕ) (short : (v : ℕ) → length (rows v) ≤ 65536) where
  entries_most : (us : List ℕ) → entries_of rows us ≤ 65536 * length us
  unfolding entries_of
  entries_most [] = omega arith
  entries_most (u ∷ us) = omega (arith, short u, entries_most us)

  -- one neighbour more
  neighbour_whole : (s u : ℕ) → s ≤ 2 ^ 53 → with_neighbour rows (double s) u ≡ double (s + 2 * length (rows u))
  neighbour_whole s u l =
      let k = length (rows u) in
      ap (λ (x : Float). add binary64 (double s) (mul binary64 x (double k))) two_is
      ∙ ap (add binary64 (double s)) (mul_whole 2 k (omega arith) (omega (arith, short u)))
      ∙ add_whole s (2 * k) l (omega (arith, short u))

  neighbours_whole : (us : List ℕ) (s : ℕ) → s + 131072 * length us ≤ 2 ^ 53 → foldl (with_neighbour rows) (double s) us ≡ double (s + 2 * entries_of rows us)
  unfolding entries_of
  neighbours_whole [] s l = ap double (omega arith)
  neighbours_whole (u ∷ us) s l =
      ap (λ (x : Float). foldl (with_neighbour rows) x us) (neighbour_whole s u (omega arith))
      ∙ neighbours_whole us (s + 2 * length (rows u)) (omega (arith, short u))
      ∙ ap double (omega arith)

  square_most : (v : ℕ) → length (rows v) * length (rows v) ≤ 65536 * 65536
  square_most v = mul-le-mul (short v) (short v)

  pub whole_most : (v : ℕ) → whole_score rows v ≤ 2 ^ 53
  whole_most v = omega (arith, short v, square_most v, entries_most (rows v))

  pub score_whole : (v : ℕ) → laplacian_score rows v ≡ double (whole_score rows v)
  unfolding laplacian_score
  score_whole v =
      let d = length (rows v) in
      ap (λ (x : Float). foldl (with_neighbour rows) (add binary64 x (double d)) (rows v)) (mul_whole d d (omega (arith, short v)) (omega (arith, short v)))
      ∙ ap (λ (x : Float). foldl (with_neighbour rows) x (rows v)) (add_whole (d * d) d (omega (arith, square_most v)) (omega (arith, short v)))
      ∙ neighbours_whole (rows v) (d * d + d) (omega (arith, short v, square_most v))

-- ---- the rows of a graph: none has more entries than twice the edges
only_most : (b : Bool) (x : ℕ) → length (only b x) ≤ 1
only_most true x = omega arith
only_most false x = omega arith

newest_most : (gives : Edge → List ℕ) → ((e : Edge) → length (gives e) ≤ 1) → (es : List Edge) → length (newest_first gives es) ≤ length es
unfolding newest_first
newest_most gives h [] = omega arith
newest_most gives h (e ∷ es) = omega (arith, length-append (newest_first gives es) (gives e), h e, newest_most gives h es)

row_most : (directed : Bool) (es : List Edge) (v : ℕ) → length (neighbours directed es v) ≤ 2 * length es
unfolding neighbours
row_most directed es v = by directed
  where
    outs : length (newest_first (gives_out v) es) ≤ length es
    outs = newest_most (gives_out v) (λ e. only_most (eqb e.from v) e.to) es

    by : (b : Bool) → length (newest_first (gives_out v) es ++ cond b [] (newest_first (gives_in v) es)) ≤ 2 * length es
    by true = omega (arith, outs, length-append (newest_first (gives_out v) es) [])
    by false = omega (arith, outs, newest_most (gives_in v) (λ e. only_most (enters_from v e) e.from) es, length-append (newest_first (gives_out v) es) (newest_first (gives_in v) es))

-- ---- the scores that a call leaves
value_finite : (x : Float) (a : ℕ) → HasValue x false a 1 → finite x ≡ true
value_finite nan a v = absurd v
value_finite (inf s) a v = absurd v
value_finite (fin s m e) a v = refl

module _ (g : Given (List Float)) (e : (laplacian_outcome g).says ≡ done tt) where
  abbrev rows : ℕ → List ℕ
  rows = neighbours g.directed (edges_in g)

  nothing_refused : Passed (score_tests g)
  unfolding laplacian_outcome laplacian_scores
  nothing_refused = done_passed g (laplacian_score rows) e

  short : (v : ℕ) → length (rows v) ≤ 65536
  short v =
      let s = (ready g nothing_refused).sound in
      omega (arith, row_most g.directed (edges_in g) v, edges_long g.from g.to g.weight s.sized, s.limits.edges)

  -- DONE leaves at each node its whole number, unrounded: the score is finite, its sign is +, and it equals that number
  pub laplacian_whole : (v : ℕ) → v < g.nodes → HasValue (get_or (laplacian_outcome g).results v nan) false (whole_score rows v) 1
  unfolding laplacian_outcome laplacian_scores
  laplacian_whole v l =
      subst (λ (x : Float). HasValue x false (whole_score rows v) 1) (sym (done_at g (laplacian_score rows) nothing_refused v l ∙ score_whole rows short v))
      (double_value (whole_score rows v) (whole_most rows short v))

  -- so no score is a NaN or an infinity
  pub laplacian_finite : (v : ℕ) → v < g.nodes → finite (get_or (laplacian_outcome g).results v nan) ≡ true
  laplacian_finite v l = value_finite (get_or (laplacian_outcome g).results v nan) (whole_score rows v) (laplacian_whole v l)
