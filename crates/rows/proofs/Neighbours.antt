-- The rows that the walks make are the neighbour entries of the edge list. Assumes nothing.
use mathlib.Core.Path.{◌≡◌, refl, sym, ap, ◌∙◌}
use mathlib.Core.Bool.{Bool, true, false, not, ◌&&◌, cond}
use mathlib.Core.List.{List, [], ◌∷◌, ◌++◌, append_assoc, append-nil}
use Prim.Native.Nat.{ℕ, zero, suc, ◌≤◌, ◌<◌}
use native.Mathlib.Omega.{arith}
use lib.Dec.{eqb}
use lib.ListN.{length, get_or, take}
use lib.Seq.{take-suc, take-length}
use lib.Ieee.{Float, nan}
use Rattle.graph.specs.Edges.{Edge, edge, edges_of, newest_first, only, gives_out, gives_in, neighbours}
use Rattle.graph.specs.Pres.{Sized}
use Rattle.graph.proofs.Edges.{edges_long, edges_at, no_edge}
use Rattle.rows.specs.Walks.{cons_if, row_to, back}

-- the newest edge gives first
newest_last : (gives : Edge → List ℕ) (es : List Edge) (e : Edge) → newest_first gives (es ++ (e ∷ [])) ≡ gives e ++ newest_first gives es
unfolding newest_first
newest_last gives [] e = sym (append-nil (gives e))
newest_last gives (x ∷ xs) e = ap (λ (l : List ℕ). l ++ gives x) (newest_last gives xs e) ∙ append_assoc (gives e) (newest_first gives xs) (gives x)

cons_only : (b : Bool) (x : ℕ) (r : List ℕ) → cons_if b x r ≡ only b x ++ r
cons_only true x r = refl
cons_only false x r = refl

module _ (fs ts : List ℕ) (xs : List Float) (s : Sized fs ts xs) (v : ℕ) where
  abbrev E : List Edge
  E = edges_of fs ts xs

  take_more : (gives : Edge → List ℕ) (i : ℕ) → i < length fs → newest_first gives (take (suc i) E) ≡ gives (edge i (get_or fs i 0) (get_or ts i 0) (get_or xs i nan)) ++ newest_first gives (take i E)
  take_more gives i l =
      ap (newest_first gives) (take-suc E i no_edge (omega (arith, edges_long fs ts xs s)))
      ∙ newest_last gives (take i E) (get_or E i no_edge)
      ∙ ap (λ (e : Edge). gives e ++ newest_first gives (take i E)) (edges_at fs ts xs no_edge i s l)

  out_to : (i : ℕ) → i ≤ length fs → row_to false fs ts v i ≡ newest_first (gives_out v) (take i E)
  unfolding row_to newest_first
  out_to zero l = refl
  out_to (suc i) l =
      cons_only (eqb (get_or fs i 0) v) (get_or ts i 0) (row_to false fs ts v i)
      ∙ ap (λ (r : List ℕ). only (eqb (get_or fs i 0) v) (get_or ts i 0) ++ r) (out_to i (omega arith))
      ∙ sym (take_more (gives_out v) i (omega arith))

  in_to_lem : (i : ℕ) → i ≤ length fs → row_to true ts fs v i ≡ newest_first (gives_in v) (take i E)
  unfolding row_to newest_first
  in_to_lem zero l = refl
  in_to_lem (suc i) l =
      cons_only (eqb (get_or ts i 0) v && not (eqb (get_or fs i 0) v)) (get_or fs i 0) (row_to true ts fs v i)
      ∙ ap (λ (r : List ℕ). only (eqb (get_or ts i 0) v && not (eqb (get_or fs i 0) v)) (get_or fs i 0) ++ r) (in_to_lem i (omega arith))
      ∙ sym (take_more (gives_in v) i (omega arith))

  whole : take (length fs) E ≡ E
  whole = rw (← (edges_long fs ts xs s)) (take-length E)

  back_to : (directed : Bool) → row_to true ts fs v (back directed (length fs)) ≡ cond directed [] (newest_first (gives_in v) E)
  unfolding row_to
  back_to true = refl
  back_to false = in_to_lem (length fs) (omega arith) ∙ ap (newest_first (gives_in v)) whole

  pub rows_are : (directed : Bool) → row_to false fs ts v (length fs) ++ row_to true ts fs v (back directed (length fs)) ≡ neighbours directed E v
  unfolding neighbours
  rows_are directed =
      ap (λ (r : List ℕ). r ++ row_to true ts fs v (back directed (length fs))) (out_to (length fs) (omega arith) ∙ ap (newest_first (gives_out v)) whole)
      ∙ ap (λ (r : List ℕ). newest_first (gives_out v) E ++ r) (back_to directed)
