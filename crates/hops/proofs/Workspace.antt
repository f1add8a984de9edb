-- The workspace before a search: a sound graph, its rows as built, every distance at "not reached", every count at 0. Assumes nothing.
use mathlib.Core.Path.{◌≡◌, sym, ap, ◌∙◌}
use mathlib.Core.Bool.{Bool}
use mathlib.Core.List.{List, [], ◌∷◌}
use Prim.Native.Nat.{ℕ, suc, ◌+◌, ◌-◌, ◌≤◌, ◌<◌}
use native.Mathlib.Nat.{zero-add}
use native.Mathlib.Omega.{arith}
use lib.ListN.{length, get_or}
use lib.Ieee.{Float}
use Rattle.regions.specs.Region.{Filled}
use Rattle.graph.specs.Edges.{Graph, edges_from, edges_of, neighbours}
use Rattle.graph.specs.Pres.{Sound}
use Rattle.rows.specs.Rows.{rows_front, Built}
use Rattle.rows.proofs.Reading.{row_length, row_entry}
use Rattle.hops.specs.Hops.{unreached, EndsIn, Valid}
use Rattle.hops.specs.Search.{graph_of, RowsOf, Space, Fresh}
use Rattle.hops.proofs.Search.{rows_after}

ends_in : (n k : ℕ) (fs ts : List ℕ) (xs : List Float) → ((i : ℕ) → i < length fs → get_or fs i 0 < n) → ((i : ℕ) → i < length fs → get_or ts i 0 < n) → EndsIn n (edges_from k fs ts xs)
unfolding edges_from
ends_in n k [] ts xs a b = tt
ends_in n k (f ∷ fs) [] xs a b = tt
ends_in n k (f ∷ fs) (t ∷ ts) [] a b = tt
ends_in n k (f ∷ fs) (t ∷ ts) (x ∷ xs) a b =
    (a 0 (omega arith), b 0 (omega arith), ends_in n (suc k) fs ts xs (λ i l. a (suc i) (omega arith)) (λ i l. b (suc i) (omega arith)))

module _ {n : ℕ} (directed : Bool) {from to : List ℕ} {weight : List Float} where
  pub valid : Sound n from to weight → Valid (graph_of n directed (edges_of from to weight))
  valid s = record { inside = ends_in n 0 from to weight s.ends.froms s.ends.tos; few = omega (arith, s.limits.nodes) }

  pub rows_of : {w w' : List ℕ} {top : ℕ} → Built n directed from to weight w w' → rows_front n (length from) ≤ top → RowsOf (graph_of n directed (edges_of from to weight)) w' top
  rows_of {w} {w'} B l =
      record {
        long = λ v hv. omega (arith, long v hv, B.fit.rises v hv);
        inside = λ v hv. omega (arith, B.within v hv);
        entry = λ v k hv q. sym (row_entry n w' v k (omega (arith, long v hv))) ∙ ap (λ (r : List ℕ). get_or r k 0) (B.rows v hv);
      }
    where
      long : (v : ℕ) → v < n → length (neighbours directed (edges_of from to weight) v) ≡ get_or w' (v + 1) 0 - get_or w' v 0
      long v hv = sym (ap length (B.rows v hv)) ∙ row_length n w' v (B.fit.rises v hv) (B.fit.inside v hv)

-- the rows stand in w, and then the distances and counts are filled
pub space_filled : {g : Graph} {s D Q : ℕ} {w w' c c' : List ℕ} → Valid g → s < g.nodes → RowsOf g w D → D + g.nodes ≤ Q → Q + g.nodes ≤ length w → g.nodes ≤ length c
    → Filled w D g.nodes unreached w' → Filled c 0 g.nodes 0 c' → Space g s w' c' D Q
space_filled {g} {s} {D} {Q} {w} {w'} ok hs R apart room counts d z =
    record {
      valid = ok;
      start = hs;
      rows = rows_after w' R (omega (arith, R.inside s hs)) (λ i l. d.frame.rest 0 i (λ p q. omega arith));
      apart = apart;
      room = omega (arith, d.frame.long);
      counts = omega (arith, z.frame.long);
    }

pub fresh_filled : {n D : ℕ} {w w' c c' : List ℕ} → Filled w D n unreached w' → Filled c 0 n 0 c' → Fresh n w' c' D
fresh_filled {n} {D} {w} {w'} {c} {c'} d z = record { far = λ v hv. d.at 0 v hv; none = λ v hv. ap (λ (i : ℕ). get_or c' i 0) (sym (zero-add v)) ∙ z.at 0 v hv }
