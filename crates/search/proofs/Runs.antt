-- The whole search: what holds before each visit, and at the end of the queue. Assumes nothing.
use mathlib.Core.Bool.{Bool}
use mathlib.Core.List.{List}
use Prim.Native.Nat.{ℕ, ◌+◌, ◌≤◌, ◌<◌}
use native.Mathlib.Omega.{arith}
use Rattle.std.specs.Prelude.{Result, Ok, Err}
use lib.ListN.{length, get_or}
use Rattle.graph.specs.Edges.{Edge, Graph, entries}
use Rattle.hops.specs.declared.TooManyPaths.{TooManyPaths}
use Rattle.hops.specs.Search.{graph_of, Kept, Search, Found, TooMany, Visiting, VisitPost}
use Rattle.hops.proofs.Search.{kept_none, kept_then, tail_most, next_node, finish}

-- The search that began with w₀ and c₀ is to visit the node at place `head` of its queue, if that is a place before `tail`; else it is over.
pub record Run (g : Graph) (limit s D Q : ℕ) (w₀ c₀ w c : List ℕ) (head tail : ℕ) : Type 0 where
  pub most : tail ≤ g.nodes
  pub kept : Kept g.nodes D Q w₀ c₀ w c
  pub going : head < tail → Search g limit s w c D Q head tail (get_or w (Q + head) 0) 0
  pub over : tail ≤ head → Found g limit s w c D Q tail

pub run_none : {g : Graph} {limit s D Q : ℕ} {w c : List ℕ} → Search g limit s w c D Q 0 1 (get_or w (Q + 0) 0) 0 → Run g limit s D Q w c w c 0 1
run_none {g} {limit} {s} {D} {Q} {w} {c} S =
    record { most = tail_most S; kept = kept_none g.nodes D Q w c; going = λ l. S; over = λ l. absurd (omega arith) }

module _ {n limit D Q : ℕ} (directed : Bool) (es : List Edge) (s : ℕ) {w₀ c₀ w c : List ℕ} {head tail : ℕ} (R : Run (graph_of n directed es) limit s D Q w₀ c₀ w c head tail) (l : head < tail) where
  pub run_visiting : Visiting n limit D Q head tail w c
  run_visiting = record { directed = directed; edges = es; start = s; search = R.going l }

  pub run_kept : {w' c' : List ℕ} {r : Result ℕ TooManyPaths} → VisitPost n limit D Q head tail w c w' c' r → Kept n D Q w₀ c₀ w' c'
  run_kept P = kept_then R.kept P.kept

  pub run_step : {w' c' : List ℕ} {end : ℕ} → VisitPost n limit D Q head tail w c w' c' (Ok end) → Run (graph_of n directed es) limit s D Q w₀ c₀ w' c' (head + 1) end
  run_step {w'} {c'} {end} P =
      record {
        most = tail_most here;
        kept = run_kept P;
        going = λ q. next_node here (omega arith) q;
        over = λ q. finish here (omega arith) q;
      }
    where
      here : Search (graph_of n directed es) limit s w' c' D Q head end (get_or w (Q + head) 0) (length (entries (graph_of n directed es) (get_or w (Q + head) 0)))
      here = P.visited directed es s (R.going l)

  pub run_paths : {w' c' : List ℕ} {e : TooManyPaths} → VisitPost n limit D Q head tail w c w' c' (Err e) → TooMany (graph_of n directed es) limit s
  run_paths P = P.visited directed es s (R.going l)
