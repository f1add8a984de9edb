-- A visit's walk over the entries of its node: what holds at each of them, and at the end. Assumes nothing.
use mathlib.Core.Path.{◌≡◌, refl, sym, ap, ◌∙◌, subst}
use mathlib.Core.List.{List}
use Prim.Native.Nat.{ℕ, ◌+◌, ◌-◌, ◌≤◌, ◌<◌}
use native.Mathlib.Omega.{arith}
use Rattle.std.specs.Prelude.{Result, Ok}
use lib.ListN.{length, get_or}
use Rattle.graph.specs.Edges.{Graph, entries}
use Rattle.hops.specs.declared.Step.{Step}
use Rattle.hops.specs.declared.Step.TheVariants.{First, Again, Other}
use Rattle.hops.specs.declared.TooManyPaths.{TooManyPaths}
use Rattle.hops.specs.Hops.{unreached}
use Rattle.hops.specs.Search.{Kept, Search, TooMany, Visiting, TouchPre, Exceeded, Touched, grown}
use Rattle.hops.proofs.Search.{front, kept_none, kept_then, before_tail, node_lt, node_near, tail_most, touch_pre, step, paths, step_kept, node_kept}

-- the rows are as they were
pub kept_low : {n D Q : ℕ} {w c w' c' : List ℕ} → Kept n D Q w c w' c' → D ≤ Q → (i : ℕ) → i < D → get_or w' i 0 ≡ get_or w i 0
kept_low K l i h = K.narrow.rest 0 i (λ p q. omega arith) (λ p q. omega arith)

-- The walk stands at place p of the workspace, an entry of u, and `place` is the next one of the queue. It began with w₀ and c₀.
pub record Scan (g : Graph) (limit s D Q head : ℕ) (w₀ c₀ : List ℕ) (u further ways : ℕ) (w c : List ℕ) (p place : ℕ) : Type 0 where
  pub j : ℕ
  pub tail : ℕ
  pub at : p ≡ g.nodes + 1 + (get_or w u 0 + j)
  pub most : j ≤ length (entries g u)
  pub free : place ≡ Q + tail
  pub far : further ≡ get_or w (D + u) 0 + 1
  pub has : ways ≡ get_or c u 0
  pub search : Search g limit s w c D Q head tail u j
  pub kept : Kept g.nodes D Q w₀ c₀ w c

pub scan_none : {g : Graph} {limit s D Q head tail u : ℕ} {w c : List ℕ} → Search g limit s w c D Q head tail u 0
    → Scan g limit s D Q head w c u (get_or w (D + u) 0 + 1) (get_or c u 0) w c (g.nodes + 1 + get_or w u 0) (Q + tail)
scan_none {g} {limit} {s} {D} {Q} {head} {tail} {u} {w} {c} S =
    record {
      j = 0;
      tail = tail;
      at = omega arith;
      most = omega arith;
      free = refl;
      far = refl;
      has = refl;
      search = S;
      kept = kept_none g.nodes D Q w c;
    }

module _ {g : Graph} {limit s D Q head : ℕ} {w₀ c₀ : List ℕ} {u further ways : ℕ} {w c : List ℕ} {p place : ℕ} (N : Scan g limit s D Q head w₀ c₀ u further ways w c p place) where
  row_end : get_or w₀ (u + 1) 0 ≡ get_or w u 0 + length (entries g u)
  row_end =
      sym (kept_low N.kept (omega (arith, N.search.space.apart)) (u + 1) (omega (arith, front N.search.space, node_lt N.search)))
      ∙ N.search.space.rows.long u (node_lt N.search)

  -- before the row's end there is an entry
  module _ (before : p < g.nodes + 1 + get_or w₀ (u + 1) 0) where
    pub more : N.j < length (entries g u)
    more = omega (arith, row_end, N.at)

    pub in_rows : p < length w
    in_rows = omega (arith, row_end, N.at, N.search.space.rows.long u (node_lt N.search), N.search.space.rows.inside u (node_lt N.search), N.search.space.apart, N.search.space.room)

    pub entry_is : get_or w p 0 ≡ get_or (entries g u) N.j 0
    entry_is = ap (λ (i : ℕ). get_or w i 0) N.at ∙ N.search.space.rows.entry u N.j (node_lt N.search) more

    pub scan_pre : TouchPre (get_or w p 0) ways limit D place w c
    scan_pre = touch_pre N.search more {further = further} entry_is N.far N.has N.free

    module _ (w' c' : List ℕ) where
      one_kept : (r : Result Step TooManyPaths) → Touched (get_or w p 0) further ways limit D place w c w' c' r → Kept g.nodes D Q w c w' c'
      one_kept r T = step_kept N.search more entry_is N.far N.has N.free w' c' r T

      pub scan_kept : (r : Result Step TooManyPaths) → Touched (get_or w p 0) further ways limit D place w c w' c' r → Kept g.nodes D Q w₀ c₀ w' c'
      scan_kept r T = kept_then N.kept (one_kept r T)

      pub scan_step : (t : Step) → Touched (get_or w p 0) further ways limit D place w c w' c' (Ok t) → (k : ℕ) → k ≡ grown t → Scan g limit s D Q head w₀ c₀ u further ways w' c' (p + 1) (place + k)
      scan_step t T k ek =
          let n = node_kept N.search more entry_is N.far N.has N.free w' c' (Ok t) T in
          record {
            j = N.j + 1;
            tail = N.tail + grown t;
            at = omega (arith, N.at, kept_low (one_kept (Ok t) T) (omega (arith, N.search.space.apart)) u (omega (arith, front N.search.space, node_lt N.search)));
            most = omega (arith, more);
            free = omega (arith, N.free, ek);
            far = N.far ∙ ap (λ (d : ℕ). d + 1) (sym n.0);
            has = N.has ∙ sym n.1;
            search = step N.search more entry_is N.far N.has N.free w' c' t T;
            kept = scan_kept (Ok t) T;
          }

      pub scan_paths : Exceeded (get_or w p 0) further ways limit D w c w' c' → TooMany g limit s
      scan_paths T = paths N.search more entry_is N.far N.has N.free w' c' T

  -- the next place of the queue is in the workspace or at its end
  pub place_fits : place ≤ length w
  place_fits = omega (arith, N.free, tail_most N.search, N.search.space.room)

  -- at the row's end all entries have been looked at
  pub scan_done : g.nodes + 1 + get_or w₀ (u + 1) 0 ≤ p → Search g limit s w c D Q head (place - Q) u (length (entries g u))
  scan_done l =
      let e : N.j ≡ length (entries g u) = omega (arith, row_end, N.at, N.most) in
      let t : N.tail ≡ place - Q = omega (arith, N.free) in
      subst (λ (k : ℕ). Search g limit s w c D Q head (place - Q) u k) e (subst (λ (k : ℕ). Search g limit s w c D Q head k u N.j) t N.search)

-- what the visit reads before its first entry
pub record Begins (n D Q head tail : ℕ) (w c : List ℕ) (u : ℕ) : Type 0 where
  pub slot : Q + head < length w
  pub node : u < n
  pub distance : D + u < length w
  pub near : get_or w (D + u) 0 + 1 ≤ unreached
  pub counted : u < length c
  pub first : u + 1 < length w
  pub row_from : n + 1 + get_or w u 0 ≤ length w
  pub row_to_lem : n + 1 + get_or w (u + 1) 0 ≤ length w
  pub place : Q + tail ≤ length w

pub begun : {n limit D Q head tail : ℕ} {w c : List ℕ} → Visiting n limit D Q head tail w c → Begins n D Q head tail w c (get_or w (Q + head) 0)
begun {n} {limit} {D} {Q} {head} {tail} {w} {c} at =
    let S = at.search in
    let H = S.space in
    let u = node_lt S in
    record {
      slot = omega (arith, before_tail S, tail_most S, H.room);
      node = u;
      distance = omega (arith, u, H.apart, H.room);
      near = omega (arith, node_near S, tail_most S, H.valid.few);
      counted = omega (arith, u, H.counts);
      first = omega (arith, u, front H, H.apart, H.room);
      row_from = omega (arith, H.rows.long _ u, H.rows.inside _ u, H.apart, H.room);
      row_to_lem = omega (arith, H.rows.inside _ u, H.apart, H.room);
      place = omega (arith, tail_most S, H.room);
    }

pub grown_most : (t : Step) → grown t ≤ 1
grown_most First = omega arith
grown_most Again = omega arith
grown_most Other = omega arith
