-- The walk over the entries of one node, in a search that counts no ways: the counts of one that does are made up beside it. Assumes nothing.
use mathlib.Core.Path.{◌≡◌, refl, sym, ap, ◌∙◌, subst}
use mathlib.Core.Logic.{◌≢◌, ◌⊎◌, inl, inr}
use mathlib.Core.Bool.{Bool, true, false, cond}
use mathlib.Core.List.{List}
use Prim.Native.Nat.{ℕ, ◌+◌, ◌-◌, ◌≤◌, ◌<◌}
use native.Mathlib.Omega.{arith}
use borrow.Author.Tests.{eqb-true, eqb-false}
use lib.ListN.{length, get_or, set}
use Rattle.regions.proofs.Cases.{bool_cases}
use Rattle.regions.proofs.Fronts.{hit, miss}
use Rattle.graph.specs.Edges.{Graph, entries}
use Rattle.hops.specs.declared.Step.TheVariants.{First, Again, Other}
use Rattle.hops.specs.Sum.{only_if}
use Rattle.hops.specs.Hops.{unreached}
use Rattle.hops.specs.Search.{Search}
use Rattle.hops.proofs.Sums.{eq_or_ne}
use Rattle.hops.proofs.Search.{front, tail_most, node_lt, node_near}
use Rattle.hops.proofs.Scans.{Scan, scan_none, in_rows, scan_pre, scan_step, place_fits, scan_done}
use Rattle.reach.specs.Search.{MeetPre, unmet, Met, Walk, Near}

-- a higher limit
search_more : {g : Graph} {limit s : ℕ} {w c : List ℕ} {D Q head tail u j : ℕ} (more : ℕ) → limit ≤ more → Search g limit s w c D Q head tail u j → Search g more s w c D Q head tail u j
search_more more l S =
    record { space = S.space; done = S.done; rest = S.rest; queue = S.queue; passed = S.passed; small = λ v hv. omega (arith, S.small v hv); mid = S.mid }

scan_more : {g : Graph} {limit s D Q head : ℕ} {w₀ c₀ : List ℕ} {u further ways : ℕ} {w c : List ℕ} {p place : ℕ} (more : ℕ) → limit ≤ more
    → Scan g limit s D Q head w₀ c₀ u further ways w c p place → Scan g more s D Q head w₀ c₀ u further ways w c p place
scan_more more l N =
    record { j = N.j; tail = N.tail; at = N.at; most = N.most; free = N.free; far = N.far; has = N.has; search = search_more more l N.search; kept = N.kept }

-- The walk stands at place p of the workspace, an entry of u, and `place` is the next one of the queue. It began with w₀.
pub record Spreading (g : Graph) (s D Q head : ℕ) (w₀ : List ℕ) (u further : ℕ) (w : List ℕ) (p place : ℕ) : Type 0 where
  pub c₀ : List ℕ
  pub c : List ℕ
  pub limit : ℕ
  pub ways : ℕ
  pub scan : Scan g limit s D Q head w₀ c₀ u further ways w c p place
  pub near : (most : ℕ) → further ≤ most → Near g.nodes most D w₀ → Near g.nodes most D w

pub spreading_none : {g : Graph} {s D Q head tail u further : ℕ} {w : List ℕ} → further ≡ get_or w (D + u) 0 + 1 → Walk g s w D Q head tail u 0
    → Spreading g s D Q head w u further w (g.nodes + 1 + get_or w u 0) (Q + tail)
spreading_none {g} {s} {D} {Q} {head} {tail} {u} {further} {w} e W =
    record {
      c₀ = W.counts;
      c = W.counts;
      limit = W.most;
      ways = get_or W.counts u 0;
      scan = subst (λ (f : ℕ). Scan g W.most s D Q head w W.counts u f (get_or W.counts u 0) w W.counts (g.nodes + 1 + get_or w u 0) (Q + tail)) (sym e) (scan_none W.search);
      near = λ most l h. h;
    }

module _ {g : Graph} {s D Q head : ℕ} {w₀ : List ℕ} {u further : ℕ} {w : List ℕ} {p place : ℕ} (N : Spreading g s D Q head w₀ u further w p place) where
  pub place_in : place ≤ length w
  place_in = place_fits N.scan

  pub spreading_done : g.nodes + 1 + get_or w₀ (u + 1) 0 ≤ p → Walk g s w D Q head (place - Q) u (length (entries g u))
  spreading_done l = record { counts = N.c; most = N.limit; search = scan_done N.scan l }

  module _ (before : p < g.nodes + 1 + get_or w₀ (u + 1) 0) where
    pub entry_in : p < length w
    entry_in = in_rows N.scan before

    pub meet_pre : MeetPre (get_or w p 0) D place w
    meet_pre = let t = scan_pre N.scan before in record { distance = t.distance; slot = t.slot }

    module _ {w' : List ℕ} {r : ℕ} (M : Met (get_or w p 0) further D place w w' r) where
      x : ℕ
      x = get_or w p 0

      -- a distance that is given is the further one
      first_near : unmet (get_or w p 0) D w ≡ true → w' ≡ set (set w (D + get_or w p 0) further) place (get_or w p 0) → (most : ℕ) → further ≤ most → Near g.nodes most D w → Near g.nodes most D w'
      first_near b e most l h v hv k = go (eq_or_ne v (get_or w p 0))
        where
          apart : (i : ℕ) → i < g.nodes → D + i ≢ place
          apart i hi q = omega (arith, N.scan.free, N.scan.search.space.apart)

          label : get_or w' (D + v) 0 ≡ get_or (set w (D + get_or w p 0) further) (D + v) 0
          label = ap (λ (t : List ℕ). get_or t (D + v) 0) e ∙ miss (set w (D + get_or w p 0) further) place (get_or w p 0) (D + v) (apart v hv)

          go : (v ≡ get_or w p 0) ⊎ (v ≢ get_or w p 0) → get_or w' (D + v) 0 ≤ most
          go (inl q) = omega (arith, label, hit w (D + get_or w p 0) further (D + v) (omega arith) (omega (arith, meet_pre.distance)))
          go (inr q) =
              let f : get_or w' (D + v) 0 ≡ get_or w (D + v) 0 = label ∙ miss w (D + get_or w p 0) further (D + v) (λ z. q (omega arith)) in
              omega (arith, h v hv (λ z. k (f ∙ z)))

      Next : Type 0
      Next = Spreading g s D Q head w₀ u further w' (p + 1) (place + r)

      found : unmet (get_or w p 0) D w ≡ true → Next
      unfolding Next
      found b =
          let e : w' ≡ set (set w (D + get_or w p 0) further) place (get_or w p 0) = M.stored ∙ ap (λ (t : Bool). cond t (set (set w (D + get_or w p 0) further) place (get_or w p 0)) w) b in
          let one : r ≡ 1 = M.more ∙ ap (λ (t : Bool). only_if t 1) b in
          record {
            c₀ = N.c₀;
            c = set N.c (get_or w p 0) N.ways;
            limit = N.limit;
            ways = N.ways;
            scan = scan_step N.scan before w' (set N.c (get_or w p 0) N.ways) First (record { was = eqb-true _ _ b; stored = e; counted = refl }) r one;
            near = λ most l h. first_near b e most l (N.near most l h);
          }

      -- w is as it was
      module _ (b : unmet (get_or w p 0) D w ≡ false) where
        same : w' ≡ w
        same = M.stored ∙ ap (λ (t : Bool). cond t (set (set w (D + get_or w p 0) further) place (get_or w p 0)) w) b

        none : r ≡ 0
        none = M.more ∙ ap (λ (t : Bool). only_if t 1) b

        again : get_or w (D + get_or w p 0) 0 ≡ further → Next
        unfolding Next
        again e =
            let more : ℕ = N.limit + (get_or N.c (get_or w p 0) 0 + N.ways) in
            record {
              c₀ = N.c₀;
              c = set N.c (get_or w p 0) (get_or N.c (get_or w p 0) 0 + N.ways);
              limit = more;
              ways = N.ways;
              scan = scan_step (scan_more more (omega arith) N.scan) before w' (set N.c (get_or w p 0) (get_or N.c (get_or w p 0) 0 + N.ways)) Again
                  (record { was = e; known = λ z. eqb-false _ _ b (e ∙ z); same = same; counted = refl; within = omega arith }) r none;
              near = λ most l h. subst (λ (t : List ℕ). Near g.nodes most D t) (sym same) (N.near most l h);
            }

        other : get_or w (D + get_or w p 0) 0 ≢ further → Next
        unfolding Next
        other d =
            record {
              c₀ = N.c₀;
              c = N.c;
              limit = N.limit;
              ways = N.ways;
              scan = scan_step N.scan before w' N.c Other (record { known = eqb-false _ _ b; other = d; same = same; counts = refl }) r none;
              near = λ most l h. subst (λ (t : List ℕ). Near g.nodes most D t) (sym same) (N.near most l h);
            }

      pub spreading_more : Spreading g s D Q head w₀ u further w' (p + 1) (place + r)
      unfolding Next
      spreading_more = go (bool_cases (unmet (get_or w p 0) D w)) (eq_or_ne (get_or w (D + get_or w p 0) 0) further)
        where
          go : (unmet (get_or w p 0) D w ≡ true) ⊎ (unmet (get_or w p 0) D w ≡ false) → (get_or w (D + get_or w p 0) 0 ≡ further) ⊎ (get_or w (D + get_or w p 0) 0 ≢ further) → Next
          go (inl b) d = found b
          go (inr b) (inl e) = again b e
          go (inr b) (inr d) = other b d

      pub grows_by : r ≤ 1
      grows_by = go (bool_cases (unmet (get_or w p 0) D w))
        where
          go : (unmet (get_or w p 0) D w ≡ true) ⊎ (unmet (get_or w p 0) D w ≡ false) → r ≤ 1
          go (inl b) = omega (arith, M.more ∙ ap (λ (t : Bool). only_if t 1) b)
          go (inr b) = omega (arith, none b)

-- what the walk reads before its first entry
pub record Starts (n D Q tail u : ℕ) (w : List ℕ) : Type 0 where
  pub node : u < n
  pub distance : D + u < length w
  pub small : get_or w (D + u) 0 + 1 ≤ unreached
  pub first : u + 1 < length w
  pub row_from : n + 1 + get_or w u 0 ≤ length w
  pub row_to_lem : n + 1 + get_or w (u + 1) 0 ≤ length w
  pub place : Q + tail ≤ length w
  pub most : tail ≤ n

pub starts : {g : Graph} {s D Q head tail u j : ℕ} {w : List ℕ} → Walk g s w D Q head tail u j → Starts g.nodes D Q tail u w
starts {g} {s} {D} {Q} {head} {tail} {u} {j} {w} W =
    let S = W.search in
    let H = S.space in
    let l = node_lt S in
    record {
      node = l;
      distance = omega (arith, l, H.apart, H.room);
      small = omega (arith, node_near S, tail_most S, H.valid.few);
      first = omega (arith, l, front H, H.apart, H.room);
      row_from = omega (arith, H.rows.long u l, H.rows.inside u l, H.apart, H.room);
      row_to_lem = omega (arith, H.rows.inside u l, H.apart, H.room);
      place = omega (arith, tail_most S, H.room);
      most = tail_most S;
    }
