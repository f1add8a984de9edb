-- A store between the ends and the entries of the predecessors changes no search. Assumes nothing.
use mathlib.Core.Path.{◌≡◌, sym, ap, ◌∙◌, subst}
use mathlib.Core.List.{List}
use Prim.Native.Nat.{ℕ, ◌+◌, ◌≤◌, ◌<◌}
use native.Mathlib.Omega.{arith}
use lib.ListN.{get_or, set, take, length-set}
use Rattle.regions.specs.Region.{list_of}
use Rattle.regions.proofs.Fronts.{miss}
use Rattle.graph.specs.Edges.{Graph, entries}
use Rattle.hops.specs.Hops.{dist}
use Rattle.hops.specs.Search.{cells}
use Rattle.hops.proofs.Search as search
use Rattle.predecessors.specs.declared.Tracks.{Tracks}
use Rattle.predecessors.specs.Tracks.{so_far, Holding, Ordered, Tracked, Stays}
use Rattle.predecessors.proofs.Same.{queue_same, search_same}
use Rattle.predecessors.proofs.Holding.{slots_after, holding_same}
use Rattle.predecessors.proofs.Tours.{Tour, u_lt}

gap_holding : {n : ℕ} {w : List ℕ} {tr : Tracks} {lists : ℕ → List ℕ} (at v : ℕ) → tr.last + n ≤ at → at < tr.base → tr.first + n ≤ tr.last → Holding n tr w lists → Holding n tr (set w at v) lists
gap_holding {n} {w} {tr} at v above below h H =
    record {
      filled = λ x l. omega (arith, H.filled x l, miss w at v (tr.first + x) (λ e. omega arith), miss w at v (tr.last + x) (λ e. omega arith));
      kept = λ x k l m.
          ap (λ (o : ℕ). get_or (set w at v) (tr.base + (o + k)) 0) (miss w at v (tr.first + x) (λ e. omega arith)) ∙ miss w at v (tr.base + (get_or w (tr.first + x) 0 + k)) (λ e. omega arith) ∙ H.kept x k l m;
    }

pub gap_stays : {n : ℕ} {tr : Tracks} {w₀ c₀ w c : List ℕ} (at v : ℕ) → tr.last + n ≤ at → at < tr.base → tr.places.distances ≤ tr.last → Stays n tr w₀ c₀ w c → Stays n tr w₀ c₀ (set w at v) c
gap_stays {n} {tr} {w₀} {c₀} {w} at v above below h S =
    record {
      long = length-set w at v ∙ S.long;
      rows = λ i l. miss w at v i (λ e. omega arith) ∙ S.rows i l;
      offsets = λ i a b. miss w at v i (λ e. omega arith) ∙ S.offsets i a b;
      behind = λ i l. miss w at v i (λ e. omega arith) ∙ S.behind i l;
      wide = S.wide;
    }

pub gap_tracked : {g : Graph} {tr : Tracks} {s : ℕ} {w c : List ℕ} {head tail u j : ℕ} (at v : ℕ) → tr.last + g.nodes ≤ at → at < tr.base → Tracked g tr s w c head tail u j → Tracked g tr s (set w at v) c head tail u j
gap_tracked {g} {tr} {s} {w} {c} {head} {tail} {u} {j} at v above below T =
    let low : (i : ℕ) → i < tr.last → get_or (set w at v) i 0 ≡ get_or w i 0 = λ i l. miss w at v i (λ e. omega arith) in
    let e : list_of (cells (set w at v) tr.places.queue) tail ≡ list_of (cells w tr.places.queue) tail =
    queue_same w (set w at v) tr.places.queue tail (λ i l. low i (omega (arith, search.tail_most T.search, T.slots.queue, T.slots.firsts)))
    in
    record {
      search = search_same (set w at v) T.search (length-set w at v) (λ i l. low i (omega (arith, T.slots.queue, T.slots.firsts)));
      slots = slots_after T.slots (set w at v) (length-set w at v) (λ i a b. low i b);
      order = subst (λ (q : List ℕ). Ordered g s q head u j) (sym e) T.order;
      holding =
          holding_same (gap_holding at v above below (omega (arith, T.slots.firsts)) T.holding)
          (λ y h. ap (λ (q : List ℕ). so_far g (dist g s) (take head q) u (take j (entries g u)) y) e);
    }

-- the walk over the entries of a node goes on where it was
pub gap_tour : {g : Graph} {tr : Tracks} {s head : ℕ} {w₀ c₀ : List ℕ} {u further ways : ℕ} {w c : List ℕ} {p place : ℕ} (at v : ℕ) → tr.last + g.nodes ≤ at → at < tr.base → Tour g tr s head w₀ c₀ u further ways w c p place
    → Tour g tr s head w₀ c₀ u further ways (set w at v) c p place
gap_tour {g} {tr} {s} {head} {w₀} {c₀} {u} {further} {ways} {w} at v above below N =
    let T = N.tracked in
    let before : tr.places.distances + g.nodes ≤ tr.last = omega (arith, T.search.space.apart, T.slots.queue, T.slots.firsts) in
    record {
      j = N.j;
      tail = N.tail;
      at = omega (arith, N.at, miss w at v u (λ e. omega (arith, u_lt N, before)));
      most = N.most;
      free = N.free;
      far = omega (arith, N.far, miss w at v (tr.places.distances + u) (λ e. omega (arith, u_lt N, before)));
      has = N.has;
      tracked = gap_tracked at v above below T;
      stays = gap_stays at v above below (omega (arith, before)) N.stays;
    }
