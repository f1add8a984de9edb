-- A search within a hop limit: when it ends, its queue holds the nodes within the limit, each once. Assumes nothing.
use mathlib.Core.Path.{◌≡◌, refl, sym, ap, ◌∙◌, subst}
use mathlib.Core.Logic.{◌≢◌, ◌⊎◌, inl, inr}
use mathlib.Core.Bool.{Bool, true, false, not, ◌&&◌}
use mathlib.Core.List.{List, ◌∷◌, ◌++◌, Memᴰ}
use Prim.Native.Nat.{ℕ, ◌+◌, ◌≤◌, ◌<◌}
use native.Mathlib.Nat.{mul-one}
use native.Mathlib.Omega.{arith}
use borrow.Author.Tests.{leb-true, le-leb}
use lib.Dec.{eqb, leb}
use lib.ListN.{length, get_or, set, replicate, length-replicate, get_or-replicate}
use Rattle.regions.specs.Region.{list_of, Frame2}
use Rattle.regions.proofs.Fronts.{list_long, hit, miss}
use Rattle.regions.proofs.Parts.{list_at_lem}
use Rattle.regions.proofs.Frames.{frame2_then}
use Rattle.graph.specs.Edges.{Edge, Graph, entries}
use Rattle.hops.specs.Sum.{sum_over, below, only_if, same, times}
use Rattle.hops.specs.Hops.{unreached, walks, dist, Valid}
use Rattle.hops.specs.Search.{cells, graph_of, has, Space, Begun, Search}
use Rattle.hops.proofs.Sums.{eq_or_ne, eqb_yes, eqb_no, same_yes, same_no, sum_add, sum_same, sum_times, sum_length, below_cong}
use Rattle.hops.proofs.Dist.{Fewest, Never, fewest_dist, dist_fewest, dist_cases}
use Rattle.hops.proofs.Steps.{has_yes, has_no, queued}
use Rattle.hops.proofs.Partial.{within, label_dist}
use Rattle.hops.proofs.Search.{get_or_mem, mem_get_or, queue_long, tail_most, next_node, finish, first, begun_kept}
use Rattle.reach.specs.Reach.{in_reach, others_in}
use Rattle.reach.specs.Search.{Walk, Near, SpreadPre, SpreadPost, Within, Ground}

-- ---- the test

in_reach_lem : (g : Graph) (limit s v : ℕ) → dist g s v ≢ unreached → dist g s v ≤ limit → in_reach g limit s v ≡ true
in_reach_lem g limit s v n l = both (eqb_no n) (le-leb _ _ l)
  where
    both : {a b : Bool} → a ≡ false → b ≡ true → (not a && b) ≡ true
    both {a} {b} p q = cc

not_reached : (g : Graph) (limit s v : ℕ) → dist g s v ≡ unreached → in_reach g limit s v ≡ false
not_reached g limit s v e = ap (λ (b : Bool). not b && leb (dist g s v) limit) (eqb_yes e)

too_far : (a b : Bool) → (b ≡ true → ⊥) → (a && b) ≡ false
too_far true true h = absurd (h refl)
too_far true false h = refl
too_far false b h = refl

-- ---- where a search ends
module _ {g : Graph} {most s : ℕ} {w c : List ℕ} {D Q head tail u j : ℕ} (S : Search g most s w c D Q head tail u j) where
  -- the queue holds each node that has a distance, once
  as_many : tail ≡ sum_over (below g.nodes) (λ v. has (get_or w (D + v) 0))
  as_many =
      sym (queue_long S)
      ∙ sym (sum_length (S.done ++ (u ∷ S.rest)))
      ∙ sum_times g.nodes (S.done ++ (u ∷ S.rest)) (λ _. 1) S.mid.nodes
      ∙ below_cong g.nodes (λ v hv. mul-one (times v (S.done ++ (u ∷ S.rest))) ∙ S.mid.once v hv)

  place_mem : (i : ℕ) → i < tail → Memᴰ (get_or w (Q + i) 0) (S.done ++ (u ∷ S.rest))
  place_mem i l =
      subst (λ (q : List ℕ). Memᴰ (get_or w (Q + i) 0) q) S.queue
      (subst (λ (x : ℕ). Memᴰ x (list_of (cells w Q) tail)) (list_at_lem (cells w Q) tail 0 i l)
      (get_or_mem (list_of (cells w Q) tail) i (omega (arith, list_long (cells w Q) tail))))

  place_of : (v : ℕ) → Memᴰ v (S.done ++ (u ∷ S.rest)) → (i : ℕ) × (i < tail) × (get_or w (Q + i) 0 ≡ v)
  place_of v m =
      let r = mem_get_or (list_of (cells w Q) tail) v (subst (λ (q : List ℕ). Memᴰ v q) (sym S.queue) m) in
      let l : r.0 < tail = omega (arith, r.1, list_long (cells w Q) tail) in
      (r.0, l, sym (list_at_lem (cells w Q) tail 0 r.0 l) ∙ r.2)

  module _ (limit : ℕ) (near : Near g.nodes limit D w) where
    -- those without a distance are out of reach
    Missing : Type 0
    Missing = (v : ℕ) → v < g.nodes → get_or w (D + v) 0 ≡ unreached → in_reach g limit s v ≡ false

    each : Missing → (v : ℕ) → v < g.nodes → (get_or w (D + v) 0 ≡ unreached) ⊎ (get_or w (D + v) 0 ≢ unreached) → has (get_or w (D + v) 0) ≡ only_if (in_reach g limit s v) 1
    unfolding Missing
    each m v hv (inl e) = has_no e ∙ sym (ap (λ (b : Bool). only_if b 1) (m v hv e))
    each m v hv (inr n) =
        let d : dist g s v ≡ get_or w (D + v) 0 = label_dist S.space.valid S.space.start S.mid v hv n in
        has_yes n ∙ sym (ap (λ (b : Bool). only_if b 1) (in_reach_lem g limit s v (λ z. n (sym d ∙ z)) (omega (arith, d, near v hv n))))

    ends : Missing → Within g limit s w D Q tail
    ends m =
        record {
          taken = tail_most S;
          queued = λ i l. S.mid.nodes (get_or w (Q + i) 0) (place_mem i l);
          labelled = λ v hv n. place_of v (queued S.mid v hv n);
          many = as_many ∙ below_cong g.nodes (λ v hv. each m v hv (eq_or_ne (get_or w (D + v) 0) unreached));
        }

    -- the node u is as far as the limit: whatever is nearer has a distance
    pub ends_far : limit ≤ get_or w (D + u) 0 → Within g limit s w D Q tail
    unfolding Missing
    ends_far l = ends (λ v hv e. go v e (eq_or_ne (dist g s v) unreached))
      where
        go : (v : ℕ) → get_or w (D + v) 0 ≡ unreached → (dist g s v ≡ unreached) ⊎ (dist g s v ≢ unreached) → in_reach g limit s v ≡ false
        go v e (inl z) = not_reached g limit s v z
        go v e (inr n) =
            too_far (not (eqb (dist g s v) unreached)) (leb (dist g s v) limit)
            (λ b.
            let k : dist g s v ≤ get_or w (D + u) 0 = omega (arith, leb-true (dist g s v) limit b) in
            (within S.space.valid S.space.start S.mid (dist g s v) v k (dist_fewest g S.space.valid.inside s v (dist g s v) S.space.start refl n).here).0 e)

    -- the queue is at its end: the distances are those of the graph
    pub ends_over : length (entries g u) ≤ j → tail ≤ head + 1 → Within g limit s w D Q tail
    unfolding Missing
    ends_over all l = ends (λ v hv e. not_reached g limit s v (sym ((finish S all l).dists v hv) ∙ e))

-- ---- the nodes within the limit are s and the others
module _ {g : Graph} (ok : Valid g) {s : ℕ} (hs : s < g.nodes) (limit : ℕ) where
  own : dist g s s ≡ 0
  unfolding walks
  own = fewest_dist g ok.inside s s 0 hs (record { here = omega (arith, same_yes {x = s} {y = s} refl); before = λ j l. absurd (omega arith) })

  split : (v : ℕ) → only_if (in_reach g limit s v) 1 ≡ same s v + only_if (not (eqb v s) && in_reach g limit s v) 1
  split v = go (eq_or_ne v s)
    where
      go : (v ≡ s) ⊎ (v ≢ s) → only_if (in_reach g limit s v) 1 ≡ same s v + only_if (not (eqb v s) && in_reach g limit s v) 1
      go (inl e) =
          let d : dist g s v ≡ 0 = ap (dist g s) e ∙ own in
          let a : only_if (in_reach g limit s v) 1 ≡ 1 = ap (λ (b : Bool). only_if b 1) (in_reach_lem g limit s v (λ z. omega arith) (omega (arith, d))) in
          let b : only_if (not (eqb v s) && in_reach g limit s v) 1 ≡ 0 = ap (λ (b : Bool). only_if (not b && in_reach g limit s v) 1) (eqb_yes e) in
          omega (arith, a, b, same_yes {x = s} {y = v} (sym e))
      go (inr n) =
          let b : only_if (not (eqb v s) && in_reach g limit s v) 1 ≡ only_if (in_reach g limit s v) 1 = ap (λ (b : Bool). only_if (not b && in_reach g limit s v) 1) (eqb_no n) in
          omega (arith, b, same_no {x = s} {y = v} (λ z. n (sym z)))

  -- with a limit of n or more every node counts that can be reached
  pub no_limit : g.nodes ≤ limit → (v : ℕ) → in_reach g limit s v ≡ not (eqb (dist g s v) unreached)
  no_limit l v = go (dist_cases g ok.inside s v hs)
    where
      go : ((dist g s v < g.nodes) × Fewest g s v (dist g s v)) ⊎ ((dist g s v ≡ unreached) × Never g s v) → in_reach g limit s v ≡ not (eqb (dist g s v) unreached)
      go (inl r) =
          let n : dist g s v ≢ unreached = λ e. omega (arith, r.0, ok.few) in
          in_reach_lem g limit s v n (omega (arith, r.0)) ∙ sym (ap not (eqb_no n))
      go (inr r) = not_reached g limit s v r.0 ∙ sym (ap not (eqb_yes r.0))

  pub one_more : {w : List ℕ} {D Q tail : ℕ} → Within g limit s w D Q tail → tail ≡ 1 + others_in g limit s
  unfolding others_in
  one_more W =
      W.many
      ∙ below_cong g.nodes (λ v hv. split v)
      ∙ sum_add (below g.nodes) (λ v. same s v) (λ v. only_if (not (eqb v s) && in_reach g limit s v) 1)
      ∙ ap (λ (k : ℕ). k + sum_over (below g.nodes) (λ v. only_if (not (eqb v s) && in_reach g limit s v) 1))
      (below_cong g.nodes (λ v hv. sym (mul-one (same s v))) ∙ sum_same g.nodes s (λ _. 1) hs)

-- ---- from node to node of the queue

-- The search that began with w₀ is to look at the node at place `head` of its queue, if that is a place before `tail`; else it is over.
pub record Going (g : Graph) (limit s D Q : ℕ) (w₀ w : List ℕ) (head tail : ℕ) : Type 0 where
  pub most : tail ≤ g.nodes
  pub kept : Frame2 w₀ D g.nodes Q g.nodes w
  pub near : Near g.nodes limit D w
  pub going : head < tail → Walk g s w D Q head tail (get_or w (Q + head) 0) 0
  pub over : tail ≤ head → Within g limit s w D Q tail

module _ {n limit D Q : ℕ} (directed : Bool) (es : List Edge) (s : ℕ) {w₀ w : List ℕ} {head tail : ℕ} (R : Going (graph_of n directed es) limit s D Q w₀ w head tail) (l : head < tail) where
  pub spread_pre : (further : ℕ) → further ≡ get_or w (D + get_or w (Q + head) 0) 0 + 1 → SpreadPre n (get_or w (Q + head) 0) further D Q tail w
  spread_pre further e = record { directed = directed; edges = es; start = s; head = head; walk = R.going l; far = e }

  pub going_stop : limit ≤ get_or w (D + get_or w (Q + head) 0) 0 → Within (graph_of n directed es) limit s w D Q tail
  going_stop h = ends_far (R.going l).search limit R.near h

  pub going_more : {further r : ℕ} {w' : List ℕ} → further ≤ limit → SpreadPost n (get_or w (Q + head) 0) further D Q tail w w' r → Going (graph_of n directed es) limit s D Q w₀ w' (head + 1) r
  going_more {further} {r} {w'} h P =
      record {
        most = tail_most W.search;
        kept = frame2_then R.kept P.kept;
        near = near;
        going = λ q. record { counts = W.counts; most = W.most; search = next_node W.search (omega arith) q };
        over = λ q. ends_over W.search limit near (omega arith) q;
      }
    where
      W : Walk (graph_of n directed es) s w' D Q head r (get_or w (Q + head) 0) (length (entries (graph_of n directed es) (get_or w (Q + head) 0)))
      W = P.walked directed es s head (R.going l)

      near : Near n limit D w'
      near = P.near limit h R.near

-- ---- one start
module _ {g : Graph} {w : List ℕ} {D Q : ℕ} (G : Ground g w D Q) {s : ℕ} (hs : s < g.nodes) where
  abbrev opened : List ℕ
  opened = set (set w (D + s) 0) Q s

  ghost : List ℕ
  ghost = replicate g.nodes 0

  space : Space g s w ghost D Q
  unfolding ghost
  space = record { valid = G.valid; start = hs; rows = G.rows; apart = G.apart; room = G.room; counts = omega (arith, length-replicate {A = ℕ} g.nodes 0) }

  begun : Begun s D Q w ghost opened (set ghost s 1)
  begun = record { stored = refl; counted = refl }

  pub opened_walk : Walk g s opened D Q 0 1 (get_or opened (Q + 0) 0) 0
  unfolding ghost
  opened_walk =
      record {
        counts = set ghost s 1;
        most = 1;
        search = first 1 space (record { far = G.far; none = λ v hv. get_or-replicate g.nodes v 0 0 hv }) (omega arith) begun;
      }

  pub opened_kept : Frame2 w D g.nodes Q g.nodes opened
  opened_kept = (begun_kept space begun).narrow

  pub opened_near : (limit : ℕ) → Near g.nodes limit D opened
  opened_near limit v hv k = go (eq_or_ne v s)
    where
      label : get_or opened (D + v) 0 ≡ get_or (set w (D + s) 0) (D + v) 0
      label = miss (set w (D + s) 0) Q s (D + v) (λ e. omega (arith, G.apart))

      go : (v ≡ s) ⊎ (v ≢ s) → get_or opened (D + v) 0 ≤ limit
      go (inl e) = omega (arith, label, hit w (D + s) 0 (D + v) (omega arith) (omega (arith, G.apart, G.room)))
      go (inr n) = absurd (k (label ∙ miss w (D + s) 0 (D + v) (λ e. n (omega arith)) ∙ G.far v hv))
