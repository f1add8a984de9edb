-- A search stays what it is where only places behind its queue change. Assumes nothing.
use mathlib.Core.Path.{◌≡◌, refl, sym, ap, ap₂, ◌∙◌, subst}
use mathlib.Core.List.Memᴰ
use mathlib.Core.List.{List, [], ◌∷◌, ◌++◌, Memᴰ}
use Prim.Native.Nat.{ℕ, ◌+◌, ◌<◌}
use native.Mathlib.Omega.{arith}
use lib.ListN.{length, get_or}
use Rattle.regions.specs.Region.{list_of}
use Rattle.regions.proofs.Fronts.{list_same}
use Rattle.graph.specs.Edges.{Graph, entries}
use Rattle.hops.specs.Sum.{same, times}
use Rattle.hops.specs.Hops.{Valid}
use Rattle.hops.specs.Search.{share, Sorted, has, Led, Comes, Ways, Mid, cells, Search}
use Rattle.hops.proofs.Sums.{sum_cong_mem}
use Rattle.hops.proofs.Walks.{entry_lt}
use Rattle.hops.proofs.Steps.{u_in}
use Rattle.hops.proofs.Search.{take_mem, space_after, tail_most}

sorted_same : (d d' : ℕ → ℕ) (xs : List ℕ) → ((y : ℕ) → Memᴰ y xs → d' y ≡ d y) → Sorted d xs → Sorted d' xs
sorted_same d d' [] k o = tt
sorted_same d d' (x ∷ xs) k o =
    (λ y m. omega (arith, k x (Memᴰ.head refl), k y (Memᴰ.tail m), o.0 y m), sorted_same d d' xs (λ y m. k y (Memᴰ.tail m)) o.1)

module _ {g : Graph} (ok : Valid g) {s : ℕ} (hs : s < g.nodes) {d c : ℕ → ℕ} {done : List ℕ} {u : ℕ} {seen rest : List ℕ} (M : Mid g s d c done u seen rest) (seen_in : (y : ℕ) → Memᴰ y seen → y < g.nodes)
    (d' : ℕ → ℕ) (same-d : (v : ℕ) → v < g.nodes → d' v ≡ d v) where
  in_done : (w : ℕ) → Memᴰ w done → w < g.nodes
  in_done w m = M.nodes w (Memᴰ.append_left (u ∷ rest) m)

  in_rest : (w : ℕ) → Memᴰ w rest → w < g.nodes
  in_rest w m = M.nodes w (Memᴰ.append_right done (Memᴰ.tail m))

  at_u : d' u ≡ d u
  at_u = same-d u (M.nodes u (u_in M))

  led : (w y : ℕ) → d' w ≡ d w → y < g.nodes → Led d w y → Led d' w y
  led w y e h l = (λ z. l.0 (sym (same-d y h) ∙ z), omega (arith, same-d y h, l.1))

  comes : (v : ℕ) → v < g.nodes → Comes g d v → Comes g d' v
  comes v hv r = (r.0, r.1, λ z. r.2 (sym (same-d r.0 r.1) ∙ z), omega (arith, same-d r.0 r.1, same-d v hv, r.3), r.4)

  ways : (v : ℕ) → v < g.nodes → Ways g s d c done u seen v → Ways g s d' c done u seen v
  ways v hv e =
      e
      ∙ ap₂ (λ (a b : ℕ). same s v + (a + b))
      (sum_cong_mem done (λ w m. ap₂ (λ (x y : ℕ). share x y (c w) (times v (entries g w))) (sym (same-d w (in_done w m))) (sym (same-d v hv))))
      (ap₂ (λ (x y : ℕ). share x y (c u) (times v seen)) (sym at_u) (sym (same-d v hv)))

  pub mid_same : Mid g s d' c done u seen rest
  mid_same =
      record {
        start = same-d s hs ∙ M.start;
        nodes = M.nodes;
        once = λ v hv. M.once v hv ∙ ap has (sym (same-d v hv));
        near = λ v hv l. subst (λ (x : ℕ). x < length (done ++ (u ∷ rest))) (sym (same-d v hv)) (M.near v hv (λ z. l (same-d v hv ∙ z)));
        earlier = λ w m. omega (arith, same-d w (in_done w m), at_u, M.earlier w m);
        later = λ w m. (omega (arith, same-d w (in_rest w m), at_u, (M.later w m).0), omega (arith, same-d w (in_rest w m), at_u, (M.later w m).1));
        sorted = sorted_same d d' rest (λ y m. same-d y (in_rest y m)) M.sorted;
        comes = λ v hv n l. comes v hv (M.comes v hv n (λ z. l (same-d v hv ∙ z)));
        goes = λ w m y k. led w y (same-d w (in_done w m)) (entry_lt g ok.inside w y k) (M.goes w m y k);
        going = λ y m. led u y at_u (seen_in y m) (M.going y m);
        ways = λ v hv l. ways v hv (M.ways v hv (λ z. l (same-d v hv ∙ z)));
        no_ways = λ v hv z. M.no_ways v hv (sym (same-d v hv) ∙ z);
      }

-- the queue is as it was
pub queue_same : (w w' : List ℕ) (Q n : ℕ) → ((i : ℕ) → i < Q + n → get_or w' i 0 ≡ get_or w i 0) → list_of (cells w' Q) n ≡ list_of (cells w Q) n
queue_same w w' Q n same = list_same (cells w' Q) (cells w Q) n (λ k l. same (Q + k) (omega arith))

pub search_same : {g : Graph} {limit s : ℕ} {w c : List ℕ} {D Q head tail u j : ℕ} (w' : List ℕ) → Search g limit s w c D Q head tail u j
    → length w' ≡ length w → ((i : ℕ) → i < Q + g.nodes → get_or w' i 0 ≡ get_or w i 0) → Search g limit s w' c D Q head tail u j
search_same {g} {limit} {s} {w} {c} {D} {Q} {head} {tail} {u} {j} w' S long same =
    record {
      space = space_after S.space w' c long refl (λ i l. same i (omega (arith, S.space.apart)));
      done = S.done;
      rest = S.rest;
      queue = queue_same w w' Q tail (λ i l. same i (omega (arith, tail_most S))) ∙ S.queue;
      passed = S.passed;
      small = S.small;
      mid =
          mid_same S.space.valid S.space.start S.mid (λ y m. entry_lt g S.space.valid.inside u y (take_mem j (entries g u) y m)) (cells w' D)
          (λ v hv. same (D + v) (omega (arith, S.space.apart)));
    }
