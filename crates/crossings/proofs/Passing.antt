-- The shares of a node's predecessor entries and of their pairs, taken one after the other. Assumes nothing.
use Rattle.std.proofs.Common.{◌≡◌, ℕ, suc, ◌+◌, ◌-◌, ◌<◌, ◌≤◌, List, [], ◌∷◌, length, get_or, take, drop, sym, refl, ap, ◌∙◌, ap₂, arith, length-set, drop-cons, add-one, subst}
use lib.Ieee.{Float, nan, binary64, add}
use lib.ListN.{drop_of_length-le}
use Rattle.regions.specs.Doubles.{one}
use Rattle.regions.specs.Region.{part}
use Rattle.regions.proofs.Parts.{part_long, part_at}
use Rattle.brandes.specs.Shares.{share, grow}
use Rattle.brandes.specs.Steps.{held_count, held_predecessors}
use Rattle.pair_search.specs.declared.PairTracks.{PairTracks}
use Rattle.crossings.specs.Crossings.{crossed, crossed_all, left_across, held_pairs, PassAcrossPre, LeaveAcrossPre}

-- the entry at place k and its pair take their share
pub cross_more : (n t : ℕ) (counts : List ℕ) (ways grown : Float) (f : List Float) (vs ps : List ℕ) (k : ℕ) (x : Float) → length ps ≡ length vs → k < length vs
    → x ≡ held_count counts (get_or vs k 0)
    → crossed_all n t counts ways grown f (drop k vs) (drop k ps)
    ≡ crossed_all n t counts ways grown (grow (grow f (n + get_or vs k 0) (share x ways grown)) (t + get_or ps k 0) (share x ways grown)) (drop (k + 1) vs) (drop (k + 1) ps)
unfolding crossed_all
cross_more n t counts ways grown f vs ps k x long l e =
    ap₂ (crossed_all n t counts ways grown f) (drop-cons vs k 0 l) (drop-cons ps k 0 (omega (arith, long)))
    ∙ ap (λ (y : Float). crossed_all n t counts ways grown (grow (grow f (n + get_or vs k 0) (share y ways grown)) (t + get_or ps k 0) (share y ways grown)) (drop (suc k) vs) (drop (suc k) ps)) (sym e)
    ∙ ap (λ (j : ℕ). crossed_all n t counts ways grown (grow (grow f (n + get_or vs k 0) (share x ways grown)) (t + get_or ps k 0) (share x ways grown)) (drop j vs) (drop j ps)) (sym (add-one k))

-- all entries have taken theirs
pub cross_all : (n t : ℕ) (counts : List ℕ) (ways grown : Float) (f : List Float) (vs ps : List ℕ) (k : ℕ) → length vs ≤ k → crossed_all n t counts ways grown f (drop k vs) (drop k ps) ≡ f
unfolding crossed_all
cross_all n t counts ways grown f vs ps k l = ap (λ (xs : List ℕ). crossed_all n t counts ways grown f xs (drop k ps)) (drop_of_length-le vs l)

-- the floats are as many as before
pub crossed_long : (n t : ℕ) (counts : List ℕ) (ways grown : Float) (floats : List Float) (vs ps : List ℕ) → length (crossed_all n t counts ways grown floats vs ps) ≡ length floats
unfolding crossed_all
crossed_long n t counts ways grown floats [] ps = refl
crossed_long n t counts ways grown floats (v ∷ vs) [] = refl
crossed_long n t counts ways grown floats (v ∷ vs) (p ∷ ps) =
    crossed_long n t counts ways grown (crossed n t counts ways grown floats v p) vs ps
    ∙ length-set (grow floats (n + v) (share (held_count counts v) ways grown)) (t + p) _ ∙ length-set floats (n + v) _

-- a node leaves
pub left_across_lem : (pt : PairTracks) (n t : ℕ) (counts w32 : List ℕ) (w : ℕ) (floats f : List Float) {k i : ℕ} {ways : Float}
    → k ≡ get_or w32 (pt.tracks.last + w) 0 - get_or w32 (pt.tracks.first + w) 0 → i ≡ get_or w32 (pt.tracks.last + w) 0 - get_or w32 (pt.tracks.first + w) 0 → ways ≡ held_count counts w
    → f ≡ crossed_all n t counts ways (add binary64 one (get_or floats (n + w) nan)) floats (take k (drop (pt.tracks.base + get_or w32 (pt.tracks.first + w) 0) w32)) (take i (drop (pt.pairs + get_or w32 (pt.tracks.first + w) 0) w32))
    → f ≡ left_across n t counts (held_predecessors pt.tracks w32) (held_pairs pt w32) w floats
unfolding left_across part
left_across_lem pt n t counts w32 w floats f {k} {i} {ways} ek ei ew p =
    let grown = add binary64 one (get_or floats (n + w) nan) in
    let a = get_or w32 (pt.tracks.first + w) 0 in
    p
    ∙ ap (λ (x : Float). crossed_all n t counts x grown floats (take k (drop (pt.tracks.base + a) w32)) (take i (drop (pt.pairs + a) w32))) ew
    ∙ ap₂ (λ (x y : ℕ). crossed_all n t counts (held_count counts w) grown floats (take x (drop (pt.tracks.base + a) w32)) (take y (drop (pt.pairs + a) w32))) ek ei

-- what the entries of a node that leaves ask of `pass_back`
module _ {pt : PairTracks} {w : ℕ} {w32 w64 : List ℕ} {wf : List Float} (L : LeaveAcrossPre pt w w32 w64 wf) {k i : ℕ}
    (ek : k ≡ get_or w32 (pt.tracks.last + w) 0 - get_or w32 (pt.tracks.first + w) 0) (ei : i ≡ get_or w32 (pt.tracks.last + w) 0 - get_or w32 (pt.tracks.first + w) 0) where
  abbrev a : ℕ
  a = get_or w32 (pt.tracks.first + w) 0

  entries_long : length (part w32 (pt.tracks.base + a) k) ≡ k
  entries_long = part_long w32 (pt.tracks.base + a) k (omega (arith, L.held.kept.ordered w L.node, L.held.kept.inside w L.node))

  pairs_long : length (part w32 (pt.pairs + a) i) ≡ i
  pairs_long = part_long w32 (pt.pairs + a) i (omega (arith, L.held.kept.ordered w L.node, L.held.kept.inside w L.node, L.held.before))

  node_at : (j : ℕ) → j < k → get_or w32 (pt.tracks.base + a + j) 0 < pt.tracks.places.nodes
  node_at j l =
      let e : pt.tracks.base + (a + j) ≡ pt.tracks.base + a + j = omega arith in
      subst (λ (p : ℕ). get_or w32 p 0 < pt.tracks.places.nodes) e (L.held.kept.nodes w (a + j) L.node (omega arith) (omega arith))

  total_at : (j : ℕ) → j < k → pt.table.totals + get_or w32 (pt.pairs + a + j) 0 < length wf
  total_at j l =
      let e : pt.pairs + (a + j) ≡ pt.pairs + a + j = omega arith in
      subst (λ (p : ℕ). pt.table.totals + get_or w32 p 0 < length wf) e (L.held.totals w (a + j) L.node (omega arith) (omega arith))

  pub pass_asks : PassAcrossPre pt.tracks.places.nodes pt.table.totals (take k (drop (pt.tracks.base + get_or w32 (pt.tracks.first + w) 0) w32)) (take i (drop (pt.pairs + get_or w32 (pt.tracks.first + w) 0) w32)) w64 wf
  unfolding part
  pass_asks =
      record {
        beside = pairs_long ∙ (ei ∙ sym ek) ∙ sym entries_long;
        counts = L.counts;
        deltas = L.held.deltas;
        nodes = λ j l. let h : j < k = omega (arith, entries_long) in subst (λ (x : ℕ). x < pt.tracks.places.nodes) (sym (part_at w32 (pt.tracks.base + a) k 0 j h)) (node_at j h);
        totals = λ j l. let h : j < k = omega (arith, entries_long) in subst (λ (x : ℕ). pt.table.totals + x < length wf) (sym (part_at w32 (pt.pairs + a) i 0 j (omega (arith, h, ek, ei)))) (total_at j h);
        floats = L.floats;
      }
