-- What the steps of one start with pairs ask, and what they leave together; start after start. Assumes nothing.
use mathlib.Core.Path.{◌≡◌, refl, sym, ap, ◌∙◌, subst}
use mathlib.Core.Bool.{Bool, false, false≢true}
use mathlib.Core.List.{List, foldr}
use Prim.Native.Nat.{ℕ, ◌+◌, ◌<◌}
use native.Mathlib.Numerals.{add-one}
use lib.Ieee.{Float}
use Rattle.regions.specs.Region.{part, Front}
use Rattle.graph.specs.Edges.{Edge, Graph}
use Rattle.graph.specs.Fronts.{usual_fronts}
use Rattle.graph.specs.Layout.{distances_at, queue_at, totals_at}
use Rattle.std.specs.Prelude.{Result, Ok, Err}
use Rattle.hops.specs.declared.TooManyPaths.{TooManyPaths}
use Rattle.hops.proofs.Forgetting.{forget_pre}
use Rattle.hops.specs.Hops.{path_limit}
use Rattle.hops.specs.Search.{graph_of, ForgetPre, Forgotten}
use Rattle.predecessors.specs.Order.{predecessors}
use Rattle.brandes.specs.Steps.{held_predecessors, ReleasePre, Released}
use Rattle.predecessors.specs.Tracks.{Traced}
use Rattle.pairs.specs.Numbers.{number_in}
use Rattle.pair_search.specs.declared.PairTracks.{PairTracks}
use Rattle.pair_search.specs.Pairs.{HeldPairs, SearchPairsPre, SearchPairsPost}
use Rattle.crossings.specs.Crossings.{held_pairs, left_across, AcrossPre}
use Rattle.brandes.specs.Shares.{some_exceeds}
use Rattle.starts.specs.Starts.{tracks_at, stopped, StartPre}
use Rattle.starts.proofs.Starting.{not_many, release_pre, within_next, within_paths, many}
use Rattle.starts.proofs.Following.{within_then, Adds, Added, added_more, added_paths}
use Rattle.starts.proofs.Adding.{search_pre}
use Rattle.crossings.specs.Totals.{totals_from, totals_after}
use Rattle.pair_starts.specs.Starts.{paired_at, StillPairs, TotalsHeld, CrossPre, CrossPost, CrossAllPre, CrossAllPost}
use Rattle.pair_starts.proofs.Crossing.{paired, pairs_next, totals_next, across_asks, total_front, total_kept, totalled}

-- a start with pairs is a start
plain : {n m s : ℕ} {w c : List ℕ} {f : List Float} → CrossPre n m s w c f → StartPre n m s w c f
plain P = record { directed = P.directed; edges = P.edges; still = P.still.still; limits = P.limits; start = P.start }

module _ {n m s : ℕ} {w c : List ℕ} {f : List Float} (pre : CrossPre n m s w c f) {pt : PairTracks} (is : pt ≡ paired_at n m) where
  pub cross_search : SearchPairsPre pt s w c
  cross_search = subst (λ (t : PairTracks). SearchPairsPre t s w c) (sym is) (record { search = search_pre (plain pre); paired = paired pre.still pre.start })

  module _ {w1 c1 : List ℕ} where
    -- what the search leaves in the places of the layout
    module _ {r : Result ℕ TooManyPaths} (Q : SearchPairsPost pt s w c w1 c1 r) where
      found : SearchPairsPost (paired_at n m) s w c w1 c1 r
      found = subst (λ (t : PairTracks). SearchPairsPost t s w c w1 c1 r) is Q

    -- a path count is above the limit
    pub cross_paths : {e : TooManyPaths} → SearchPairsPost pt s w c w1 c1 (Err e) → (e' : TooManyPaths) → CrossPost n m s w c f w1 c1 f (Err e')
    cross_paths Q e' =
        let P = found Q in
        record {
          within = within_paths pre.still.still P.search.stays;
          still = λ q. absurd (false≢true (sym q));
          totals = λ q. absurd (false≢true (sym q));
          paths = λ directed es S. many (P.search.ended directed es (S.still.space s pre.start) S.still.slots);
        }

    module _ {tail : ℕ} (Q : SearchPairsPost pt s w c w1 c1 (Ok tail)) where
      abbrev P : SearchPairsPost (paired_at n m) s w c w1 c1 (Ok tail)
      P = found Q

      over : (directed : Bool) (es : List Edge) → StillPairs (graph_of n directed es) m w c f → Traced (graph_of n directed es) (tracks_at n m) s w1 c1 tail
      over directed es S = P.search.ended directed es (S.still.space s pre.start) S.still.slots

      held : (directed : Bool) (es : List Edge) → StillPairs (graph_of n directed es) m w c f → HeldPairs n (paired_at n m) (number_in w (graph_of n directed es)) w1 (predecessors (graph_of n directed es) s)
      held directed es S = P.held directed es (number_in w (graph_of n directed es)) (S.still.space s pre.start) S.still.slots S.numbered

      pub cross_accumulate : AcrossPre pt tail w1 c1 f
      cross_accumulate = subst (λ (t : PairTracks). AcrossPre t tail w1 c1 f) (sym is) (across_asks pre.still pre.start (over pre.directed pre.edges pre.still) (held pre.directed pre.edges pre.still))

      pub cross_forget : ForgetPre tail pt.tracks.places.distances pt.tracks.places.queue w1 c1
      cross_forget = subst (λ (t : PairTracks). ForgetPre tail t.tracks.places.distances t.tracks.places.queue w1 c1) (sym is) (forget_pre (over pre.directed pre.edges pre.still).found)

      module _ (f1 : List Float)
          (sums : f1 ≡ foldr (left_across pt.tracks.places.nodes pt.table.totals c1 (held_predecessors pt.tracks w1) (held_pairs pt w1)) f (part w1 pt.tracks.places.queue tail))
          {w2 c2 : List ℕ} (forgot : Forgotten tail pt.tracks.places.distances pt.tracks.places.queue w1 c1 w2 c2) where
        acc : f1 ≡ foldr (left_across n (totals_at n) c1 (held_predecessors (tracks_at n m) w1) (held_pairs (paired_at n m) w1)) f (part w1 (queue_at n m) tail)
        acc = subst (λ (t : PairTracks). f1 ≡ foldr (left_across t.tracks.places.nodes t.table.totals c1 (held_predecessors t.tracks w1) (held_pairs t w1)) f (part w1 t.tracks.places.queue tail)) is sums

        X : Forgotten tail (distances_at n m) (queue_at n m) w1 c1 w2 c2
        X = subst (λ (t : PairTracks). Forgotten tail t.tracks.places.distances t.tracks.places.queue w1 c1 w2 c2) is forgot

        front : Front f (usual_fronts n m).floats f1
        front = total_front pre.still pre.start (over pre.directed pre.edges pre.still) (held pre.directed pre.edges pre.still) f1 acc

        pub cross_release : ReleasePre pt.tracks tail w2 f1
        cross_release = subst (λ (t : PairTracks). ReleasePre t.tracks tail w2 f1) (sym is) (release_pre pre.still.still P.search.stays (over pre.directed pre.edges pre.still) f1 front X)

        pub cross_done : {w3 : List ℕ} {f2 : List Float} → Released pt.tracks tail w2 f1 w3 f2 → CrossPost n m s w c f w3 c2 f2 (Ok tt)
        cross_done {w3} {f2} released =
            let Y : Released (tracks_at n m) tail w2 f1 w3 f2 = subst (λ (t : PairTracks). Released t.tracks tail w2 f1 w3 f2) is released in
            record {
              within = within_next pre.still.still P.search.stays (over pre.directed pre.edges pre.still) f1 front X Y;
              still = λ q directed es S. pairs_next S pre.start P.search.stays (over directed es S) f1 front X Y (total_kept S pre.start (over directed es S) (held directed es S) f1 acc);
              totals = λ q directed es S total T. totals_next S pre.start P.search.stays (over directed es S) f1 front X Y (totalled S pre.start (over directed es S) (held directed es S) f1 acc T);
              paths = λ directed es S. not_many S.still P.search.stays (over directed es S);
            }

-- ---- start after start

-- the starts 0 to k - 1 have been added, to the totals
abbrev pub AddedTotals : (n m : ℕ) (w₀ c₀ : List ℕ) (f₀ : List Float) (k : ℕ) (w c : List ℕ) (f : List Float) → Type 0
AddedTotals n m w₀ c₀ f₀ k w c f = Added (λ g. StillPairs g m) (λ g i w f. TotalsHeld g w f (totals_after g i)) n m w₀ c₀ f₀ k w c f

totals_more : {g : Graph} (k : ℕ) {w : List ℕ} {f : List Float} → TotalsHeld g w f (totals_from g k (totals_after g k)).total → TotalsHeld g w f (totals_after g (k + 1))
unfolding totals_after
totals_more {g} k T = record { at = λ v x h i. T.at v x h i ∙ ap (λ (j : ℕ). totals_after g j v x) (sym (add-one k)) }

module _ {n m : ℕ} {w₀ c₀ : List ℕ} {f₀ : List Float} (pre : CrossAllPre n m w₀ c₀ f₀) {k : ℕ} {w c : List ℕ} {f : List Float} (A : AddedTotals n m w₀ c₀ f₀ k w c f) (l : k < n) where
  pub all_pre : CrossPre n m k w c f
  all_pre = record { directed = pre.directed; edges = pre.edges; still = A.still pre.directed pre.edges pre.still; limits = pre.limits; start = l }

  module _ {w' c' : List ℕ} {f' : List Float} {r : Result (Unit {0}) TooManyPaths} (P : CrossPost n m k w c f w' c' f' r) where
    one : Adds (λ g. StillPairs g m) (λ g i w f. TotalsHeld g w f (totals_after g i)) n m k w c f w' c' f' (stopped r)
    one = record { within = P.within; still = P.still; adds = λ e d es S T. totals_more k (P.totals e d es S (totals_after (graph_of n d es) k) T); paths = P.paths }

  pub all_more : {w' c' : List ℕ} {f' : List Float} {v : Unit {0}} → CrossPost n m k w c f w' c' f' (Ok v) → AddedTotals n m w₀ c₀ f₀ (k + 1) w' c' f'
  all_more P = added_more A l (one P) refl

  pub all_paths : {w' c' : List ℕ} {f' : List Float} {e : TooManyPaths} → CrossPost n m k w c f w' c' f' (Err e) → (e' : TooManyPaths) → CrossAllPost n m w₀ c₀ f₀ w' c' f' (Err e')
  all_paths P e' =
      record {
        within = within_then A.within P.within;
        still = λ q. absurd (false≢true (sym q));
        totals = λ q. absurd (false≢true (sym q));
        paths = added_paths A l (one P) refl;
      }

pub all_done : {n m : ℕ} {w₀ c₀ : List ℕ} {f₀ : List Float} {k : ℕ} {w c : List ℕ} {f : List Float} → AddedTotals n m w₀ c₀ f₀ k w c f → k ≡ n → CrossAllPost n m w₀ c₀ f₀ w c f (Ok tt)
all_done {n} {m} {w₀} {c₀} {f₀} {k} {w} {c} {f} A e =
    record {
      within = A.within;
      still = λ q. A.still;
      totals = λ q d es S T. subst (λ (i : ℕ). TotalsHeld (graph_of n d es) w f (totals_after (graph_of n d es) i)) e (A.added d es S T);
      paths = λ d es S. subst (λ (i : ℕ). some_exceeds path_limit (graph_of n d es) i ≡ false) e (A.paths d es S);
    }
