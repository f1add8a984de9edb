-- How the PageRanks begin and end: what is prepared is what the definition reads, and what is left is the outcome. Assumes nothing.
use Rattle.std.proofs.Common.{◌≡◌, ℕ, ◌+◌, ◌*◌, ◌<◌, ◌≤◌, Bool, List, length, get_or, sym, ap, ◌∙◌, arith}
use lib.Ieee.{Float, nan}
use Rattle.regions.specs.Region.{over, cleared, zero_f, list_of, Front}
use Rattle.regions.proofs.Fronts.{list_same, cleared_after, cleared_after_d, front_wide, front_then}
use Rattle.regions.proofs.Frames.{frame_front, frame_part}
use Rattle.regions.proofs.Parts.{part_is}
use Rattle.answers.specs.declared.Settings.{Settings}
use Rattle.answers.specs.declared.Rounds.{Rounds}
use Rattle.answers.specs.Answers.{done}
use Rattle.graph.specs.Edges.{edges_of, out_weight}
use Rattle.graph.specs.Fronts.{usual_fronts}
use Rattle.graph.specs.Given.{Given}
use Rattle.graph.specs.Layout.{entries_at, beside_at}
use Rattle.graph.specs.Left.{left, Wiped}
use Rattle.graph.specs.Pres.{Ready, Limits}
use Rattle.lists.specs.Lists.{share, shares_of, long_at, weight_of, BuildPre, Built, OutPre, OutWeights}
use Rattle.lists.proofs.Reading.{shares_are}
use Rattle.lists.proofs.Shares.{shares_built, out_weight_is}
use Rattle.rounds.specs.Rounds.{Out, out}
use Rattle.rounds.specs.Ending.{reported, scored, WritePre}
use Rattle.rounds.specs.Vectors.{current_in}
use Rattle.links.specs.Links.{share_in, shares_in, weights_at, outs_in}
use Rattle.links.specs.Steps.{PreparePre, Prepared, CopyPre, WeightsCopied, written_by}

-- ---- `prepare`
module _ (n : ℕ) (directed : Bool) (fs ts : List ℕ) (xs : List Float) (w : List ℕ) (wf : List Float) (pre : PreparePre n fs ts xs w wf) where
  pub build_pre : BuildPre n fs ts xs w
  build_pre = record { sound = pre.sound; room = pre.narrow }

  module _ (w1 : List ℕ) (b : Built n directed fs ts xs w w1) where
    pub out_pre : OutPre n (length fs) xs w1 wf
    out_pre = record { fit = b.fit; weights = pre.sound.sized.weights; room = omega (arith, pre.floats) }

    module _ (wf1 : List Float) (o : OutWeights n (length fs) xs w1 wf wf1) where
      pub copy_pre : CopyPre n (length fs) xs w1 wf1
      copy_pre = record { fit = b.fit; weights = pre.sound.sized.weights; room = omega (arith, pre.floats, o.frame.long) }

      outs_were : outs_in n wf1 ≡ list_of (out_weight directed (edges_of fs ts xs)) n
      outs_were =
          part_is nan wf1 (2 * n) n (out_weight directed (edges_of fs ts xs)) (omega (arith, pre.floats, o.frame.long))
          (λ v l. o.at nan v l ∙ ap weight_of (shares_built n directed fs ts xs pre.sound w w1 b v l) ∙ sym (out_weight_is directed (edges_of fs ts xs) v))

      module _ (wf2 : List Float) (c : WeightsCopied n (length fs) xs w1 wf1 wf2) where
        outs_are : outs_in n wf2 ≡ list_of (out_weight directed (edges_of fs ts xs)) n
        outs_are = frame_part nan (2 * n) n c.frame (omega (arith, pre.floats, o.frame.long)) (λ i l p q. omega arith) ∙ outs_were

        -- the share at the kth place of the list of v
        weighed : (v k : ℕ) → v < n → k < long_at w1 v → share_in n w1 wf2 (get_or w1 v 0 + k) ≡ share (get_or w1 (entries_at n + (get_or w1 v 0 + k)) 0) (get_or xs (get_or w1 (beside_at n (length fs) + (get_or w1 v 0 + k)) 0) nan)
        weighed v k l h = ap (share (get_or w1 (entries_at n + (get_or w1 v 0 + k)) 0)) (c.at v (get_or w1 v 0 + k) l (omega arith) (omega (arith, b.fit.rises v l)))

        lists_are : list_of (shares_in n w1 wf2) n ≡ list_of (shares_of directed (edges_of fs ts xs)) n
        lists_are =
            list_same (shares_in n w1 wf2) (shares_of directed (edges_of fs ts xs)) n
            (λ v l.
            list_same (λ k. share_in n w1 wf2 (get_or w1 v 0 + k)) (λ k. share (get_or w1 (entries_at n + (get_or w1 v 0 + k)) 0) (get_or xs (get_or w1 (beside_at n (length fs) + (get_or w1 v 0 + k)) 0) nan)) (long_at w1 v) (λ k h. weighed v k l h)
            ∙ sym (shares_are n (length fs) xs w1 v)
            ∙ shares_built n directed fs ts xs pre.sound w w1 b v l)

        pub prepared : Prepared n directed fs ts xs w w1 wf wf2
        prepared =
            record {
              narrow = b.front;
              floats = front_then (frame_front (weights_at n + 2 * length fs) (omega arith) o.frame) (frame_front (weights_at n + 2 * length fs) (omega arith) c.frame);
              links = cc (outs_are, lists_are);
              pre = record {
                rises = b.fit.rises;
                entries = λ v l. omega (arith, b.fit.room, b.fit.inside v l);
                nodes = b.fit.nodes;
                weights = λ v l. omega (arith, b.fit.inside v l, pre.floats, o.frame.long, c.frame.long);
                room = omega (arith, pre.floats, o.frame.long, c.frame.long);
              };
            }

-- ---- `write`
pub wrote : (n m : ℕ) (r : Rounds) (scores : List Float) (w32 w64 : List ℕ) (wf : List Float) {scores' : List Float} {w32' w64' : List ℕ} {wf' : List Float}
    → scores' ≡ over (current_in n wf) scores → Wiped (usual_fronts n m) w32 w64 wf w32' w64' wf'
    → left (done r) scores' w32' w64' wf' ≡ written_by (usual_fronts n m) r (current_in n wf) scores w32 w64 wf
wrote n m r scores w32 w64 wf e z = cc (e, z.p32, z.p64, z.pf)

-- what was written is DONE with the rounds' outcome o
pub scored_ends : (g : Given (List Float)) (settings : Settings) (o : Out (List Float)) (r : Rounds) {w1 : List ℕ} {x wf1 : List Float}
    → Front g.w32 (usual_fronts g.nodes (length g.from)).narrow w1 → Front g.wf (usual_fronts g.nodes (length g.from)).floats wf1
    → r.settings ≡ settings → out x r.rounds r.settled ≡ o
    → written_by (usual_fronts g.nodes (length g.from)) r x g.results w1 g.w64 wf1 ≡ scored g settings o
scored_ends g settings o r {w1} {x} {wf1} f32 ff es eo =
    let f = usual_fronts g.nodes (length g.from) in
    ap (λ (z : List ℕ). left (done r) (over x g.results) z (cleared 0 f.wide g.w64) (cleared zero_f f.floats wf1)) (cleared_after f32)
    ∙ ap (λ (z : List Float). left (done r) (over x g.results) (cleared 0 f.narrow g.w32) (cleared 0 f.wide g.w64) z) (cleared_after_d zero_f ff)
    ∙ ap (λ (s : Settings). written_by f (record { settings = s; rounds = r.rounds; settled = r.settled }) x g.results g.w32 g.w64 g.wf) es
    ∙ ap (λ (p : Out (List Float)). written_by f (reported settings p) p.last g.results g.w32 g.w64 g.wf) eo

-- ---- a call that nothing refused
module _ (g : Given (List Float)) (ok : Ready g) (fits : g.nodes ≤ length g.results) where
  pub prepare_pre : PreparePre g.nodes g.from g.to g.weight g.w32 g.wf
  prepare_pre = record { sound = ok.sound; narrow = omega (arith, ok.roomy.r32); floats = omega (arith, ok.roomy.rf) }

  module _ {w1 : List ℕ} {wf1 : List Float} (p : Prepared g.nodes g.directed g.from g.to g.weight g.w32 w1 g.wf wf1) where
    -- wf3 is what the rounds left
    pub write_pre : {wf3 : List Float} → Front wf1 (4 * g.nodes) wf3 → Limits g.nodes (length g.from) × WritePre g.nodes (usual_fronts g.nodes (length g.from)) g.results w1 g.w64 wf3
    write_pre f = (
      ok.sound.limits,
      record {
        roomy = record {
          r32 = omega (arith, ok.roomy.r32, p.narrow.long);
          r64 = ok.roomy.r64;
          rf = omega (arith, ok.roomy.rf, p.floats.long, f.long);
        };
        vector = omega (arith, ok.roomy.rf, p.floats.long, f.long);
        fits = fits;
      },
    )

    pub written : {wf3 x : List Float} (settings : Settings) (o : Out (List Float)) (r : Rounds) → Front wf1 (4 * g.nodes) wf3 → r.settings ≡ settings → out x r.rounds r.settled ≡ o
        → written_by (usual_fronts g.nodes (length g.from)) r x g.results w1 g.w64 wf3 ≡ scored g settings o
    written settings o r f es eo = scored_ends g settings o r (front_wide _ (omega arith) p.narrow) (front_wide _ (omega arith) (front_then p.floats (front_wide _ (omega arith) f))) es eo
