-- Taking back a search within a limit: then the workspace is as before it. Assumes nothing.
use Rattle.std.proofs.Common.{◌≡◌, ℕ, ◌+◌, ◌<◌, ◌≢◌, ◌⊎◌, List, get_or, sym, ap, ◌∙◌, inl, inr, arith}
use Rattle.regions.specs.Region.{Frame2}
use Rattle.regions.proofs.Frames.{frame2_by}
use Rattle.graph.specs.Edges.{Graph}
use Rattle.hops.specs.Hops.{unreached}
use Rattle.hops.proofs.Sums.{eq_or_ne}
use Rattle.hops.proofs.Search.{rows_after}
use Rattle.reach.specs.Search.{Within, Ground}
use Rattle.reaching.specs.Starts.{Undone}

-- ---- back to the beginning
module _ {g : Graph} {limit s D Q : ℕ} {w w1 : List ℕ} {tail : ℕ} (G : Ground g w D Q) (K : Frame2 w D g.nodes Q g.nodes w1) (W : Within g limit s w1 D Q tail) where
  module _ {w2 : List ℕ} (U : Undone tail D Q w1 w2) where
    pub undone_kept : Frame2 w D g.nodes Q g.nodes w2
    undone_kept =
        frame2_by 0 (U.long ∙ K.long)
        (λ k p q. U.kept k (λ i l e. p (omega arith) (omega (arith, W.queued i l))) ∙ K.rest 0 k p q)

    far : (v : ℕ) → v < g.nodes → (get_or w1 (D + v) 0 ≡ unreached) ⊎ (get_or w1 (D + v) 0 ≢ unreached) → get_or w2 (D + v) 0 ≡ unreached
    far v hv (inl e) = go (U.either (D + v))
      where
        go : (get_or w2 (D + v) 0 ≡ get_or w1 (D + v) 0) ⊎ (get_or w2 (D + v) 0 ≡ unreached) → get_or w2 (D + v) 0 ≡ unreached
        go (inl o) = o ∙ e
        go (inr o) = o
    far v hv (inr n) = let r = W.labelled v hv n in ap (λ (x : ℕ). get_or w2 (D + x) 0) (sym r.2) ∙ U.far r.0 r.1

    pub ground_back : Ground g w2 D Q
    ground_back =
        record {
          valid = G.valid;
          rows = rows_after w2 G.rows G.front (λ i l. undone_kept.rest 0 i (λ p q. omega arith) (λ p q. omega (arith, G.apart)));
          front = G.front;
          apart = G.apart;
          room = omega (arith, G.room, undone_kept.long);
          far = λ v hv. far v hv (eq_or_ne (get_or w1 (D + v) 0) unreached);
        }
