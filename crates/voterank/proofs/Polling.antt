-- Elections in the lent slices: what they hold after k elections is the poll of the rule. Assumes nothing.
use Rattle.std.proofs.Common.{◌≡◌, ℕ, zero, suc, ◌+◌, ◌-◌, ◌*◌, ◌<◌, ◌≤◌, Bool, true, false, cond, List, [], ◌∷◌, ◌++◌, length, get_or, take, set, sym, refl, ap, ◌∙◌, ⊎_elim, add-one, arith, length-take, get_or-take, take-suc-set, ext_get_or}
use mathlib.Core.List.{foldl}
use lib.Seq.{take-length}
use lib.Ieee.{Float, binary64, nan, sub, lt}
use Rattle.regions.specs.Region.{zero_f, Front, Frame}
use Rattle.regions.proofs.Cases.{same_or_not}
use Rattle.regions.proofs.Fronts.{front_none, front_set, front_then, front_wide, hit_d, miss_d}
use Rattle.regions.proofs.Frames.{frame_front, frame_then}
use Rattle.roots.specs.Maximum.{max_of}
use Rattle.graph.specs.Edges.{listed, Graph, graph_from, entries}
use Rattle.rows.specs.Rows.{row_at}
use Rattle.voterank.specs.VoteRank.{poll, poll_score, winner, electing, elections}
use Rattle.polls.specs.Votes.{first_highest, weaker}
use Rattle.voterank.specs.Elections.{poll_at, ElectPre, Held}
use Rattle.polls.specs.Steps.{Tallied, TallyPre, SilencePre, Silenced, WeakenPre, weakened}
use Rattle.polls.proofs.Voting.{votes_same, highest_same}

-- ---- the front of a list
take_set : (n : ℕ) (w : List Float) (u : ℕ) (x : Float) → u < n → take n (set w u x) ≡ set (take n w) u x
take_set zero w u x l = absurd (omega arith)
take_set (suc n) [] u x l = refl
take_set (suc n) (y ∷ w) zero x l = refl
take_set (suc n) (y ∷ w) (suc u) x l = ap (λ (t : List Float). y ∷ t) (take_set n w u x (omega arith))

take_weaker : (n : ℕ) (decay : Float) (row : List ℕ) (w : List Float) → ((k : ℕ) → k < length row → get_or row k 0 < n) → take n (foldl (weaker decay) w row) ≡ foldl (weaker decay) (take n w) row
take_weaker n decay [] w h = refl
take_weaker n decay (u ∷ row) w h =
    take_weaker n decay row (weaker decay w u) (λ k l. h (suc k) (omega arith))
    ∙ ap (λ (t : List Float). foldl (weaker decay) t row)
    (take_set n w u (max_of (sub binary64 (get_or w u nan) decay) zero_f) (h 0 (omega arith))
    ∙ ap (λ (x : Float). set (take n w) u (max_of (sub binary64 x decay) zero_f)) (sym (get_or-take n w u nan (h 0 (omega arith)))))

weaker_front : (n : ℕ) (decay : Float) (row : List ℕ) (w₀ w : List Float) → ((k : ℕ) → k < length row → get_or row k 0 < n) → Front w₀ n w → Front w₀ n (foldl (weaker decay) w row)
weaker_front n decay [] w₀ w h f = f
weaker_front n decay (u ∷ row) w₀ w h f =
    weaker_front n decay row w₀ (weaker decay w u) (λ k l. h (suc k) (omega arith)) (front_set u (max_of (sub binary64 (get_or w u nan) decay) zero_f) f (h 0 (omega arith)))

take_frame : (n : ℕ) (w w' : List Float) → Frame w n n w' → take n w' ≡ take n w
take_frame n w w' f =
    ext_get_or nan (take n w') (take n w) (long w w' f.long)
    (λ i l. let h : i < n = omega (arith, length-take n w') in get_or-take n w' i nan h ∙ f.rest nan i (λ a b. omega arith) ∙ sym (get_or-take n w i nan h))
  where
    long : (a b : List Float) → length b ≡ length a → length (take n b) ≡ length (take n a)
    long a b e = omega (arith, length-take n a, length-take n b)

-- ---- the first k of the elected as a slice of their own
pub silence_front : {n k : ℕ} {elected : List ℕ} {w : List Float} → SilencePre n k elected w → SilencePre n (length (take k elected)) (take k elected) w
silence_front {n} {k} {elected} p =
    record {
      some = omega arith;
      nodes = λ i l. let h : i < k = omega (arith, length-take k elected) in omega (arith, get_or-take k elected i 0 h, p.nodes i h);
      room = p.room;
    }

silenced_front : (n k : ℕ) (elected : List ℕ) {w w' : List Float} → Silenced n (length (take k elected)) (take k elected) w w' → Silenced n k elected w w'
silenced_front n k elected {w} s =
    record {
      frame = s.frame;
      at = λ v l. s.at v l ∙ ap (λ (es : List ℕ). cond (listed v es) zero_f (get_or w (n + v) nan)) (take-length (take k elected));
    }

-- ---- k elections
-- k elections were held, and what is left of them leads from here to the end
pub record Polling (n : ℕ) (directed : Bool) (from to : List ℕ) (weight : List Float) (decay : Float) (seats : ℕ) (elected₀ : List ℕ) (w₀ : List Float) (k : ℕ) (elected : List ℕ) (w : List Float) : Type 0 where
  pub most : k ≤ seats
  pub ahead : elections (graph_from n directed from to weight) decay (seats - k) (poll_at n k elected w) ≡ elections (graph_from n directed from to weight) decay seats (poll_at n 0 elected₀ w₀)
  pub slots : Front elected₀ k elected
  pub front : Front w₀ (2 * n) w
  pub nodes : (i : ℕ) → i < k → get_or elected i 0 < n

-- ---- one election
module _ (n : ℕ) (directed : Bool) (from to : List ℕ) (weight : List Float) (decay : Float) (seats : ℕ) (elected₀ rows : List ℕ) (w₀ : List Float) (p : ElectPre n directed from to weight seats elected₀ rows w₀) where
  abbrev g : Graph
  g = graph_from n directed from to weight

  pub polling_none : Polling n directed from to weight decay seats elected₀ w₀ 0 elected₀ w₀
  polling_none = record { most = omega arith; ahead = ap (λ (j : ℕ). elections g decay j (poll_at n 0 elected₀ w₀)) whole; slots = front_none elected₀ 0; front = front_none w₀ (2 * n); nodes = λ i l. absurd (omega arith) }
    where
      whole : seats - 0 ≡ seats
      whole = omega arith

  module _ (k : ℕ) (elected : List ℕ) (w w1 w2 : List Float) (more : k < seats) (P : Polling n directed from to weight decay seats elected₀ w₀ k elected w) where
    pub tally_pre : TallyPre n from to weight w
    tally_pre = record { sized = p.sized; ends = p.ends; room = omega (arith, p.room, P.front.long) }

    module _ (t : Tallied n directed from to weight w w1) where
      pub silence_pre : SilencePre n k elected w1
      silence_pre = record { some = omega (arith, p.seated, P.slots.long); nodes = P.nodes; room = omega (arith, p.room, P.front.long, t.frame.long) }

      module _ (silent : Silenced n (length (take k elected)) (take k elected) w1 w2) where
        s : Silenced n k elected w1 w2
        s = silenced_front n k elected silent

        pub highest_pre : (0 < n) × (2 * n ≤ length w2)
        highest_pre = (omega (arith, p.few), omega (arith, p.room, P.front.long, t.frame.long, s.frame.long))

        -- the places behind the abilities hold the scores
        pub scores_here : (v : ℕ) → v < n → get_or w2 (n + v) nan ≡ poll_score g (poll_at n k elected w) v
        unfolding poll_score
        scores_here v l =
            s.at v l
            ∙ ap (cond (listed v (take k elected)) zero_f)
            (t.at v l ∙ votes_same directed (λ u. get_or w u nan) (λ u. get_or (take n w) u nan) n from to weight p.sized p.ends v (λ u h. sym (get_or-take n w u nan h)))

        module _ (v : ℕ) (node : v < n) (is : v ≡ first_highest (λ u. get_or w2 (n + u) nan) (n - 1)) where
          wins : v ≡ winner g (poll_at n k elected w)
          unfolding winner
          wins = is ∙ highest_same (λ u. get_or w2 (n + u) nan) (poll_score g (poll_at n k elected w)) (n - 1) (λ u h. scores_here u (omega arith))

          score_is : get_or w2 (n + v) nan ≡ poll_score g (poll_at n k elected w) (winner g (poll_at n k elected w))
          score_is = scores_here v node ∙ ap (poll_score g (poll_at n k elected w)) wins

          pub weaken_pre : WeakenPre n v rows w2
          weaken_pre = record { fit = p.fit; node = node; room = omega (arith, highest_pre.1) }

          unchanged : take n w2 ≡ take n w
          unchanged = take_frame n w w2 (frame_then t.frame s.frame)

          row_nodes : (j : ℕ) → j < length (row_at n rows v) → get_or (row_at n rows v) j 0 < n
          row_nodes j h = p.fit.nodes v j node h

          elected_poll : (w3 : List Float) → w3 ≡ weakened n decay v rows w2 → electing g decay (poll_at n k elected w) v ≡ poll_at n (k + 1) (set elected k v) w3
          unfolding electing weakened
          elected_poll w3 e =
              let a : take n w3 ≡ foldl (weaker decay) (set (take n w) v zero_f) (entries g v) =
              ap (take n) e
              ∙ take_weaker n decay (row_at n rows v) (set w2 v zero_f) row_nodes
              ∙ ap (λ (x : List Float). foldl (weaker decay) x (row_at n rows v)) (take_set n w2 v zero_f node ∙ ap (λ (x : List Float). set x v zero_f) unchanged)
              ∙ ap (foldl (weaker decay) (set (take n w) v zero_f)) (p.rows v node) in
              let b : take (k + 1) (set elected k v) ≡ take k elected ++ (v ∷ []) = ap (λ (j : ℕ). take j (set elected k v)) (add-one k) ∙ take-suc-set elected k v (omega (arith, p.seated, P.slots.long)) in
              cc

          turn : {b : Bool} → lt zero_f (get_or w2 (n + v) nan) ≡ b → elections g decay (seats - k) (poll_at n k elected w) ≡ cond b (elections g decay (seats - (k + 1)) (electing g decay (poll_at n k elected w) v)) (poll_at n k elected w)
          unfolding elections
          turn {b} e =
              ap (λ (j : ℕ). elections g decay j (poll_at n k elected w)) seat
              ∙ ap (λ (u : ℕ). cond (lt zero_f (poll_score g (poll_at n k elected w) (winner g (poll_at n k elected w)))) (elections g decay (seats - (k + 1)) (electing g decay (poll_at n k elected w) u)) (poll_at n k elected w)) (sym wins)
              ∙ ap (λ (c : Bool). cond c (elections g decay (seats - (k + 1)) (electing g decay (poll_at n k elected w) v)) (poll_at n k elected w)) (ap (lt zero_f) (sym score_is) ∙ e)
            where
              seat : seats - k ≡ suc (seats - (k + 1))
              seat = omega arith

          front_here : Front w₀ (2 * n) w2
          front_here = front_then P.front (frame_front (2 * n) (omega arith) (frame_then t.frame s.frame))

          pub polling_more : (w3 : List Float) → lt zero_f (get_or w2 (n + v) nan) ≡ true → w3 ≡ weakened n decay v rows w2 → Polling n directed from to weight decay seats elected₀ w₀ (k + 1) (set elected k v) w3
          unfolding weakened
          polling_more w3 b e =
              record {
                most = omega arith;
                ahead = ap (elections g decay (seats - (k + 1))) (sym (elected_poll w3 e)) ∙ sym (turn b) ∙ P.ahead;
                slots = front_set k v (front_wide (k + 1) (omega arith) P.slots) (omega arith);
                front = front_then front_here (front_wide {k = n} (2 * n) (omega arith) (rw e (weaker_front n decay (row_at n rows v) w2 (set w2 v zero_f) row_nodes (front_set v zero_f (front_none w2 n) node))));
                nodes = λ i l.
                    ⊎_elim
                    (λ q. omega (arith, hit_d elected k v i 0 q (omega (arith, p.seated, P.slots.long))))
                    (λ q. omega (arith, miss_d elected k v i 0 q, P.nodes i (omega arith)))
                    (same_or_not i k);
              }

          pub polling_stop : lt zero_f (get_or w2 (n + v) nan) ≡ false → Held n directed from to weight decay seats elected₀ w₀ k elected w2
          polling_stop b =
              record {
                most = omega arith;
                polled = ap (λ (a : List Float). poll a (take k elected)) unchanged ∙ sym (turn b) ∙ P.ahead;
                slots = P.slots;
                front = front_here;
              }

  pub polling_all : (k : ℕ) (elected : List ℕ) (w : List Float) → k ≡ seats → Polling n directed from to weight decay seats elected₀ w₀ k elected w → Held n directed from to weight decay seats elected₀ w₀ seats elected w
  unfolding elections
  polling_all k elected w e P =
      record {
        most = omega arith;
        polled = ap (λ (j : ℕ). poll_at n j elected w) (sym e) ∙ ap (λ (j : ℕ). elections g decay j (poll_at n k elected w)) none ∙ P.ahead;
        slots = front_wide seats (omega arith) P.slots;
        front = P.front;
      }
    where
      none : 0 ≡ seats - k
      none = omega arith
