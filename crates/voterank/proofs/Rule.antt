-- What the election rule means: nobody is elected twice, each elected node had the first highest score of its election, and the list is complete.
-- Assumes nothing.
use Rattle.std.proofs.Common.{◌≡◌, ℕ, zero, suc, ◌+◌, ◌-◌, ◌<◌, ◌≤◌, Bool, true, false, cond, not, ◌&&◌, ◌||◌, eqb, ◌≢◌, ◌⊎◌, List, [], ◌∷◌, ◌++◌, length, get_or, set, sym, refl, ap, ◌∙◌, subst, inl, inr, ⊎_elim, true≢false, arith, length-append, length-set, eq-eqb}
use mathlib.Core.Bool.{false≢true}
use mathlib.Core.List.{foldl}
use lib.ListN.{length-replicate, get_or-replicate, get_or-append}
use lib.Seq.{get_or_at}
use lib.Ieee.{Float, binary64, nan, add, sub, lt}
use Rattle.regions.specs.Doubles.{one}
use Rattle.regions.specs.Region.{zero_f}
use Rattle.regions.proofs.Cases.{bool_cases, same_or_not, below_or_not}
use Rattle.regions.proofs.Fronts.{hit_d, miss_d}
use Rattle.graph.specs.Edges.{listed, Edge, Graph, entries}
use Rattle.graph.specs.Given.{Given, graph_in}
use Rattle.graph.specs.Pres.{Sound}
use Rattle.hops.specs.Hops.{EndsIn}
use Rattle.hops.proofs.Workspace.{valid}
use Rattle.voterank.specs.VoteRank.{Poll, ability_of, opening, poll_score, winner, electing, elections, decay_of, seats_of, closing}
use Rattle.polls.specs.Votes.{gains, votes, first_highest, weaker}
use Rattle.polls.proofs.Voting.{highest_among}
use Rattle.voterank.proofs.Order.{fine, zero_fine, one_fine, fine_cond, fine_add, fine_max, one_way, not_above, not_below}

-- ---- the first highest

-- b is a node whose score is the highest of the n, and no lower-numbered node has the same
pub record Highest (score : ℕ → Float) (n b : ℕ) : Type 0 where
  pub node : b < n
  pub highest : (v : ℕ) → v < n → lt (score b) (score v) ≡ false
  pub first : (v : ℕ) → v < b → lt (score v) (score b) ≡ true

itself : (x : Float) → fine x ≡ true → lt x x ≡ false
itself x p = ⊎_elim (λ y. absurd (one_way x x p p y y)) (λ y. y) (bool_cases (lt x x))

-- of the nodes 0 to k
record Best (score : ℕ → Float) (k b : ℕ) : Type 0 where
  pub highest : (v : ℕ) → v ≤ k → lt (score b) (score v) ≡ false
  pub first : (v : ℕ) → v < b → lt (score v) (score b) ≡ true

best : (score : ℕ → Float) (k : ℕ) → ((v : ℕ) → v ≤ k → fine (score v) ≡ true) → Best score k (first_highest score k)
unfolding first_highest
best score zero f =
    record {
      highest = λ v l. let e : v ≡ 0 = omega arith in ap (λ (x : ℕ). lt (score 0) (score x)) e ∙ itself (score 0) (f 0 (omega arith));
      first = λ v l. absurd (omega arith);
    }
best score (suc k) f = go (lt (score (first_highest score k)) (score (suc k))) refl (best score k (λ v l. f v (omega arith))) (highest_among score k)
  where
    go : (t : Bool) → lt (score (first_highest score k)) (score (suc k)) ≡ t → Best score k (first_highest score k) → first_highest score k ≤ k → Best score (suc k) (cond t (suc k) (first_highest score k))
    go true e B l =
        record {
          highest = λ v h. ⊎_elim (λ q. ap (λ (x : ℕ). lt (score (suc k)) (score x)) q ∙ itself (score (suc k)) (f (suc k) (omega arith))) (λ q. not_below (score (first_highest score k)) (score v) (score (suc k)) (f _ (omega arith)) (f v h) (f (suc k) (omega arith)) (B.highest v (omega arith)) e) (same_or_not v (suc k));
          first = λ v h. not_above (score (first_highest score k)) (score v) (score (suc k)) (f _ (omega arith)) (f v (omega arith)) (f (suc k) (omega arith)) (B.highest v (omega arith)) e;
        }
    go false e B l =
        record {
          highest = λ v h. ⊎_elim (λ q. ap (λ (x : ℕ). lt (score (first_highest score k)) (score x)) q ∙ e) (λ q. B.highest v (omega arith)) (same_or_not v (suc k));
          first = B.first;
        }

-- ---- scores are neither NaN nor negative
fine_gains : (directed : Bool) (ability : ℕ → Float) (v : ℕ) (sum : Float) (e : Edge) → fine (ability e.from) ≡ true → fine (ability e.to) ≡ true → fine sum ≡ true → fine (gains directed ability v sum e) ≡ true
fine_gains directed ability v sum e p q r =
    let first : fine (cond (eqb e.from v) (add binary64 sum (ability e.to)) sum) ≡ true = fine_cond (eqb e.from v) (add binary64 sum (ability e.to)) sum (fine_add sum (ability e.to) r q) r in
    fine_cond (not directed && eqb e.to v) _ _ (fine_add _ (ability e.from) first p) first

fine_votes : (n : ℕ) (directed : Bool) (ability : ℕ → Float) (v : ℕ) (es : List Edge) (sum : Float) → EndsIn n es → ((u : ℕ) → u < n → fine (ability u) ≡ true) → fine sum ≡ true → fine (foldl (gains directed ability v) sum es) ≡ true
fine_votes n directed ability v [] sum i h p = p
fine_votes n directed ability v (e ∷ es) sum i h p =
    fine_votes n directed ability v es (gains directed ability v sum e) i.2 h (fine_gains directed ability v sum e (h e.from i.0) (h e.to i.1) p)

-- the abilities of n nodes are neither
record Able (n : ℕ) (p : Poll) : Type 0 where
  pub long : length p.ability ≡ n
  pub able : (v : ℕ) → v < n → fine (ability_of p v) ≡ true

able_set : (n : ℕ) (a : List Float) (u : ℕ) (x : Float) → fine x ≡ true → length a ≡ n → ((v : ℕ) → v < n → fine (get_or a v nan) ≡ true) → (v : ℕ) → v < n → fine (get_or (set a u x) v nan) ≡ true
able_set n a u x p l h v hv =
    ⊎_elim
    (λ e. ap fine (hit_d a u x v nan e (omega arith)) ∙ p)
    (λ e. ap fine (miss_d a u x v nan e) ∙ h v hv)
    (same_or_not v u)

able_weaker : (n : ℕ) (decay : Float) (us : List ℕ) (a : List Float) → length a ≡ n → ((v : ℕ) → v < n → fine (get_or a v nan) ≡ true) → (length (foldl (weaker decay) a us) ≡ n) × ((v : ℕ) → v < n → fine (get_or (foldl (weaker decay) a us) v nan) ≡ true)
able_weaker n decay [] a l h = (l, h)
able_weaker n decay (u ∷ us) a l h =
    able_weaker n decay us (weaker decay a u) (length-set a u _ ∙ l) (able_set n a u _ (fine_max (sub binary64 (get_or a u nan) decay)) l h)

module _ (g : Graph) (decay : Float) (inside : EndsIn g.nodes g.edges) where
  able_electing : (p : Poll) (v : ℕ) → Able g.nodes p → Able g.nodes (electing g decay p v)
  unfolding electing
  able_electing p v A =
      let r = able_weaker g.nodes decay (entries g v) (set p.ability v zero_f) (length-set p.ability v zero_f ∙ A.long) (able_set g.nodes p.ability v zero_f zero_fine A.long A.able) in
      record { long = r.0; able = r.1 }

  able_elections : (k : ℕ) (p : Poll) → Able g.nodes p → Able g.nodes (elections g decay k p)
  unfolding elections
  able_elections zero p A = A
  able_elections (suc k) p A = go (lt zero_f (poll_score g p (winner g p))) (able_elections k (electing g decay p (winner g p)) (able_electing p (winner g p) A))
    where
      go : (t : Bool) {q : Poll} → Able g.nodes q → Able g.nodes (cond t q p)
      go true B = B
      go false B = A

  able_opening : Able g.nodes (opening g.nodes)
  able_opening = record { long = length-replicate g.nodes one; able = λ v h. ap fine (get_or-replicate g.nodes v one nan h) ∙ one_fine }

  score_fine : (p : Poll) → Able g.nodes p → (v : ℕ) → fine (poll_score g p v) ≡ true
  unfolding poll_score votes
  score_fine p A v = fine_cond (listed v p.elected) zero_f (foldl (gains g.directed (ability_of p) v) zero_f g.edges) zero_fine (fine_votes g.nodes g.directed (ability_of p) v g.edges zero_f inside A.able zero_fine)

  winner_highest : (p : Poll) → Able g.nodes p → 0 < g.nodes → Highest (poll_score g p) g.nodes (winner g p)
  unfolding winner
  winner_highest p A some =
      let B = best (poll_score g p) (g.nodes - 1) (λ v l. score_fine p A v) in
      record { node = omega (arith, highest_among (poll_score g p) (g.nodes - 1)); highest = λ v l. B.highest v (omega arith); first = B.first }

-- ---- one election after the other

-- Of elections from p that came to F: the poll q after i of them elected the one at place i.
record Turn (g : Graph) (p F : Poll) (i : ℕ) (q : Poll) : Type 0 where
  pub chosen : get_or F.elected (length p.elected + i) 0 ≡ winner g q
  pub above : lt zero_f (poll_score g q (winner g q)) ≡ true
  pub before : length q.elected ≡ length p.elected + i
  pub same : (j : ℕ) → j < length p.elected + i → get_or q.elected j 0 ≡ get_or F.elected j 0

record Story (g : Graph) (decay : Float) (k : ℕ) (p F : Poll) : Type 0 where
  pub many : ℕ
  pub most : many ≤ k
  pub long : length F.elected ≡ length p.elected + many
  pub old : (i : ℕ) → i < length p.elected → get_or F.elected i 0 ≡ get_or p.elected i 0
  pub turns : (i : ℕ) → i < many → Turn g p F i (elections g decay i p)
  pub stop : (many ≡ k) ⊎ (lt zero_f (poll_score g F (winner g F)) ≡ false)

module _ (g : Graph) (decay : Float) where
  nobody : (k : ℕ) (p : Poll) → ((0 ≡ k) ⊎ (lt zero_f (poll_score g p (winner g p)) ≡ false)) → Story g decay k p p
  nobody k p h = record { many = 0; most = omega arith; long = omega arith; old = λ i l. refl; turns = λ i l. absurd (omega arith); stop = h }

  module _ (k : ℕ) (p : Poll) (t : lt zero_f (poll_score g p (winner g p)) ≡ true) where
    abbrev then : Poll
    then = electing g decay p (winner g p)

    goes : (j : ℕ) → elections g decay (suc j) p ≡ elections g decay j then
    unfolding elections
    goes j = ap (λ (b : Bool). cond b (elections g decay j then) p) t

    listed_now : then.elected ≡ p.elected ++ (winner g p ∷ [])
    unfolding electing
    listed_now = refl

    one_longer : length then.elected ≡ length p.elected + 1
    one_longer = ap length listed_now ∙ length-append p.elected (winner g p ∷ [])

    somebody : {F : Poll} → Story g decay k then F → Story g decay (suc k) p F
    unfolding elections
    somebody {F} S =
        record {
          many = suc S.many;
          most = omega (arith, S.most);
          long = omega (arith, S.long, one_longer);
          old = old;
          turns = turns;
          stop = ⊎_elim (λ e. inl (ap suc e)) (λ e. inr e) S.stop;
        }
      where
        old : (i : ℕ) → i < length p.elected → get_or F.elected i 0 ≡ get_or p.elected i 0
        old i l = S.old i (omega (arith, one_longer)) ∙ ap (λ (l : List ℕ). get_or l i 0) listed_now ∙ get_or-append p.elected (winner g p ∷ []) 0 i l

        turns : (i : ℕ) → i < suc S.many → Turn g p F i (elections g decay i p)
        turns zero l =
            record {
              chosen = S.old (length p.elected + 0) (omega (arith, one_longer)) ∙ ap (λ (l : List ℕ). get_or l (length p.elected + 0) 0) listed_now ∙ get_or_at p.elected (winner g p) [] 0 (length p.elected + 0) (omega arith);
              above = t;
              before = omega arith;
              same = λ j h. sym (old j (omega arith));
            }
        turns (suc i) l =
            let T = S.turns i (omega arith) in
            let n : length then.elected + i ≡ length p.elected + suc i = omega (arith, one_longer) in
            subst (Turn g p F (suc i)) (sym (goes i))
            (record {
              chosen = ap (λ (j : ℕ). get_or F.elected j 0) (sym n) ∙ T.chosen;
              above = T.above;
              before = T.before ∙ n;
              same = λ j h. T.same j (omega (arith, n));
            })

  story : (k : ℕ) (p : Poll) → Story g decay k p (elections g decay k p)
  unfolding elections
  story zero p = nobody 0 p (inl refl)
  story (suc k) p = go (lt zero_f (poll_score g p (winner g p))) refl (story k (electing g decay p (winner g p)))
    where
      go : (b : Bool) → lt zero_f (poll_score g p (winner g p)) ≡ b → Story g decay k (electing g decay p (winner g p)) (elections g decay k (electing g decay p (winner g p))) → Story g decay (suc k) p (cond b (elections g decay k (electing g decay p (winner g p))) p)
      go true e S = somebody k p e S
      go false e S = nobody (suc k) p (inr e)

-- ---- the meaning

-- one who is listed scores 0
listed_zero : (g : Graph) (p : Poll) (v : ℕ) → lt zero_f (poll_score g p v) ≡ true → listed v p.elected ≡ false
unfolding poll_score
listed_zero g p v h = ⊎_elim (λ e. absurd (false≢true (sym (itself zero_f zero_fine) ∙ sym (ap (λ (b : Bool). lt zero_f (cond b zero_f (votes g.directed (ability_of p) g.edges v))) e) ∙ h))) (λ e. e) (bool_cases (listed v p.elected))

listed_at : (xs : List ℕ) (i v : ℕ) → i < length xs → get_or xs i 0 ≡ v → listed v xs ≡ true
unfolding listed
listed_at [] i v l e = absurd (omega arith)
listed_at (x ∷ xs) zero v l e = ap (λ (b : Bool). b || listed v xs) (eq-eqb x v e)
listed_at (x ∷ xs) (suc i) v l e = ap (λ (b : Bool). eqb x v || b) (listed_at xs i v (omega arith) e) ∙ or_true (eqb x v)
  where
    or_true : (b : Bool) → (b || true) ≡ true
    or_true true = refl
    or_true false = refl

-- of k elections from the opening of a graph whose ends are nodes
module _ (g : Graph) (decay : Float) (inside : EndsIn g.nodes g.edges) (k : ℕ) where
  abbrev after : ℕ → Poll
  after i = elections g decay i (opening g.nodes)

  abbrev all : List ℕ
  all = (after k).elected

  S : Story g decay k (opening g.nodes) (after k)
  S = story g decay k (opening g.nodes)

  at : (i : ℕ) → i < length all → Turn g (opening g.nodes) (after k) i (after i)
  at i l = S.turns i (omega (arith, S.long))

  place : (i : ℕ) → 0 + i ≡ i
  place i = omega arith

  pub at_most_lem : length all ≤ k
  at_most_lem = omega (arith, S.long, S.most)

  -- no node is elected twice
  pub never_twice : (i j : ℕ) → i < j → j < length all → get_or all i 0 ≢ get_or all j 0
  never_twice i j l h e =
      let T = at j h in
      let w : get_or all j 0 ≡ winner g (after j) = ap (λ (x : ℕ). get_or all x 0) (sym (place j)) ∙ T.chosen in
      let s : get_or (after j).elected i 0 ≡ winner g (after j) = T.same i (omega arith) ∙ e ∙ w in
      true≢false (sym (listed_at (after j).elected i (winner g (after j)) (omega (arith, T.before)) s) ∙ listed_zero g (after j) (winner g (after j)) T.above)

  -- the one at place i had the first highest score after i elections, and that was above 0
  pub each_highest : (i : ℕ) → i < length all → 0 < g.nodes → Highest (poll_score g (after i)) g.nodes (get_or all i 0) × (lt zero_f (poll_score g (after i) (get_or all i 0)) ≡ true)
  each_highest i h some =
      let T = at i h in
      let w : winner g (after i) ≡ get_or all i 0 = sym (ap (λ (x : ℕ). get_or all x 0) (sym (place i)) ∙ T.chosen) in (
        subst (Highest (poll_score g (after i)) g.nodes) w (winner_highest g decay inside (after i) (able_elections g decay inside i (opening g.nodes) (able_opening g decay inside)) some),
        subst (λ (v : ℕ). lt zero_f (poll_score g (after i) v) ≡ true) w T.above,
      )

  -- there are no more than k, and fewer only if then no score is above 0
  pub complete : 0 < g.nodes → (length all ≡ k) ⊎ ((length all < k) × ((v : ℕ) → v < g.nodes → lt zero_f (poll_score g (after k) v) ≡ false))
  complete some = go S.stop (same_or_not S.many k)
    where
      A : Able g.nodes (after k)
      A = able_elections g decay inside k (opening g.nodes) (able_opening g decay inside)

      none : lt zero_f (poll_score g (after k) (winner g (after k))) ≡ false → (v : ℕ) → v < g.nodes → lt zero_f (poll_score g (after k) v) ≡ false
      none e v hv =
          ⊎_elim
          (λ b.
          absurd
          (true≢false
          (sym (not_above zero_f (poll_score g (after k) (winner g (after k))) (poll_score g (after k) v) zero_fine (score_fine g decay inside (after k) A (winner g (after k))) (score_fine g decay inside (after k) A v) e b)
          ∙ (winner_highest g decay inside (after k) A some).highest v hv)))
          (λ b. b)
          (bool_cases (lt zero_f (poll_score g (after k) v)))

      go : (S.many ≡ k) ⊎ (lt zero_f (poll_score g (after k) (winner g (after k))) ≡ false) → (S.many ≡ k) ⊎ (S.many ≡ k → ⊥) → (length all ≡ k) ⊎ ((length all < k) × ((v : ℕ) → v < g.nodes → lt zero_f (poll_score g (after k) v) ≡ false))
      go (inl e) d = inl (omega (arith, S.long, e))
      go (inr e) (inl d) = inl (omega (arith, S.long, d))
      go (inr e) (inr d) = inr (omega (arith, S.long, S.most, d), none e)

-- ---- of the call: what the elected that `voterank` leaves are

-- the poll after i elections
abbrev pub poll_after : {R : Type 0} → Given R → ℕ → Poll
poll_after g i = elections (graph_in g) (decay_of g.nodes g.directed (length g.from)) i (opening g.nodes)

pub record Means {R : Type 0} (seeds : ℕ) (g : Given R) (elected : List ℕ) : Type 0 where
  -- no node is elected twice
  pub once : (i j : ℕ) → i < j → j < length elected → get_or elected i 0 ≢ get_or elected j 0
  -- the one at place i had the highest score after i elections, no lower-numbered node had the same, and it was above 0
  pub highest : (i : ℕ) → i < length elected → Highest (poll_score (graph_in g) (poll_after g i)) g.nodes (get_or elected i 0) × (lt zero_f (poll_score (graph_in g) (poll_after g i) (get_or elected i 0)) ≡ true)
  -- as many as the lesser of n and the seeds, or fewer, and then no score was above 0 any more
  pub complete : (length elected ≡ seats_of g.nodes seeds) ⊎ ((length elected < seats_of g.nodes seeds) × ((v : ℕ) → v < g.nodes → lt zero_f (poll_score (graph_in g) (closing seeds g) v) ≡ false))

-- of a graph that is not refused
pub means : {R : Type 0} (seeds : ℕ) (g : Given R) → Sound g.nodes g.from g.to g.weight → Means seeds g (closing seeds g).elected
unfolding closing
means seeds g sound =
    record {
      once = never_twice (graph_in g) decay inside seats;
      highest = λ i l. each_highest (graph_in g) decay inside seats i l (omega (arith, at_most_lem (graph_in g) decay inside seats));
      complete = ⊎_elim (λ some. complete (graph_in g) decay inside seats some) (λ none. inl (omega (arith, at_most_lem (graph_in g) decay inside seats))) (below_or_not 0 g.nodes);
    }
  where
    decay : Float
    decay = decay_of g.nodes g.directed (length g.from)

    seats : ℕ
    seats = seats_of g.nodes seeds

    inside : EndsIn g.nodes (graph_in g).edges
    inside = (valid g.directed sound).inside
