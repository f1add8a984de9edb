-- No more nodes are elected than there are. Assumes nothing.
use mathlib.Core.Path.{◌≡◌}
use mathlib.Core.Bool.{Bool, true, false, cond}
use mathlib.Core.List.{List, [], ◌∷◌}
use Prim.Native.Nat.{ℕ, zero, suc, ◌+◌, ◌≤◌}
use native.Mathlib.Omega.{arith}
use lib.Dec.{ltb}
use lib.ListN.{length, length-append}
use lib.Ieee.{Float, lt}
use Rattle.regions.specs.Region.{zero_f, over}
use Rattle.answers.specs.Answers.{done, refuses, refused_with}
use Rattle.graph.specs.Edges.{Graph}
use Rattle.graph.specs.Given.{Given, graph_in}
use Rattle.graph.specs.Left.{untouched, wiped}
use Rattle.graph.specs.Refusals.{plainly}
use Rattle.voterank.specs.VoteRank.{Poll, electing, winner, poll_score, elections, opening, decay_of, seats_of, closing, voterank_outcome}

-- each election adds one
elected_few : (g : Graph) (decay : Float) (k : ℕ) (p : Poll) → length (elections g decay k p).elected ≤ length p.elected + k
unfolding elections electing
elected_few g decay zero p = omega arith
elected_few g decay (suc k) p = either (lt zero_f (poll_score g p (winner g p))) (elected_few g decay k (electing g decay p (winner g p)))
  where
    next : Poll
    next = electing g decay p (winner g p)

    either : (b : Bool) → length (elections g decay k next).elected ≤ length next.elected + k → length (cond b (elections g decay k next) p).elected ≤ length p.elected + suc k
    either true h = omega (arith, h, length-append p.elected (winner g p ∷ []))
    either false h = omega arith

closing_few : (seeds : ℕ) (g : Given (List ℕ)) → length (closing seeds g).elected ≤ g.nodes
unfolding closing
closing_few seeds g = omega (arith, elected_few (graph_in g) (decay_of g.nodes g.directed (length g.from)) (seats_of g.nodes seeds) (opening g.nodes))

pub count_few : (seeds : ℕ) (g : Given (List ℕ)) (k : ℕ) → (voterank_outcome seeds g).says ≡ done k → k ≤ g.nodes
unfolding voterank_outcome
count_few seeds g k e = either (refuses (plainly g false false (ltb (length g.results) (seats_of g.nodes seeds)))) e
  where
    many : ℕ
    many = length (closing seeds g).elected

    either : (b : Bool) → (cond b (untouched g (refused_with (plainly g false false (ltb (length g.results) (seats_of g.nodes seeds))))) (wiped g (done many) (over (closing seeds g).elected g.results))).says ≡ done k → k ≤ g.nodes
    either true q = let z : ◌≡◌ {A = ℕ} 0 1 = cc in let bad : ⊥ = omega arith in absurd bad
    either false q =
        let same : many ≡ k = cc in
        omega (arith, closing_few seeds g, same)
