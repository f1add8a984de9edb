-- What all elections ask and leave: the abilities stand at the front of the floats, the votes behind them. Definitions only.
use Rattle.std.specs.Prelude.{◌≡◌, ℕ, ◌*◌, ◌<◌, ◌≤◌, Bool, List, length, take, Float}
use Rattle.regions.specs.Region.{Front}
use Rattle.graph.specs.Edges.{graph_from, entries}
use Rattle.graph.specs.Pres.{Sized, Inside}
use Rattle.rows.specs.Rows.{row_at, RowsFit}
use Rattle.voterank.specs.VoteRank.{Poll, poll, elections}

-- the poll that the lent slices hold after k elections
abbrev pub poll_at : ℕ → ℕ → List ℕ → List Float → Poll
poll_at n k elected w = poll (take n w) (take k elected)

-- what `elect` asks: edges whose ends are nodes, the rows of their graph in r, no more seats than nodes, a slot for each, and room for abilities and votes
pub record ElectPre (n : ℕ) (directed : Bool) (from to : List ℕ) (weight : List Float) (seats : ℕ) (elected r : List ℕ) (w : List Float) : Type 0 where
  pub sized : Sized from to weight
  pub ends : Inside n from to
  pub small : n ≤ 4096
  pub few : seats ≤ n
  pub seated : seats ≤ length elected
  pub fit : RowsFit n r
  pub rows : (v : ℕ) → v < n → row_at n r v ≡ entries (graph_from n directed from to weight) v
  pub room : 2 * n ≤ length w

-- k elections were held: the poll is that of the rule, and only the elected's slots, abilities and votes were written
pub record Held (n : ℕ) (directed : Bool) (from to : List ℕ) (weight : List Float) (decay : Float) (seats : ℕ) (elected : List ℕ) (w : List Float) (k : ℕ) (elected' : List ℕ) (w' : List Float) : Type 0 where
  pub most : k ≤ seats
  pub polled : poll_at n k elected' w' ≡ elections (graph_from n directed from to weight) decay seats (poll_at n 0 elected w)
  pub slots : Front elected k elected'
  pub front : Front w (2 * n) w'
