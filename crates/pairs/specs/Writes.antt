-- Each edge's total out of the workspace: walks over the edges from the last to the first, with a cursor for each node into its row, where the
-- newest edge stands first. Definitions only.
use Rattle.std.specs.Prelude.{◌≡◌, Bool, true, false, cond, List, ℕ, zero, suc, ◌+◌, ◌-◌, ◌≤◌, ◌<◌, eqb, length, get_or, set, Float}
use Rattle.std.specs.Float.{nan}
use Rattle.regions.specs.Region.{over, list_of, Frame}
use Rattle.graph.specs.Edges.{one_if}
use Rattle.rows.specs.Walks.{takes}

-- how many of the first k edges give v an entry; with skip, a self-loop gives none
unfoldable pub among : Bool → List ℕ → List ℕ → ℕ → ℕ → ℕ
among skip own other v zero = 0
among skip own other v (suc i) = one_if (takes skip (get_or own i 0) (get_or other i 0) v) + among skip own other v i

-- the place of the i-th edge's entry: its node's cursor, behind the entries of the later edges
abbrev pub place_of : Bool → List ℕ → List ℕ → List ℕ → ℕ → ℕ → ℕ
place_of skip own other w cursors i =
    get_or w (cursors + get_or own i 0) 0 + (among skip own other (get_or own i 0) (length own) - among skip own other (get_or own i 0) (suc i))

-- the total that the pair of the i-th edge's entry has
abbrev pub total_of : Bool → List ℕ → List ℕ → List ℕ → (cursors beside t : ℕ) → List Float → ℕ → Float
total_of skip own other w cursors beside t wf i = get_or wf (t + get_or w (beside + place_of skip own other w cursors i) 0) nan

-- what a walk asks: a cursor for each node, and for each edge that gives an entry a pair beside it, before the cursors, with a total
pub record WalkPre (n : ℕ) (skip : Bool) (own other w : List ℕ) (cursors beside t : ℕ) (wf results : List Float) : Type 0 where
  pub pair : length other ≡ length own
  pub ends : (i : ℕ) → i < length own → get_or own i 0 < n
  pub marks : cursors + n ≤ length w
  pub few : (v : ℕ) → v < n → get_or w (cursors + v) 0 + among skip own other v (length own) < 4294967296
  pub places : (i : ℕ) → i < length own → takes skip (get_or own i 0) (get_or other i 0) (get_or own i 0) ≡ true → beside + place_of skip own other w cursors i < cursors
  pub totals : (i : ℕ) → i < length own → takes skip (get_or own i 0) (get_or other i 0) (get_or own i 0) ≡ true
      → t + get_or w (beside + place_of skip own other w cursors i) 0 < length wf
  pub room : length own ≤ length results

-- each cursor is behind its node's entries, and nothing else differs
pub record Walked (n : ℕ) (skip : Bool) (own other : List ℕ) (cursors : ℕ) (w w' : List ℕ) : Type 0 where
  pub frame : Frame w cursors n w'
  pub ends : (v : ℕ) → v < n → get_or w' (cursors + v) 0 ≡ get_or w (cursors + v) 0 + among skip own other v (length own)

-- what `write_forward` leaves: each edge's total
pub record ForwardPost (n : ℕ) (from w : List ℕ) (cursors beside t : ℕ) (wf forward : List Float) (w' : List ℕ) (forward' : List Float) : Type 0 where
  pub walked : Walked n false from from cursors w w'
  pub written : forward' ≡ over (list_of (total_of false from from w cursors beside t wf) (length from)) forward

-- the total that an edge has the other way round: a self-loop's is the same
abbrev pub back_of : (from to w : List ℕ) (cursors beside t : ℕ) (wf forward : List Float) → ℕ → Float
back_of from to w cursors beside t wf forward i =
    cond (eqb (get_or from i 0) (get_or to i 0)) (get_or forward i nan) (total_of true to from w cursors beside t wf i)

-- what `next_total` asks: the cursor of `own` stands at a place with a pair beside it and a total
pub record NextPre (cursors beside t own : ℕ) (w : List ℕ) (wf : List Float) : Type 0 where
  pub end : cursors + own < length w
  pub few : get_or w (cursors + own) 0 + 1 < 4294967296
  pub place : beside + get_or w (cursors + own) 0 < cursors
  pub total : t + get_or w (beside + get_or w (cursors + own) 0) 0 < length wf

-- what it leaves: the cursor one place on
pub record NextTotal (cursors beside t own : ℕ) (w : List ℕ) (wf : List Float) (w' : List ℕ) (r : Float) : Type 0 where
  pub moved : w' ≡ set w (cursors + own) (get_or w (cursors + own) 0 + 1)
  pub total : r ≡ get_or wf (t + get_or w (beside + get_or w (cursors + own) 0) 0) nan

-- what `back_total` asks: unless the edge is a self-loop, the cursor of `to` stands at a place with a pair beside it and a total
pub record BackPre (cursors beside t from to : ℕ) (w : List ℕ) (wf : List Float) : Type 0 where
  pub end : cursors + to < length w
  pub few : (from ≡ to → ⊥) → get_or w (cursors + to) 0 + 1 < 4294967296
  pub place : (from ≡ to → ⊥) → beside + get_or w (cursors + to) 0 < cursors
  pub total : (from ≡ to → ⊥) → t + get_or w (beside + get_or w (cursors + to) 0) 0 < length wf

-- what it leaves: the cursor one place on, unless the edge is a self-loop
pub record BackTotal (cursors beside t from to : ℕ) (forward : Float) (w : List ℕ) (wf : List Float) (w' : List ℕ) (r : Float) : Type 0 where
  pub moved : w' ≡ cond (eqb from to) w (set w (cursors + to) (get_or w (cursors + to) 0 + 1))
  pub total : r ≡ cond (eqb from to) forward (get_or wf (t + get_or w (beside + get_or w (cursors + to) 0) 0) nan)

-- what `write_back` leaves: each edge's total the other way round
pub record BackPost (n : ℕ) (from to w : List ℕ) (cursors beside t : ℕ) (wf forward back : List Float) (w' : List ℕ) (back' : List Float) : Type 0 where
  pub walked : Walked n true to from cursors w w'
  pub written : back' ≡ over (list_of (back_of from to w cursors beside t wf forward) (length from)) back
