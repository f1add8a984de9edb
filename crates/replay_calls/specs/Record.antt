-- When a record can be replayed, what is known of what its call leaves, and what the replay then answers. Definitions only.
use Rattle.std.specs.Prelude.{◌≡◌, ℕ, ◌+◌, Bool, true, false, not, ◌&&◌, ◌||◌, List, [], ◌∷◌, length, ◌==◌, nat_lt}
use Rattle.words.specs.declared.Places.{Places}
use Rattle.words.specs.Words.{word_at, places_of}
use Rattle.lent.specs.declared.Left.{Left}
use Rattle.lent.specs.Said.{NoRounds, NoElection}
use Rattle.compared.specs.Other.{finds_other}

-- Whether one of the words from a further one behind a place on is more than its limit.
unfoldable pub longer_from : List ℕ → ℕ → ℕ → List ℕ → Bool
longer_from ws place further [] = false
longer_from ws place further (m ∷ most) = nat_lt m (word_at ws place further) || longer_from ws place (further + 1) most

-- Whether one of the words behind a place is more than its limit.
abbrev pub is_longer : List ℕ → ℕ → List ℕ → Bool
is_longer ws place most = longer_from ws place 0 most

-- Whether the edge slices are no longer than a number.
abbrev pub edges_within : List ℕ → ℕ → Bool
edges_within ws n = not (is_longer ws 3 (n ∷ n ∷ n ∷ []))

-- Whether the words end where the record does, and no slice is longer than what is lent.
unfoldable pub fits_in : List ℕ → Places → Bool
fits_in ws p =
    (p.end == length ws) && (edges_within ws 32769 && (not (nat_lt 8 (word_at ws p.own 5)) && not (is_longer ws p.lengths (160 ∷ 160 ∷ 160 ∷ 160 ∷ 2200 ∷ 220 ∷ 1300 ∷ []))))

-- Whether a call goes by rounds: PageRank, personalized PageRank, eigenvector, Katz.
unfoldable pub has_rounds : ℕ → Bool
has_rounds call = not (nat_lt call 10) && nat_lt call 14

-- Whether a call counts shortest paths: betweenness of nodes and of edges.
unfoldable pub counts_paths : ℕ → Bool
counts_paths call = not (nat_lt call 4) && nat_lt call 6

-- A fact that holds if a test does.
abbrev pub If : Bool → Type 0 → Type 0
If true P = P
If false P = Unit

-- What is known of the reports of a call by its number.
pub record Reports (call : ℕ) (l : Left) : Type 0 where
  pub rounds : If (not (has_rounds call)) (NoRounds l)
  pub election : If (has_rounds call || counts_paths call) (NoElection l)

-- The answer r is what comparing the record with what its call left says. Of what was left only the reports are known here.
pub record Compares (r : Bool) (ws : List ℕ) (p : Places) (edges : ℕ) : Type 0 where
  pub left : Left
  pub reports : Reports (word_at ws 0 0) left
  pub finds : r ≡ finds_other ws p edges left

-- What is answered of a record that fits: what the comparison says; of any other: that it differs.
abbrev pub Answers : Bool → Bool → List ℕ → Type 0
Answers true r ws = Compares r ws (places_of ws) (word_at ws 3 0)
Answers false r ws = r ≡ true

-- What is answered of a record.
abbrev pub Replays : Bool → List ℕ → Type 0
Replays r ws = Answers (fits_in ws (places_of ws)) r ws
