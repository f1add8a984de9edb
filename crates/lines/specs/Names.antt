-- The measures and their names, and the two kinds of graph.
-- Definitions only. Document 01, "The command program".
use Rattle.std.specs.Prelude.{ℕ, Bool, true, false, cond, List, [], ◌∷◌, Option, Some, None, find}
use Rattle.text.specs.Bytes.{bytes}
use Rattle.text.specs.Text.{is_word}
use Rattle.lines.specs.declared.Measure.{Measure}
use Rattle.lines.specs.declared.Measure.TheVariants.{Betweenness, Pagerank, Personalized, Eigenvector, Katz, Reaching, Voterank, Laplacian, Degree}

-- every measure, in document 01's order
abbrev pub measures : List Measure
measures = Betweenness ∷ Pagerank ∷ Personalized ∷ Eigenvector ∷ Katz ∷ Reaching ∷ Voterank ∷ Laplacian ∷ Degree ∷ []

-- the name of each
abbrev pub name_of : Measure → List ℕ
name_of Betweenness = bytes "betweenness"
name_of Pagerank = bytes "pagerank"
name_of Personalized = bytes "personalized"
name_of Eigenvector = bytes "eigenvector"
name_of Katz = bytes "katz"
name_of Reaching = bytes "reaching"
name_of Voterank = bytes "voterank"
name_of Laplacian = bytes "laplacian"
name_of Degree = bytes "degree"

-- the measure, of all nine, whose name a text is; none if it is none of theirs
abbrev pub measure_of : List ℕ → Option Measure
measure_of s = find (λ m. is_word (name_of m) s) measures

-- whether a kind is directed; none if the text is no kind
unfoldable pub kind_of : List ℕ → Option Bool
kind_of s = cond (is_word (bytes "directed") s) (Some true) (cond (is_word (bytes "undirected") s) (Some false) None)
