-- The answer's text of each iterative measure: what its call says of a job, on the slices that are lent to it.
-- Definitions only. Document 01, "The command program".
use Rattle.std.specs.Prelude.{false, List, [], ℕ, Float}
use Rattle.answers.specs.Answers.{Said}
use Rattle.graph.specs.Left.{Left}
use Rattle.answers.specs.declared.Rounds.{Rounds}
use Rattle.lines.specs.declared.Measure.TheVariants.{Pagerank, Personalized, Eigenvector, Katz}
use Rattle.lines.specs.declared.Top.{Top}
use Rattle.outcomes.specs.Lent.{Lent, given_scores}
use Rattle.outcomes.specs.Texts.{settings_of, ended_of}
use Rattle.pagerank.specs.PageRank.{pagerank_outcome}
use Rattle.personalized_pagerank.specs.Personalized.{personalized_outcome}
use Rattle.eigenvector.specs.Eigenvector.{eigen_outcome}
use Rattle.katz.specs.Katz.{katz_outcome}

-- what `pagerank` leaves; a start is not given
abbrev pub pagerank_of : Top → Lent → Left (Said Rounds) (List Float)
pagerank_of top l = pagerank_outcome (settings_of top) false [] (given_scores top l)

-- the answer's text of `pagerank`
abbrev pub pagerank_text : Top → Lent → List ℕ
pagerank_text top l = ended_of Pagerank top.nodes (pagerank_of top l)

-- what `personalized_pagerank` leaves; a vector is not given
abbrev pub personalized_of : Top → Lent → Left (Said Rounds) (List Float)
personalized_of top l = personalized_outcome (settings_of top) false [] (given_scores top l)

-- the answer's text of `personalized_pagerank`
abbrev pub personalized_text : Top → Lent → List ℕ
personalized_text top l = ended_of Personalized top.nodes (personalized_of top l)

-- what `eigenvector` leaves
abbrev pub eigenvector_of : Top → Lent → Left (Said Rounds) (List Float)
eigenvector_of top l = eigen_outcome (settings_of top) (given_scores top l)

-- the answer's text of `eigenvector`
abbrev pub eigenvector_text : Top → Lent → List ℕ
eigenvector_text top l = ended_of Eigenvector top.nodes (eigenvector_of top l)

-- what `katz` leaves; beta is not given
abbrev pub katz_of : Top → Lent → Left (Said Rounds) (List Float)
katz_of top l = katz_outcome (settings_of top) false [] (given_scores top l)

-- the answer's text of `katz`
abbrev pub katz_text : Top → Lent → List ℕ
katz_text top l = ended_of Katz top.nodes (katz_of top l)
