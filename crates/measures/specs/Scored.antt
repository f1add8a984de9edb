-- The answer's text of each measure without rounds: what its call says of a job, on the slices that are lent to it.
-- Definitions only. Document 01, "The command program".
use Rattle.std.specs.Prelude.{List, ℕ, eqb, Float}
use Rattle.answers.specs.Answers.{Said}
use Rattle.graph.specs.Left.{Left}
use Rattle.lines.specs.declared.Measure.TheVariants.{Betweenness, Reaching, Laplacian, Degree}
use Rattle.lines.specs.declared.Top.{Top}
use Rattle.outcomes.specs.Lent.{Lent, given_scores, given_elected, given_places}
use Rattle.outcomes.specs.Texts.{plain_of, elected_of}
use Rattle.betweenness.specs.Betweenness.{betweenness_outcome}
use Rattle.reaching.specs.Reaching.{reaching_outcome}
use Rattle.voterank.specs.VoteRank.{voterank_outcome}
use Rattle.laplacian.specs.Laplacian.{laplacian_outcome}
use Rattle.degree.specs.Degree.{degree_outcome}

-- what `betweenness` leaves; option 1 is normalized
abbrev pub betweenness_of : Top → Lent → Left (Said (Unit {0})) (List Float)
betweenness_of top l = betweenness_outcome (eqb top.option 1) (given_scores top l)

-- the answer's text of `betweenness`
abbrev pub betweenness_text : Top → Lent → List ℕ
betweenness_text top l = plain_of Betweenness top.nodes (betweenness_of top l)

-- what `local_reaching` leaves; the option is the hop limit
abbrev pub reaching_of : Top → Lent → Left (Said (Unit {0})) (List Float)
reaching_of top l = reaching_outcome top.option (given_scores top l)

-- the answer's text of `local_reaching`
abbrev pub reaching_text : Top → Lent → List ℕ
reaching_text top l = plain_of Reaching top.nodes (reaching_of top l)

-- what `voterank` leaves; the option is the seeds asked
abbrev pub voterank_of : Top → Lent → Left (Said ℕ) (List ℕ)
voterank_of top l = voterank_outcome top.option (given_elected top l)

-- the answer's text of `voterank`
abbrev pub voterank_text : Top → Lent → List ℕ
voterank_text top l = elected_of top.nodes (voterank_of top l)

-- what `laplacian` leaves
abbrev pub laplacian_of : Top → Lent → Left (Said (Unit {0})) (List Float)
laplacian_of top l = laplacian_outcome (given_scores top l)

-- the answer's text of `laplacian`
abbrev pub laplacian_text : Top → Lent → List ℕ
laplacian_text top l = plain_of Laplacian top.nodes (laplacian_of top l)

-- what `degree` leaves
abbrev pub degree_of : Top → Lent → Left (Said (Unit {0})) (List Float)
degree_of top l = degree_outcome (given_places top l)

-- the answer's text of `degree`
abbrev pub degree_text : Top → Lent → List ℕ
degree_text top l = plain_of Degree top.nodes (degree_of top l)
