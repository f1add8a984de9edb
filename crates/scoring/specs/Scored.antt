-- The answer's text of a job's measure, which is lent slots and a workspace of zeros.
-- Definitions only. Document 01, "The command program".
use Rattle.std.specs.Prelude.{List, map, ℕ, replicate, Float}
use Rattle.std.specs.Float.{binary64}
use Rattle.std.specs.Float.Ieee.{of_bits}
use Rattle.regions.specs.Region.{zero_f}
use Rattle.answers.specs.Settings.{job_node_limit, job_edge_limit}
use Rattle.graph.specs.declared.Fronts.{Fronts}
use Rattle.graph.specs.Fronts.{usual_fronts}
use Rattle.lines.specs.declared.Measure.{Measure}
use Rattle.lines.specs.declared.Measure.TheVariants.{Betweenness, Pagerank, Personalized, Eigenvector, Katz, Reaching, Voterank, Laplacian, Degree}
use Rattle.lines.specs.declared.Top.{Top}
use Rattle.outcomes.specs.Lent.{Lent, lent}
use Rattle.iterative.specs.Scored.{pagerank_text, personalized_text, eigenvector_text, katz_text}
use Rattle.measures.specs.Scored.{betweenness_text, reaching_text, voterank_text, laplacian_text, degree_text}

-- the text of a measure's answer
unfoldable pub scored_text : Measure → Top → Lent → List ℕ
scored_text Betweenness top l = betweenness_text top l
scored_text Pagerank top l = pagerank_text top l
scored_text Personalized top l = personalized_text top l
scored_text Eigenvector top l = eigenvector_text top l
scored_text Katz top l = katz_text top l
scored_text Reaching top l = reaching_text top l
scored_text Voterank top l = voterank_text top l
scored_text Laplacian top l = laplacian_text top l
scored_text Degree top l = degree_text top l

-- the used fronts of the largest job: of the most nodes and edges that it may have
abbrev pub job_fronts : Fronts
job_fronts = usual_fronts job_node_limit job_edge_limit

-- beside a graph: slots for the results of the largest job and a workspace of its fronts, all of them zero; all others with room give the same text (`any_workspace`)
unfoldable pub on_zeros : List ℕ → List ℕ → List Float → Lent
on_zeros from to weight =
    lent from to weight (replicate job_node_limit zero_f) (replicate job_node_limit 0) (replicate job_fronts.narrow 0) (replicate job_fronts.wide 0) (replicate job_fronts.floats zero_f)

-- the double of each pattern
abbrev pub doubles : List ℕ → List Float
doubles bits = map (of_bits binary64) bits
