-- The text of a measure fits into 32,768 bytes. Assumes nothing.
use Prim.Native.Nat.{◌≤◌}
use native.Mathlib.Omega.{arith}
use lib.ListN.{length}
use Rattle.answers.specs.Settings.{job_node_limit}
use Rattle.lines.specs.declared.Measure.{Measure}
use Rattle.lines.specs.declared.Measure.TheVariants.{Betweenness, Pagerank, Personalized, Eigenvector, Katz, Reaching, Voterank, Laplacian, Degree}
use Rattle.lines.specs.declared.Top.{Top}
use Rattle.outcomes.specs.Lent.{Lent, given_elected}
use Rattle.outcomes.specs.Texts.{output_room}
use Rattle.outcomes.proofs.Fits.{plain, ended, elected_fits}
use Rattle.iterative.specs.Scored.{pagerank_of, personalized_of, eigenvector_of, katz_of}
use Rattle.measures.specs.Scored.{betweenness_of, reaching_of, voterank_of, laplacian_of, degree_of}
use Rattle.measures.proofs.Seats.{count_few}
use Rattle.scoring.specs.Scored.{scored_text}

pub measure_fits : (measure : Measure) (top : Top) (l : Lent) → top.nodes ≤ job_node_limit → length (scored_text measure top l) ≤ output_room
unfolding scored_text
measure_fits Betweenness top l h = plain Betweenness top.nodes (betweenness_of top l) h
measure_fits Pagerank top l h = ended Pagerank top.nodes (pagerank_of top l) h
measure_fits Personalized top l h = ended Personalized top.nodes (personalized_of top l) h
measure_fits Eigenvector top l h = ended Eigenvector top.nodes (eigenvector_of top l) h
measure_fits Katz top l h = ended Katz top.nodes (katz_of top l) h
measure_fits Reaching top l h = plain Reaching top.nodes (reaching_of top l) h
measure_fits Voterank top l h = elected_fits top.nodes (voterank_of top l).says (voterank_of top l).results (λ k e. omega (arith, h, count_few top.option (given_elected top l) k e))
measure_fits Laplacian top l h = plain Laplacian top.nodes (laplacian_of top l) h
measure_fits Degree top l h = plain Degree top.nodes (degree_of top l) h
