-- The answer of a job within the limits is its measure's, beside all result slots and workspaces that have room. Assumes nothing.
use mathlib.Core.Path.{◌≡◌, refl, sym, ◌∙◌, subst}
use mathlib.Core.List.{List, map}
use Rattle.std.specs.Prelude.{Ok}
use Prim.Native.Nat.{ℕ, ◌≤◌}
use native.Mathlib.Omega.{arith}
use lib.ListN.{length, length-map}
use Rattle.answers.specs.Settings.{job_node_limit, job_edge_limit}
use Rattle.reader.specs.declared.Head.{Head}
use Rattle.lines.specs.declared.Edge.{Edge}
use Rattle.reader.specs.Edges.{from_of, to_of, bits_of}
use Rattle.reader.specs.Job.{job_of, edges_of}
use Rattle.reader.proofs.Jobs.{edges_asked}
use Rattle.outcomes.specs.Lent.{Lent}
use Rattle.scoring.specs.Scored.{scored_text, doubles}
use Rattle.scoring.proofs.Workspace.{Ample, beside, any_room}
use Rattle.job.specs.Run.{input_limit, answer_of}
use Rattle.job.proofs.Texts.{of_measure, a_job}

-- the zeros in the definition of the answer stand for any slots and any workspace with room
pub any_workspace : (input : List ℕ) {head : Head} → length input ≤ input_limit → job_of input ≡ Ok head → head.top.nodes ≤ job_node_limit → head.edges ≤ job_edge_limit
    → (l : Lent) → Ample head.top.nodes head.edges l
    → answer_of input ≡ scored_text head.measure head.top (beside (map from_of (edges_of input).given) (map to_of (edges_of input).given) (doubles (map bits_of (edges_of input).given)) l)
any_workspace input {head} few asked nodes_few edges_few l A =
    let edges : List Edge = (edges_of input).given in
    let long : length (map from_of edges) ≡ head.edges = length-map edges from_of ∙ edges_asked input asked in
    a_job input few refl asked
    ∙ of_measure head (map from_of edges) (map to_of edges) (map bits_of edges) nodes_few edges_few
    ∙ any_room head.measure head.top (map from_of edges) (map to_of edges) (doubles (map bits_of edges)) l nodes_few (omega (arith, long, edges_few)) (subst (λ (m : ℕ). Ample head.top.nodes m l) (sym long) A)
