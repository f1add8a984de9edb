-- Laws of a job by its head.
-- Assumes nothing.
use mathlib.Core.Path.{◌≡◌, refl, sym, ap, ◌∙◌}
use mathlib.Core.List.{List, []}
use Prim.Native.Nat.{ℕ}
use lib.ListN.{length}
use Rattle.std.specs.Prelude.{Result, Ok, Err}
use Rattle.lines.specs.declared.FaultyLine.{FaultyLine}
use Rattle.reader.specs.declared.Head.{Head}
use Rattle.reader.specs.Edges.{edges_from}
use Rattle.reader.specs.Job.{head_of, edges_after, edges_of, job_to, job_of}
use Rattle.reader.proofs.Weights.{all_there}

pub no_head : (s : List ℕ) (fault : FaultyLine) → head_of s ≡ Err fault → job_of s ≡ Err fault
unfolding job_of
no_head s fault h = ap (λ (x : Result (Head × ℕ) FaultyLine). job_to x (edges_of s).read) h

pub no_edges : (s : List ℕ) (fault : FaultyLine) → head_of s ≡ Err fault → (edges_of s).given ≡ []
unfolding edges_of
no_edges s fault h = ap (λ (x : Result (Head × ℕ) FaultyLine). (edges_after s x).given) h

pub edges_are : (s : List ℕ) (head : Head) (at : ℕ) → head_of s ≡ Ok (head, at) → edges_of s ≡ edges_from s head.edges 0 at
unfolding edges_of
edges_are s head at h = ap (λ (x : Result (Head × ℕ) FaultyLine). edges_after s x) h

pub asked : (s : List ℕ) (head : Head) (at : ℕ) → head_of s ≡ Ok (head, at) → Ok tt ≡ (edges_from s head.edges 0 at).read → job_of s ≡ Ok head
unfolding job_of
asked s head at h e = rw (h, edges_are s head at h, sym e)

pub edge_fault : (s : List ℕ) (head : Head) (at : ℕ) (fault : FaultyLine) → head_of s ≡ Ok (head, at) → Err fault ≡ (edges_from s head.edges 0 at).read → job_of s ≡ Err fault
unfolding job_of
edge_fault s head at fault h e = rw (h, edges_are s head at h, sym e)

-- a job without a fault has as many edges as it says
to_asked : (s : List ℕ) (x : Result (Head × ℕ) FaultyLine) {head : Head} → job_to x (edges_after s x).read ≡ Ok head → length (edges_after s x).given ≡ head.edges
to_asked s (Ok x) {head} h = either (edges_from s x.0.edges 0 x.1).read refl h
  where
    either : (read : Result (Unit {0}) FaultyLine) → (edges_from s x.0.edges 0 x.1).read ≡ read → job_to (Ok x) read ≡ Ok head → length (edges_from s x.0.edges 0 x.1).given ≡ head.edges
    either (Ok u) e k =
        let same : x.0 ≡ head = cc in
        all_there s x.0.edges 0 x.1 e ∙ ap (λ (y : Head). y.edges) same
    either (Err fault) e k = absurd (cc)
to_asked s (Err fault) h = absurd (cc)

pub edges_asked : (s : List ℕ) {head : Head} → job_of s ≡ Ok head → length (edges_of s).given ≡ head.edges
unfolding job_of edges_of
edges_asked s h = to_asked s (head_of s) h

-- a job by its head, step by step
pub ruleset by_head = (no_head, no_edges, edges_are, asked, edge_fault)
