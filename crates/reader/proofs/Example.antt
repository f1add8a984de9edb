-- The job text of document 01, by computation of the definitions; and texts with a fault, each with the line that decides.
-- Assumes nothing.
use mathlib.Core.Path.{◌≡◌, refl}
use mathlib.Core.Bool.{false}
use mathlib.Core.List.{List, [], ◌∷◌, ◌++◌}
use Prim.Native.Nat.{ℕ}
use Rattle.text.specs.Bytes.{bytes}
use Rattle.text.specs.Text.{digits_from, decimal_of, bits_of, starts, is_word, place_of}
use Rattle.std.specs.Prelude.{Ok, Err}
use Rattle.lines.specs.Names.{kind_of}
use Rattle.lines.specs.Lines.{value_of, cut_of, edge_of, edge_line}
use Rattle.lines.specs.Top.{top_of}
use Rattle.lines.specs.declared.Measure.TheVariants.{Betweenness}
use Rattle.reader.specs.Edges.{edges_from}
use Rattle.reader.specs.Job.{head_of, job_of, edges_of}

abbrev head_text : List ℕ
head_text = bytes "measure=betweenness\nkind=undirected\nnodes=3\noption=0\nrounds=0\nfactor=0000000000000000\ntolerance=0000000000000000\nedges=2\n"

abbrev edges_text : List ℕ
edges_text = bytes "edge=0,1,3ff0000000000000\nedge=1,2,3ff0000000000000\n"

the_example : job_of (head_text ++ edges_text) ≡ Ok (record { measure = Betweenness; top = record { directed = false; nodes = 3; option = 0; rounds = 0; factor = 0; tolerance = 0 }; edges = 2 })
unfolding job_of edges_of head_of top_of kind_of edges_from edge_line edge_of cut_of value_of decimal_of bits_of digits_from starts is_word place_of
the_example = refl

its_edges : (edges_of (head_text ++ edges_text)).given ≡ record { from = 0; to = 1; weight = 0x3ff0000000000000 } ∷ record { from = 1; to = 2; weight = 0x3ff0000000000000 } ∷ []
unfolding edges_of head_of top_of kind_of edges_from edge_line edge_of cut_of value_of decimal_of bits_of digits_from starts is_word place_of
its_edges = refl

a_missing_line : job_of head_text ≡ Err (record { number = 9 })
unfolding job_of edges_of head_of top_of kind_of edges_from edge_line edge_of cut_of value_of decimal_of bits_of digits_from starts is_word place_of
a_missing_line = refl

a_line_more : job_of (head_text ++ edges_text ++ bytes "edge=0,2,0000000000000000\n") ≡ Err (record { number = 11 })
unfolding job_of edges_of head_of top_of kind_of edges_from edge_line edge_of cut_of value_of decimal_of bits_of digits_from starts is_word place_of
a_line_more = refl

an_unused_setting : job_of (bytes "measure=degree\nkind=directed\nnodes=3\noption=0\nrounds=1\n") ≡ Err (record { number = 5 })
unfolding job_of edges_of head_of top_of kind_of edges_from edge_line edge_of cut_of value_of decimal_of bits_of digits_from starts is_word place_of
an_unused_setting = refl
