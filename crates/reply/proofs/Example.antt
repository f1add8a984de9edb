-- The answer of document 01, by computation of the definitions.
-- Assumes nothing.
use mathlib.Core.Path.{◌≡◌, refl}
use mathlib.Core.List.{[], ◌∷◌}
use lib.Ieee.{nan, binary64, of_bits, of_fields, to_bits, odd, size}
use Rattle.text.specs.Bytes.{bytes}
use Rattle.text.specs.Written.{digits_text, count_in}
use Rattle.lines.specs.declared.Measure.TheVariants.{Betweenness}
use Rattle.std.specs.Prelude.{None}
use Rattle.reply.specs.Reply.{lines_text, score_text, answer_text, election_text, refusal_text}

the_example : answer_text Betweenness 3 0 None (of_bits binary64 0 ∷ of_bits binary64 0x3ff0000000000000 ∷ of_bits binary64 0 ∷ []) ≡ bytes "measure=betweenness\nanswer=0\nnodes=3\nrounds=0\nsettled=none\nscore=0,0000000000000000\nscore=1,3ff0000000000000\nscore=2,0000000000000000\n"
unfolding digits_text count_in lines_text of_bits of_fields to_bits odd size
the_example = refl

a_refusal : refusal_text 12 18446744073709551615 ≡ bytes "answer=12\nline=18446744073709551615\n"
unfolding digits_text count_in
a_refusal = refl

an_election : election_text 5 (3 ∷ 0 ∷ []) ≡ bytes "measure=voterank\nanswer=0\nnodes=5\nrounds=0\nsettled=none\nelected=3\nelected=0\n"
unfolding digits_text count_in lines_text
an_election = refl

a_nan : lines_text score_text 7 (nan ∷ []) ≡ bytes "score=7,7ff8000000000000\n"
unfolding digits_text count_in lines_text to_bits
a_nan = refl
