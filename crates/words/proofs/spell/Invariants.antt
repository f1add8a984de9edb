-- `words::spell` meets its contract: no more words are put than there is room for. Assumes nothing.
use Rattle.std.proofs.Common.{◌≤◌, length}
use Rattle.words.proofs.spell.Given as goal

abbrev pub invariant-loop-b : goal.invariant-loop-b
invariant-loop-b l = l.n ≤ length l.words
