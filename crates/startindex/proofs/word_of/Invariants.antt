-- `startindex::word_of` meets its contract: what is made so far is the word of the instructions behind. Assumes nothing.
use Rattle.startindex.proofs.Words.{Making}
use Rattle.startindex.proofs.word_of.Given as goal

abbrev pub invariant-loop-i : goal.invariant-loop-i
invariant-loop-i l = Making l.records l.from l.n l.word l.i
