-- `startindex::full_word` meets its contract: what is made so far is the word of the instructions behind. Assumes nothing.
use Rattle.startindex.proofs.Words.{Gathering}
use Rattle.startindex.proofs.full_word.Given as goal

abbrev pub invariant-loop-j : goal.invariant-loop-j
invariant-loop-j l = Gathering l.records l.from l.word l.j
