-- `startindex::word_at` meets its contract: how many instructions the word has a bit for, case by case. Assumes nothing.
use Rattle.startindex.proofs.Words.{word_past, word_short, word_full, behind_first}
use borrow.Author.Rules.{rules}
use Rattle.startindex.proofs.word_at.Goals as goal

pub returns-then-count-i : goal.returns-then-count-i
returns-then-count-i c = word_past _ _ _ c.if-count-i.true

pub returns-then-count-i-lt-WORD_BITS : goal.returns-then-count-i-lt-WORD_BITS
returns-then-count-i-lt-WORD_BITS c = word_short _ _ _ c.if-count-i-lt-WORD_BITS.true c.word_of.ensures

pub returns-then-i-eq0 : goal.returns-then-i-eq0
returns-then-i-eq0 c = word_full _ _ _ c.if-count-i-lt-WORD_BITS.false c.word_of-then-i-eq0.ensures

pub full_word-requires : goal.full_word-requires
full_word-requires c = (behind_first _ c.if-i-eq0.false, search rules)

pub returns : goal.returns
returns c = word_full _ _ _ c.if-count-i-lt-WORD_BITS.false c.full_word.ensures
