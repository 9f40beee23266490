-- `starts::starts_before` meets its contract: 17, then 20, then the sum. Assumes nothing.
use Rattle.starts.proofs.Answers.{before-short, before-beyond, before-told}
use Rattle.starts.proofs.starts_before.Goals as goal

pub returns-then-index-words_needed : goal.returns-then-index-words_needed
returns-then-index-words_needed c = before-short _ _ _ c.words_needed.ensures c.if-index-words_needed.true c.at.ensures

pub returns-then-count-n : goal.returns-then-count-n
returns-then-count-n c = before-beyond _ _ _ c.words_needed.ensures c.if-index-words_needed.false c.if-count-n.true c.at-then-count-n.ensures

pub returns : goal.returns
returns c = before-told _ _ _ c.words_needed.ensures c.if-index-words_needed.false c.if-count-n.false c.count_before.ensures
