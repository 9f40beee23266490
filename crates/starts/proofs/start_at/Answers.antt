-- `starts::start_at` meets its contract: 17, then 20, then the place. Assumes nothing.
use borrow.Author.Rules.{rules}
use Rattle.starts.proofs.Answers.{at_short, at_answered}
use Rattle.starts.proofs.start_at.Goals as goal

pub returns-then-index-words_needed : goal.returns-then-index-words_needed
returns-then-index-words_needed c = at_short _ _ _ c.words_needed.ensures c.if-index-words_needed.true c.at.ensures

pub returns-in_err-i : goal.returns-in_err-i
returns-in_err-i c = at_answered _ _ _ c.words_needed.ensures c.if-index-words_needed.false c.kth_start.ensures (search rules)

pub returns : goal.returns
returns c = at_answered _ _ _ c.words_needed.ensures c.if-index-words_needed.false c.kth_start.ensures (search rules)
