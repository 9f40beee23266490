-- `starts::kth_start` meets its contract: the block where the bisection ends, then that block's words. Assumes nothing.
use borrow.Author.Rules.{rules}
use Rattle.starts.proofs.Answers.{kth_missing, kth-found}
use Rattle.starts.proofs.kth_start.Goals as goal

pub returns-then-k-total : goal.returns-then-k-total
returns-then-k-total c = kth_missing _ _ _ c.block_with-b.ensures.0 c.if-k-total.true

pub returns : goal.returns
returns c = kth-found _ _ _ c.block_with-b.ensures.0 c.if-k-total.false c.kth_in_words.ensures (search rules)
