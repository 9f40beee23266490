-- `startindex::index_starts` meets its contract: the two stores are tested, then all blocks are stored over zeros. Assumes nothing.
use mathlib.Core.Path.{refl}
use Rattle.startindex.proofs.Counts.{starts_le}
use Rattle.startindex.proofs.Answers.{few-records, few_words, all_stored}
use borrow.Author.Rules.{rules}
use Rattle.startindex.proofs.index_starts.Goals as goal

pub returns-then-kept-count : goal.returns-then-kept-count
returns-then-kept-count c = few-records _ _ _ c.if-kept-count.true c.at.ensures (c.fill.ensures.after (λ y e. e))

pub returns-then-index-words_needed : goal.returns-then-index-words_needed
returns-then-index-words_needed c = few_words _ _ _ (c.fill.ensures.after (λ y e. e)) c.if-kept-count.false c.if-index-words_needed.true c.words_needed.ensures c.at-then-index-words_needed.ensures

pub overflow_cast-result : goal.overflow_cast-result
overflow_cast-result c = search (starts_le c.args.records.now 0 c.args.count, rules)

pub returns : goal.returns
returns c =
    let laid = c.put_blocks-starts.ensures in
    all_stored _ _ _ (c.fill.ensures.after (λ y e. e)) c.if-kept-count.false c.if-index-words_needed.false c.words_needed.ensures refl laid.0 laid.1
