-- `printedtotals::put_lines` meets its contract: the lines from each turn on make the whole.
-- Assumes nothing.
use borrow.Author.Rules.{rules}
use Rattle.printedtotals.proofs.Printing.{lines_start, line-room, lines-turn, lines_end}
use Rattle.printedtotals.proofs.put_lines.Goals as goal

pub loop-i-init : goal.loop-i-init
loop-i-init c = lines_start _ _ (search rules)

pub put_line-at-requires : goal.put_line-at-requires
put_line-at-requires c = line-room c.loop-i.invariant c.loop-i-test.true c.counter.ensures

pub loop-i-preserved : goal.loop-i-preserved
loop-i-preserved c = lines-turn c.loop-i.invariant c.loop-i-test.true c.counter.ensures c.put_line-at.ensures.0 c.put_line-at.ensures.1

pub returns : goal.returns
returns c = lines_end c.loop-i.invariant c.loop-i-test.false
