-- `printedtotals::print_totals` meets its contract: the lines over a cleared output, where there is room for them.
-- Assumes nothing.
use Rattle.printedtotals.proofs.Printing.{printed_short, printed_all}
use Rattle.printedtotals.proofs.print_totals.Goals as goal

pub returns-then-out-size : goal.returns-then-out-size
returns-then-out-size c = printed_short _ _ c.clear_bytes.ensures c.if-out-size.true c.lines_size-size.ensures.0 c.at.ensures

pub returns : goal.returns
returns c = printed_all _ _ c.clear_bytes.ensures c.if-out-size.false c.lines_size-size.ensures.0 c.put_lines.ensures
