-- `printedtotals::line_size` meets its contract: the label, the digits and the newline.
-- Assumes nothing.
use Rattle.printedtotals.proofs.Printing.{size-line}
use Rattle.printedtotals.proofs.line_size.Goals as goal

pub returns : goal.returns
returns c = size-line _ _ c.label_size.ensures c.digit_count.ensures
