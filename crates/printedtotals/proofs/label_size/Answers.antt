-- `printedtotals::label_size` meets its contract, label by label.
-- Assumes nothing.
use Rattle.std.proofs.Common.{◌<◌, rules}
use Rattle.printedtotals.proofs.Printing.{size-inputs, size-accepted, size-refused, size-refusal}
use Rattle.printedtotals.proofs.label_size.Goals as goal

pub returns-in-0 : goal.returns-in-0
returns-in-0 c = size-inputs c.in-0.is

pub returns-in-1 : goal.returns-in-1
returns-in-1 c = size-accepted c.in-1.is

pub returns-in-2 : goal.returns-in-2
returns-in-2 c = size-refused c.in-2.is

pub returns-in_default : goal.returns-in_default
returns-in_default c =
    let more : 2 < c.args.i = search rules in
    size-refusal _ more c.digit_count.ensures
