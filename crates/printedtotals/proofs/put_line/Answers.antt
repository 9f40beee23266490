-- `printedtotals::put_line` meets its contract: the label, the digits and the newline, one behind another.
-- Assumes nothing.
use native.Mathlib.Omega.{arith}
use Rattle.printedtotals.proofs.Printing.{length-line, put_whole}
use Rattle.printedtotals.proofs.put_line.Goals as goal

pub put_label-digits-requires : goal.put_label-digits-requires
put_label-digits-requires c = omega (arith, length-line c.args.i c.args.count)

pub put_decimal-end-requires : goal.put_decimal-end-requires
put_decimal-end-requires c = omega (arith, length-line c.args.i c.args.count, c.put_label-digits.auto.out, c.put_label-digits.ensures.0)

pub put_text-requires : goal.put_text-requires
put_text-requires c =
    omega (arith, length-line c.args.i c.args.count, c.put_decimal-end.auto.out, c.put_decimal-end.ensures.0, c.put_label-digits.auto.out, c.put_label-digits.ensures.0)

pub returns : goal.returns
returns c =
    put_whole c.args.out.now c.args.at c.args.i c.args.count c.put_label-digits.ensures c.put_decimal-end.ensures c.put_text.ensures
