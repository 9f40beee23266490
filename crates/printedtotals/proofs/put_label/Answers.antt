-- `printedtotals::put_label` meets its contract, label by label.
-- Assumes nothing.
use Rattle.std.proofs.Common.{◌<◌, arith, rules}
use Rattle.printedtotals.proofs.Printing.{size-inputs, size-accepted, size-refused, length_more, label_zero, label_one, label-two, put_first, put_more}
use Rattle.printedtotals.proofs.put_label.Goals as goal

pub put_text-requires : goal.put_text-requires
put_text-requires c = omega (arith, (size-inputs c.in-0.is).0)

pub returns-in-0 : goal.returns-in-0
returns-in-0 c = put_first c.args.out.now c.args.at 0 label_zero c.in-0.is c.put_text.ensures

pub put_text-requires-in-1 : goal.put_text-requires-in-1
put_text-requires-in-1 c = omega (arith, (size-accepted c.in-1.is).0)

pub returns-in-1 : goal.returns-in-1
returns-in-1 c = put_first c.args.out.now c.args.at 1 label_one c.in-1.is c.put_text-in-1.ensures

pub put_text-requires-in-2 : goal.put_text-requires-in-2
put_text-requires-in-2 c = omega (arith, (size-refused c.in-2.is).0)

pub returns-in-2 : goal.returns-in-2
returns-in-2 c = put_first c.args.out.now c.args.at 2 label-two c.in-2.is c.put_text-in-2.ensures

pub put_text-number-requires : goal.put_text-number-requires
put_text-number-requires c =
    let more : 2 < c.args.i = search rules in
    omega (arith, length_more c.args.i more)

pub put_decimal-end-requires : goal.put_decimal-end-requires
put_decimal-end-requires c =
    let more : 2 < c.args.i = search rules in
    omega (arith, c.put_text-number.auto.out, c.put_text-number.ensures.0, length_more c.args.i more)

pub put_text-requires-in_default : goal.put_text-requires-in_default
put_text-requires-in_default c =
    let more : 2 < c.args.i = search rules in
    omega (arith, c.put_decimal-end.auto.out, c.put_decimal-end.ensures.0, c.put_text-number.auto.out, c.put_text-number.ensures.0, length_more c.args.i more)

pub returns-in_default : goal.returns-in_default
returns-in_default c =
    let more : 2 < c.args.i = search rules in
    put_more c.args.out.now c.args.at c.args.i more c.put_text-number.ensures c.put_decimal-end.ensures c.put_text-in_default.ensures
