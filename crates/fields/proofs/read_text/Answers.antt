-- `fields::read_text` meets its contract: the length is judged, then read, then the string is judged.
-- Assumes nothing.
use Rattle.grammar.specs.Fields.{contained}
use Rattle.fields.specs.Behind.{fields_of}
use Rattle.refusals.proofs.Faults.{handed_on}
use Rattle.fields.proofs.Laws.{passed, failed, text-bad, text_in}
use native.Mathlib.Omega.{arith}
use Rattle.fields.proofs.read_text.Goals as goal

pub le32-size-requires : goal.le32-size-requires
le32-size-requires c = omega (arith, (passed c.read_len.ensures c.in_ok-read_len.was).within)

pub overflow_add-string : goal.overflow_add-string
overflow_add-string c = omega (arith, (passed c.read_len.ensures c.in_ok-read_len.was).within, c.args.from.bound)

pub invariant_of-string : goal.invariant_of-string
invariant_of-string c = record { bound = c.args.from.bound; within = (passed c.read_len.ensures c.in_ok-read_len.was).within }

pub overflow_add-result : goal.overflow_add-result
overflow_add-result c =
    let fine = passed c.read_len.ensures c.in_ok-read_len.was in
    omega (arith, fine.within)

pub returns-in_err-read_len : goal.returns-in_err-read_len
unfolding fields_of contained
returns-in_err-read_len c = rw (handed_on c.from_residual.ensures.1) (record { ahead = tt; exact = failed c.read_len.ensures c.in_err-read_len.was _ })

pub returns-in_err-read_wtf8 : goal.returns-in_err-read_wtf8
returns-in_err-read_wtf8 c =
    rw (handed_on c.from_residual-in_err-read_wtf8.ensures.1)
    (text-bad (passed c.read_len.ensures c.in_ok-read_len.was) c.le32-size.ensures (failed c.read_wtf8.ensures c.in_err-read_wtf8.was))

pub returns : goal.returns
returns c =
    text_in
    (passed c.read_len.ensures c.in_ok-read_len.was)
    c.le32-size.ensures (passed c.read_wtf8.ensures c.in_ok-read_wtf8.was)
