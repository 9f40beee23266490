-- `fields::read_pylong` meets its contract: the count, the digits and the last digit, as the definition has them.
-- Assumes nothing.
use mathlib.Core.Path.{ap, ◌∙◌}
use borrow.Author.Tests.{lt-leb}
use Rattle.grammar.specs.Fields.{digit_count, fields}
use Rattle.fields.specs.Behind.{fields_of}
use Rattle.refusals.proofs.Faults.{handed_on}
use Rattle.fields.proofs.Laws.{passed, failed, long-digits, long_last, long_in}
use native.Mathlib.Omega.{arith}
use Rattle.fields.proofs.read_pylong.Goals as goal

pub returns-then-from-p : goal.returns-then-from-p
unfolding fields_of fields
returns-then-from-p c = rw c.at.ensures (record { ahead = tt; exact = rw (lt-leb _ _ c.if-from-p.true) })

pub last_digit-requires : goal.last_digit-requires
last_digit-requires c =
    let fine = (passed c.read_digits.ensures c.in_ok-read_digits.was) in
    omega (arith, fine.within)

pub overflow_mul-result : goal.overflow_mul-result
overflow_mul-result c =
    let fine = (passed c.read_digits.ensures c.in_ok-read_digits.was) in
    omega (arith, fine.within)

pub overflow_add-result : goal.overflow_add-result
overflow_add-result c =
    let fine = (passed c.read_digits.ensures c.in_ok-read_digits.was) in
    omega (arith, fine.within)

pub returns-in_err-read_digits : goal.returns-in_err-read_digits
returns-in_err-read_digits c =
    rw (handed_on c.from_residual.ensures.1)
    (long-digits c.if-from-p.false
    (c.digit_count-count.ensures.0 ∙ ap digit_count c.le32.ensures)
    (failed c.read_digits.ensures c.in_err-read_digits.was))

pub returns-in_err-last_digit : goal.returns-in_err-last_digit
returns-in_err-last_digit c =
    rw (handed_on c.from_residual-in_err-last_digit.ensures.1)
    (long_last c.if-from-p.false
    (c.digit_count-count.ensures.0 ∙ ap digit_count c.le32.ensures)
    (passed c.read_digits.ensures c.in_ok-read_digits.was)
    (failed c.last_digit.ensures c.in_err-last_digit.was))

pub returns : goal.returns
returns c =
    long_in c.if-from-p.false
    (c.digit_count-count.ensures.0 ∙ ap digit_count c.le32.ensures)
    (passed c.read_digits.ensures c.in_ok-read_digits.was)
    (passed c.last_digit.ensures c.in_ok-last_digit.was)
