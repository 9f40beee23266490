-- `exceptiontable::read_entry` meets its contract: four numbers, one behind the other, or the refusal of the first that is none.
-- Assumes nothing.
use Rattle.std.proofs.Common.{◌≡◌, ◌∙◌, Err, rules}
use Rattle.exceptiontable.specs.Reading.{code_from, target_from, size_from, entry_at}
use Rattle.exceptiontable.proofs.read_entry.Goals as goal

pub returns-in_err-start : goal.returns-in_err-start
unfolding entry_at
returns-in_err-start c =
    let passed : c.from_residual.result ≡ Err c.in_err-start.field-0.0 = search rules in
    passed ∙ rw (← c.first_number.ensures, c.in_err-start.was)

pub returns-in_err-size : goal.returns-in_err-size
unfolding entry_at size_from
returns-in_err-size c =
    let passed : c.from_residual-in_err-size.result ≡ Err c.in_err-size.field-0.0 = search rules in
    passed ∙ rw (← c.first_number.ensures, c.in_ok-start.was, ← c.later_number.ensures, c.in_err-size.was)

pub returns-in_err-target : goal.returns-in_err-target
unfolding entry_at size_from target_from
returns-in_err-target c =
    let passed : c.from_residual-in_err-target.result ≡ Err c.in_err-target.field-0.0 = search rules in
    passed ∙ rw (← c.first_number.ensures, c.in_ok-start.was, ← c.later_number.ensures, c.in_ok-size.was, ← c.later_number-2.ensures, c.in_err-target.was)

pub returns-in_err-code : goal.returns-in_err-code
unfolding entry_at size_from target_from code_from
returns-in_err-code c =
    let passed : c.from_residual-in_err-code.result ≡ Err c.in_err-code.field-0.0 = search rules in
    passed ∙ rw (← c.first_number.ensures, c.in_ok-start.was, ← c.later_number.ensures, c.in_ok-size.was, ← c.later_number-2.ensures, c.in_ok-target.was, ← c.later_number-3.ensures, c.in_err-code.was)

pub returns : goal.returns
unfolding entry_at size_from target_from code_from
returns c = rw (← c.first_number.ensures, c.in_ok-start.was, ← c.later_number.ensures, c.in_ok-size.was, ← c.later_number-2.ensures, c.in_ok-target.was, ← c.later_number-3.ensures, c.in_ok-code.was)
