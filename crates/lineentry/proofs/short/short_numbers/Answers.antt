-- `lineentry::short::short_numbers` meets its contract, number by number.
use Rattle.lineentry.specs.Short.{numbers_at}
use Rattle.lineentry.proofs.short.short_numbers.Goals as goal

pub returns : goal.returns
unfolding numbers_at
returns c = rw (c.short_number-last.ensures.0, c.short_number-column.ensures.0, c.short_number-end.ensures.0, c.short_number-step.ensures.0)
