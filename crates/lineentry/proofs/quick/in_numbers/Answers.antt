-- `lineentry::quick::in_numbers` meets its contract: the numbers of an entry are the entry.
use mathlib.Core.Path.{sym}
use Rattle.lineentry.proofs.quick.in_numbers.Goals as goal

pub returns-in-Covers : goal.returns-in-Covers
returns-in-Covers c = sym c.in-Covers.is
