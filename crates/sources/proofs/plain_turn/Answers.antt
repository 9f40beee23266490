-- `sources::plain_turn` meets its contract: codes 0 to 12 have a line and both columns. Assumes nothing.
use mathlib.Core.Path.{sym, ◌∙◌}
use Rattle.sources.proofs.Turning.{turn-stops, turn-refuses, turn-gives, plain_byte}
use Rattle.sources.proofs.plain_turn.Goals as goal

pub returns-in-OutOfRange : goal.returns-in-OutOfRange
returns-in-OutOfRange c = turn-refuses _ _ _ (sym c.plain_entry.ensures ∙ c.in-OutOfRange.is)

pub returns-in-Stop : goal.returns-in-Stop
returns-in-Stop c = turn-stops _ _ _ (sym c.plain_entry.ensures ∙ c.in-Stop.is)

pub returns-in-Covers : goal.returns-in-Covers
returns-in-Covers c = turn-gives _ _ _ _ (sym c.plain_entry.ensures ∙ c.in-Covers.is) (plain_byte _ _ _ _ _ c.requires c.sum_of.ensures c.is_above.ensures)
