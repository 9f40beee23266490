-- `sources::long_turn` meets its contract: the numbers of code 14 tell its byte. Assumes nothing.
use mathlib.Core.Path.{sym, ◌∙◌}
use Rattle.sources.proofs.Turning.{turn-stops, turn-refuses, turn-gives, numbers-source}
use Rattle.sources.proofs.long_turn.Goals as goal

pub returns-in-OutOfRange : goal.returns-in-OutOfRange
returns-in-OutOfRange c = turn-refuses _ _ _ (sym c.long_entry.ensures ∙ c.in-OutOfRange.is)

pub returns-in-Stop : goal.returns-in-Stop
returns-in-Stop c = turn-stops _ _ _ (sym c.long_entry.ensures ∙ c.in-Stop.is)

pub returns-in-Covers : goal.returns-in-Covers
returns-in-Covers c = turn-gives _ _ _ _ (sym c.long_entry.ensures ∙ c.in-Covers.is) (c.by_numbers.ensures ∙ numbers-source _ _ _ _ _ c.requires.0 c.requires.1)
