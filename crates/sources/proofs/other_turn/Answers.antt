-- `sources::other_turn` meets its contract by what its callees ensure. Assumes nothing.
use mathlib.Core.Path.{sym, ◌∙◌}
use Rattle.sources.proofs.Long.{entry-long}
use Rattle.sources.proofs.Turning.{turn-stops, turn-refuses, turn-gives}
use Rattle.sources.proofs.other_turn.Goals as goal

pub source_of-requires : goal.source_of-requires
source_of-requires c = entry-long _ _ _ _ (sym c.read_entry.ensures ∙ c.in-Covers.is)

pub returns-in-OutOfRange : goal.returns-in-OutOfRange
returns-in-OutOfRange c = turn-refuses _ _ _ (sym c.read_entry.ensures ∙ c.in-OutOfRange.is)

pub returns-in-Stop : goal.returns-in-Stop
returns-in-Stop c = turn-stops _ _ _ (sym c.read_entry.ensures ∙ c.in-Stop.is)

pub returns-in-Covers : goal.returns-in-Covers
returns-in-Covers c = turn-gives _ _ _ _ (sym c.read_entry.ensures ∙ c.in-Covers.is) c.source_of.ensures
