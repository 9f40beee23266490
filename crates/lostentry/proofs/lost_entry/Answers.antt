-- `lostentry::lost_entry` meets its contract: the laws of proofs/Told.
use Rattle.lostentry.proofs.Told.{lost-covers, lost-stop, lost_out}
use Rattle.lostentry.proofs.lost_entry.Goals as goal

pub returns-in-Covers : goal.returns-in-Covers
returns-in-Covers c = lost-covers _ _ c.read_entry.ensures c.in-Covers.is

pub returns-in-Stop : goal.returns-in-Stop
returns-in-Stop c = lost-stop _ _ c.read_entry.ensures c.in-Stop.is

pub returns-in-OutOfRange : goal.returns-in-OutOfRange
returns-in-OutOfRange c = lost_out _ _ c.read_entry.ensures c.in-OutOfRange.is c.may_heal.ensures
