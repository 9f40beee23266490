-- `piecestate::open_entry` meets its contract: the laws of proofs/Looks.
use Rattle.piecestate.proofs.Looks.{open_covers, open_stop, open_out}
use Rattle.piecestate.proofs.open_entry.Goals as goal

pub returns-in-Covers : goal.returns-in-Covers
returns-in-Covers c = open_covers _ _ c.read_entry.ensures c.in-Covers.is

pub returns-in-Stop : goal.returns-in-Stop
returns-in-Stop c = open_stop _ _ c.read_entry.ensures c.in-Stop.is

pub returns-in-OutOfRange : goal.returns-in-OutOfRange
returns-in-OutOfRange c = open_out _ _ c.read_entry.ensures c.in-OutOfRange.is c.lost_entry.ensures
