-- `write_entry` leaves the record's numbers in a row; the law of an entry's stores carries it.
-- Assumes nothing.
use Rattle.refusals.specs.Limits.{nothing}
use Rattle.stores.proofs.Records.{entry-stores}
use native.Mathlib.Omega.{arith}
use lib.ListN.{length-set}
use Rattle.stores.proofs.write_entry.Goals as goal

pub bounds-entries-base-2 : goal.bounds-entries-base-2
bounds-entries-base-2 c = simp length-set (omega arith)

pub returns : goal.returns
returns c = entry-stores c.args.entries.now c.args.e c.args.child nothing
