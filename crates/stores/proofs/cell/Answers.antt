-- `cell` reads within the store and answers 0 past its end.
-- Assumes nothing.
use mathlib.Core.Path.{sym}
use lib.ListN.{get_or-eq_default}
use Rattle.stores.proofs.cell.Goals as goal

pub returns-else-i-store : goal.returns-else-i-store
returns-else-i-store c = sym (get_or-eq_default c.args.store.now 0 c.if-i-store.false)
