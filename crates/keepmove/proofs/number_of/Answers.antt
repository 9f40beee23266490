-- `number_of` reads within the store and answers 0 past its end. Assumes nothing.
use mathlib.Core.Path.{sym}
use lib.ListN.{get_or-eq_default}
use Rattle.keepmove.proofs.number_of.Goals as goal

pub returns-else-at-nodes : goal.returns-else-at-nodes
returns-else-at-nodes c = sym (get_or-eq_default c.args.nodes.now 0 c.if-at-nodes.false)
