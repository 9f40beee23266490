-- `front` is the definition's front at every depth; a law of Fronts for each way out.
-- Assumes nothing.
use Rattle.readsteps.proofs.Fronts.{front-deep, front-end, front-known, front-no_slot, front-refused, front-no_node, front-opened}
use borrow.Author.Rules.{rules}
use Rattle.readsteps.proofs.front.Goals as goal

pub returns-then-allowance-eq0 : goal.returns-then-allowance-eq0
returns-then-allowance-eq0 c = search (front-deep, rules)

pub returns-then-s-at : goal.returns-then-s-at
returns-then-s-at c = search (front-end, rules)

pub returns-then-class-eq-REFERENCE_CLASS : goal.returns-then-class-eq-REFERENCE_CLASS
returns-then-class-eq-REFERENCE_CLASS c = search (front-known, rules)

pub returns-then-room-w : goal.returns-then-room-w
returns-then-room-w c = search (front-no_slot, rules)

pub returns-then-class-ge-REFUSED_CLASS : goal.returns-then-class-ge-REFUSED_CLASS
returns-then-class-ge-REFUSED_CLASS c = search (front-refused, rules)

pub returns-then-room-w-2 : goal.returns-then-room-w-2
returns-then-room-w-2 c = search (front-no_node, rules)

pub open_node-requires : goal.open_node-requires
open_node-requires c = (search rules, search rules)

pub returns : goal.returns
returns c = search (front-opened, rules)
