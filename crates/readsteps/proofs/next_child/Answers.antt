-- `next_child` asks for the next child by the kind of the children.
-- Assumes nothing.
use mathlib.Core.Path.{ap}
use Rattle.fields.specs.Behind.{children_of}
use Rattle.readsteps.proofs.next_child.Goals as goal

pub next_part-requires : goal.next_part-requires
next_part-requires c = (c.requires.0, c.requires.2 (ap children_of c.in-Parts.is), c.requires.1)

pub returns-in-Items : goal.returns-in-Items
returns-in-Items c = record { is = rw c.in-Items.is c.next_item.ensures }

pub returns-in-Pairs : goal.returns-in-Pairs
returns-in-Pairs c = record { is = rw c.in-Pairs.is c.next_key.ensures }

pub returns-in-Parts : goal.returns-in-Parts
returns-in-Parts c = record { is = rw c.in-Parts.is c.next_part.ensures }
