-- `attach` makes the next line and the next entries; a law of Links for each way out.
-- Assumes nothing.
use native.Mathlib.Omega.{arith}
use Rattle.readsteps.proofs.Links.{attach_none, attach_first, attach_next}
use borrow.Author.Rules.{rules}
use Rattle.readsteps.proofs.attach.Goals as goal

pub returns-then-room-e : goal.returns-then-room-e
returns-then-room-e c = search (attach_none, rules)

pub returns-then-last : goal.returns-then-last
returns-then-last c = search (attach_first, rules)

pub link_entry-requires : goal.link_entry-requires
link_entry-requires c = omega (arith, c.requires.2 c.if-last.false)

pub returns : goal.returns
returns c = search (attach_next, rules)
