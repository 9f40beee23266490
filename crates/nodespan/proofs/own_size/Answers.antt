-- The class, by its number. Assumes nothing.
use native.Mathlib.Omega.{arith}
use Rattle.fields.specs.Classes.{classes, class_at}
use Rattle.nodespan.proofs.Leads.{own_other}
use Rattle.nodespan.proofs.own_size.Goals as goal

pub returns-in-12 : goal.returns-in-12
unfolding classes class_at
returns-in-12 c = (rw (← c.class_of.ensures, c.in-12.is), omega arith)

pub returns-in_default : goal.returns-in_default
returns-in_default c = (rw (← c.class_of.ensures) (own_other c.class_of.result _ c.in_default.in_default-own.rest.1), omega arith)
